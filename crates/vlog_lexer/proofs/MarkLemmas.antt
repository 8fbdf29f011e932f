-- The longest mark at a place has two bytes or one.
use Rattle.std.proofs.Common.{◌≡◌, ◌≤◌, ◌==◌, inl, inr, ℕ, ◌+◌, ◌-◌, Bool, true, ◌||◌, ◌⊎◌, List, length, drop, refl, ◌∙◌, subst, arith}
use Rattle.std.specs.List.{Contains, slice_range}
use Rattle.std.proofs.lemmas.Bool.Decides.{nat_tests}
use Rattle.std.proofs.lemmas.List.{length-drop, length-take}
use Rattle.std.proofs.lemmas.List.Elements.{All-contains}
use Rattle.std.proofs.lemmas.List.Sums.{AllPass-from_list_all}
use Rattle.vlog_tokens.specs.Forms.{IsMark}
use Rattle.vlog_tokens.specs.Tables.{marks}

abbrev is_short : List ℕ → Bool
is_short text = length text == 1 || length text == 2

one_or_two : (n : ℕ) → (n == 1 || n == 2) ≡ true → (n ≡ 1) ⊎ (n ≡ 2)
one_or_two n h = grind (arith, nat_tests)

short : (text : List ℕ) → Contains marks text → (length text ≡ 1) ⊎ (length text ≡ 2)
unfolding marks
short text h = one_or_two (length text) (All-contains (λ mark. is_short mark ≡ true) marks text (AllPass-from_list_all is_short marks refl) h)

-- A mark at this place ends one or two bytes later.
near : (s : List ℕ) (at to : ℕ) → to ≤ length s → Contains marks (slice_range s at to) → (to ≡ at + 1) ⊎ (to ≡ at + 2)
near s at to h m =
    let size : length (slice_range s at to) ≡ to - at = length-take (to - at) (drop at s) ∙ omega (arith, length-drop at s) in
    elim (short (slice_range s at to) m) [
      | inl e ↦ inl (omega arith)
      | inr e ↦ inr (omega arith)
    ]

pub two_bytes : (s : List ℕ) (at : ℕ) → at + 2 ≤ length s → Contains marks (slice_range s at (at + 2)) → IsMark s at (at + 2)
two_bytes s at h m = record {
  within = h;
  known = m;
  longest = λ k inside known. elim (near s at k inside known) [ inl e ↦ omega arith | inr e ↦ omega arith ];
}

pub one_byte : (s : List ℕ) (at : ℕ) → at + 1 ≤ length s → Contains marks (slice_range s at (at + 1))
    → (at + 2 ≤ length s → Contains marks (slice_range s at (at + 2)) → ⊥) → IsMark s at (at + 1)
one_byte s at h m none = record {
  within = h;
  known = m;
  longest = λ k inside known. elim (near s at k inside known) [
    | inl e ↦ omega arith
    | inr e ↦ absurd (none (subst (λ (n : ℕ). n ≤ length s) e inside) (subst (λ (n : ℕ). Contains marks (slice_range s at n)) e known))
  ];
}

pub no_bytes : (s : List ℕ) (at to : ℕ) → (Contains marks (slice_range s at (at + 1)) → ⊥)
    → (at + 2 ≤ length s → Contains marks (slice_range s at (at + 2)) → ⊥) → IsMark s at to → ⊥
no_bytes s at to one two p = elim (near s at to p.within p.known) [
  | inl e ↦ one (subst (λ (n : ℕ). Contains marks (slice_range s at n)) e p.known)
  | inr e ↦ two (subst (λ (n : ℕ). n ≤ length s) e p.within) (subst (λ (n : ℕ). Contains marks (slice_range s at n)) e p.known)
]
