-- One more byte of a string.
use Rattle.std.proofs.Common.{◌≡◌, ◌<◌, ◌≤◌, ◌==◌, ◌&&◌, not, inl, inr, ℕ, suc, ◌+◌, ◌-◌, Bool, false, List, get_or, sym, ◌∙◌, ap, subst, arith}
use Rattle.std.proofs.lemmas.Bool.{cases_lt}
use Rattle.vlog_tokens.specs.Strings.{is_quote, is_taken}

pub taken_next : (s : List ℕ) (from at : ℕ) (taken next : Bool) → from ≤ at → taken ≡ is_taken s from (at - from)
    → next ≡ (get_or s at 0 == 92 && not taken) → next ≡ is_taken s from (at + 1 - from)
taken_next s from at taken next h e n =
    let place : at ≡ from + (at - from) = omega arith in
    let size : at + 1 - from ≡ suc (at - from) = omega arith in
    n ∙ ap (λ (k : ℕ). get_or s k 0 == 92 && not taken) place ∙ ap (λ (b : Bool). get_or s (from + (at - from)) 0 == 92 && not b) e
    ∙ sym (ap (λ (k : ℕ). is_taken s from k) size)

pub quote_none : (s : List ℕ) (from at : ℕ) (taken : Bool) → from ≤ at → taken ≡ is_taken s from (at - from)
    → (get_or s at 0 == 34 && not taken) ≡ false → ((k : ℕ) → k < at - from → is_quote s from k ≡ false)
    → (k : ℕ) → k < at + 1 - from → is_quote s from k ≡ false
quote_none s from at taken h e n none k inside = elim (cases_lt k (at - from)) [
  | inl less ↦ none k less
  | inr more ↦
      let same : k ≡ at - from = omega arith in
      let place : from + k ≡ at = omega arith in
      ap (λ (j : ℕ). get_or s j 0 == 34 && not (is_taken s from k)) place ∙ ap (λ (j : ℕ). get_or s at 0 == 34 && not (is_taken s from j)) same
      ∙ ap (λ (b : Bool). get_or s at 0 == 34 && not b) (sym e) ∙ n
]

pub line_none : (s : List ℕ) (from at : ℕ) → from ≤ at → (get_or s at 0 ≡ 10 → ⊥)
    → ((k : ℕ) → k < at - from → get_or s (from + k) 0 ≡ 10 → ⊥) → (k : ℕ) → k < at + 1 - from → get_or s (from + k) 0 ≡ 10 → ⊥
line_none s from at h n none k inside is = elim (cases_lt k (at - from)) [
  | inl less ↦ none k less is
  | inr more ↦
      let place : from + k ≡ at = omega arith in
      n (subst (λ (j : ℕ). get_or s j 0 ≡ 10) place is)
]
