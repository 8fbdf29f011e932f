-- Numbers in their order.
use Rattle.std.proofs.Common.{◌≡◌, ◌≤◌, ◌<◌, ◌+◌, ◌==◌, ℕ, suc, List, [], ◌∷◌, ◌++◌, Bool, true, false, ◌||◌, ◌&&◌, cond, Option, None, Some, refl, ap, sym, ◌∙◌, subst, arith, get_or, inl, inr, reverse}
use Rattle.std.proofs.lemmas.Bool.{cases_lt, eq-eqb, eqb-true}
use Rattle.std.proofs.lemmas.Iterator.Adapters.{position_from-zero}
use Rattle.std.proofs.lemmas.List.{map-append, reverse-append}
use Rattle.std.proofs.lemmas.List.Folds.{list_any-append}
use Rattle.std.specs.List.{filter_map, list_any, position_from}
use Rattle.std.specs.List.Sorted.{IsStrictlyIncreasing}
use Rattle.numbering.specs.Bits.{register_bits}
use Rattle.numbering.proofs.BitLemmas.{or_left_false, or_right_false}
use Rattle.processes.specs.Numbers.{Adds, holds, is_number, number_among, numbers_down, numbers_of, ordered_numbers, places_from}
use Rattle.processes.proofs.ApartLemmas.{Apart, bits_same, registers_apart, same_back}
use Rattle.processes.proofs.PutLemmas.{down_bits}
use Rattle.vlog_tree.specs.declared.design.Module.{Module}
use Rattle.vlog_tree.specs.Meaning.Lefts.{Bit, same_bit}

-- ---- lists that rise and have the same numbers

abbrev Rises : ℕ → List ℕ → Type 0
Rises low [] = Unit {0}
Rises low (x ∷ xs) = (low ≤ x) × Rises (x + 1) xs

rises_from : (low x : ℕ) (xs : List ℕ) → low ≤ x → IsStrictlyIncreasing (x ∷ xs) → Rises low (x ∷ xs)
rises_from low x [] le increasing = (le, tt)
rises_from low x (y ∷ ys) le increasing = (
  le,
  rises_from (x + 1) y ys (omega (arith, increasing 0 (omega arith)))
      (λ k within.
      let place : suc k + 1 ≡ suc (k + 1) = omega arith in
      subst (λ n. get_or (y ∷ ys) k 0 < get_or (x ∷ y ∷ ys) n 0) place (increasing (suc k) (omega (arith, within)))),
)

rises : (xs : List ℕ) → IsStrictlyIncreasing xs → Rises 0 xs
rises [] increasing = tt
rises (x ∷ xs) increasing = rises_from 0 x xs (omega arith) increasing

less_differs : (n k : ℕ) → n < k → (n == k) ≡ false
less_differs n k below = by (n == k) refl
  where
    by : (b : Bool) → (n == k) ≡ b → b ≡ false
    by true is = absurd (omega (arith, below, eqb-true n k is))
    by false is = refl

below_all : (low : ℕ) (xs : List ℕ) (n : ℕ) → Rises low xs → n < low → list_any (λ other. n == other) xs ≡ false
below_all low [] n rise below = refl
below_all low (x ∷ xs) n (le, rise) below =
    (λ j. less_differs n x (omega (arith, le, below)) j || below_all (x + 1) xs n rise (omega (arith, le, below)) j)

same_numbers : (low : ℕ) (xs ys : List ℕ) → Rises low xs → Rises low ys
    → ((n : ℕ) → list_any (λ other. n == other) xs ≡ list_any (λ other. n == other) ys) → xs ≡ ys
same_numbers low [] [] xs_rise ys_rise same = refl
same_numbers low [] (y ∷ ys) xs_rise ys_rise same =
    absurd (let it = same y in let here = ap (λ b. b || list_any (λ other. y == other) ys) (eq-eqb y y refl) in cc)
same_numbers low (x ∷ xs) [] xs_rise ys_rise same =
    absurd (let it = same x in let here = ap (λ b. b || list_any (λ other. x == other) xs) (eq-eqb x x refl) in cc)
same_numbers low (x ∷ xs) (y ∷ ys) (x_le, xs_rise) (y_le, ys_rise) same =
    elim (cases_lt x y) as (λ c. (x ∷ xs) ≡ (y ∷ ys)) [
      | inl below ↦
          absurd (
          let it = same x in
          let here = ap (λ b. b || list_any (λ other. x == other) xs) (eq-eqb x x refl) in
          let none = below_all y (y ∷ ys) x (omega arith, ys_rise) below in
          cc
          )
      | inr above ↦ elim (cases_lt y x) as (λ c. (x ∷ xs) ≡ (y ∷ ys)) [
        | inl below ↦
            absurd (
            let it = same y in
            let here = ap (λ b. b || list_any (λ other. y == other) ys) (eq-eqb y y refl) in
            let none = below_all x (x ∷ xs) y (omega arith, xs_rise) below in
            cc
            )
        | inr other_above ↦
            let is : x ≡ y = omega arith in
            let ys_rise' : Rises (x + 1) ys = subst (λ n. Rises (n + 1) ys) (sym is) ys_rise in
            (λ j. is j ∷ same_numbers (x + 1) xs ys xs_rise ys_rise' (λ n. rest is ys_rise' n) j)
      ]
    ]
  where
    by : (n : ℕ) → Rises (x + 1) ys → (b : Bool) → (n == x) ≡ b → (b || list_any (λ other. n == other) xs) ≡ (b || list_any (λ other. n == other) ys)
        → list_any (λ other. n == other) xs ≡ list_any (λ other. n == other) ys
    by n rise true n_is both =
        let n_x : n ≡ x = eqb-true n x n_is in
        below_all (x + 1) xs n xs_rise (omega (arith, n_x)) ∙ sym (below_all (x + 1) ys n rise (omega (arith, n_x)))
    by n rise false n_is both = both

    rest : x ≡ y → Rises (x + 1) ys → (n : ℕ) → list_any (λ other. n == other) xs ≡ list_any (λ other. n == other) ys
    rest is rise n =
        by n rise (n == x) refl (same n ∙ ap (λ y. (n == y) || list_any (λ other. n == other) ys) (sym is))

-- ---- the places of elements

rises_more : (low more : ℕ) (xs : List ℕ) → low ≤ more → Rises more xs → Rises low xs
rises_more low more [] le rise = tt
rises_more low more (x ∷ xs) le (first, rise) = (omega (arith, le, first), rise)

places_rise : {X : Type 0} (test : X → Bool) (start : ℕ) (xs : List X) → Rises start (places_from test start xs)
places_rise test start [] = tt
places_rise test start (x ∷ xs) = by (test x) (places_rise test (start + 1) xs)
  where
    by : (b : Bool) → Rises (start + 1) (places_from test (start + 1) xs)
        → Rises start (cond b (start ∷ places_from test (start + 1) xs) (places_from test (start + 1) xs))
    by true rise = (omega arith, rise)
    by false rise = rises_more start (start + 1) (places_from test (start + 1) xs) (omega arith) rise

-- whether the element at a place passes
abbrev passes_at : {X : Type 0} → (X → Bool) → ℕ → List X → ℕ → Bool
passes_at test start [] n = false
passes_at test start (x ∷ xs) n = ((n == start) && test x) || passes_at test (start + 1) xs n

and_true : (c : Bool) → c ≡ (c && true)
and_true true = refl
and_true false = refl

passing : {X : Type 0} (test : X → Bool) (start : ℕ) (xs : List X) (n : ℕ) → list_any (λ other. n == other) (places_from test start xs) ≡ passes_at test start xs n
passing test start [] n = refl
passing {X = X} test start (x ∷ xs) n = by (test x) (passing test (start + 1) xs n)
  where
    none : (c s : Bool) → s ≡ ((c && false) || s)
    none true s = refl
    none false s = refl

    by : (b : Bool) → list_any (λ other. n == other) (places_from test (start + 1) xs) ≡ passes_at test (start + 1) xs n
        → list_any (λ other. n == other) (cond b (start ∷ places_from test (start + 1) xs) (places_from test (start + 1) xs))
        ≡ (((n == start) && b) || passes_at test (start + 1) xs n)
    by true ih = (λ j. and_true (n == start) j || ih j)
    by false ih = ih ∙ none (n == start) (passes_at test (start + 1) xs n)

either_or : (e a b s t : Bool) → ((e && (a || b)) || (s || t)) ≡ (((e && a) || s) || ((e && b) || t))
either_or false a b s t = refl
either_or true true b s t = refl
either_or true false false s t = refl
either_or true false true true t = refl
either_or true false true false t = refl

passes_or : {X : Type 0} (one other : X → Bool) (start : ℕ) (xs : List X) (n : ℕ)
    → passes_at (λ x. one x || other x) start xs n ≡ (passes_at one start xs n || passes_at other start xs n)
passes_or one other start [] n = refl
passes_or one other start (x ∷ xs) n =
    ap (λ b. ((n == start) && (one x || other x)) || b) (passes_or one other (start + 1) xs n)
    ∙ either_or (n == start) (one x) (other x) (passes_at one (start + 1) xs n) (passes_at other (start + 1) xs n)

no_pass : {X : Type 0} (start : ℕ) (xs : List X) (n : ℕ) → passes_at (λ x. false) start xs n ≡ false
no_pass start [] n = refl
no_pass start (x ∷ xs) n = by (n == start) ∙ no_pass (start + 1) xs n
  where
    by : (b : Bool) → ((b && false) || passes_at (λ x. false) (start + 1) xs n) ≡ passes_at (λ x. false) (start + 1) xs n
    by true = refl
    by false = refl

-- ---- the number of one bit

none_passes : (bit : Bit) (start : ℕ) (bits : List Bit) (n : ℕ) → list_any (same_bit bit) bits ≡ false
    → passes_at (λ other. same_bit other bit) start bits n ≡ false
none_passes bit start [] n none = refl
none_passes bit start (other ∷ bits) n none =
    let differs : same_bit other bit ≡ false = same_back other bit ∙ or_left_false (same_bit bit other) (list_any (same_bit bit) bits) none in
    ap (λ b. ((n == start) && b) || passes_at (λ other. same_bit other bit) (start + 1) bits n) differs
    ∙ by (n == start)
    ∙ none_passes bit (start + 1) bits n (or_right_false (same_bit bit other) (list_any (same_bit bit) bits) none)
  where
    by : (b : Bool) → ((b && false) || passes_at (λ other. same_bit other bit) (start + 1) bits n) ≡ passes_at (λ other. same_bit other bit) (start + 1) bits n
    by true = refl
    by false = refl

number_from : (bit : Bit) (start : ℕ) (bits : List Bit) (n : ℕ) → Apart bits
    → is_number n (position_from (same_bit bit) start bits) ≡ passes_at (λ other. same_bit other bit) start bits n
number_from bit start [] n apart = refl
number_from bit start (other ∷ bits) n (none, apart) = by (same_bit bit other) refl (number_from bit (start + 1) bits n apart)
  where
    here : (c : Bool) → c ≡ ((c && true) || false)
    here true = refl
    here false = refl

    and_false : (c s : Bool) → s ≡ ((c && false) || s)
    and_false true s = refl
    and_false false s = refl

    by : (b : Bool) → same_bit bit other ≡ b
        → is_number n (position_from (same_bit bit) (start + 1) bits) ≡ passes_at (λ other. same_bit other bit) (start + 1) bits n
        → is_number n (cond b (Some start) (position_from (same_bit bit) (start + 1) bits))
        ≡ (((n == start) && same_bit other bit) || passes_at (λ other. same_bit other bit) (start + 1) bits n)
    by true same ih =
        let back : true ≡ same_bit other bit = sym (same_back other bit ∙ same) in
        let none_here : false ≡ passes_at (λ other. same_bit other bit) (start + 1) bits n =
        sym (none_passes bit (start + 1) bits n (ap (λ bit. list_any (same_bit bit) bits) (bits_same bit other same) ∙ none)) in
        here (n == start) ∙ (λ j. ((n == start) && back j) || none_here j)
    by false differs ih =
        let back : false ≡ same_bit other bit = sym (same_back other bit ∙ differs) in
        ih ∙ and_false (n == start) (passes_at (λ other. same_bit other bit) (start + 1) bits n)
        ∙ ap (λ b. ((n == start) && b) || passes_at (λ other. same_bit other bit) (start + 1) bits n) back

-- The numbers of bits are the places at which they stand.
holds_places : (m : Module) (bits : List Bit) (n : ℕ)
    → holds n (numbers_of m bits) ≡ passes_at (λ bit. list_any (same_bit bit) bits) 0 (register_bits m) n
holds_places m [] n = sym (no_pass 0 (register_bits m) n)
holds_places m (bit ∷ bits) n =
    let one : is_number n (number_among m bit) ≡ passes_at (λ other. same_bit other bit) 0 (register_bits m) n =
    ap (is_number n) (position_from-zero (same_bit bit) (register_bits m)) ∙ number_from bit 0 (register_bits m) n (registers_apart m) in
    (λ j. one j || holds_places m bits n j)
    ∙ sym (passes_or (λ other. same_bit other bit) (λ other. list_any (same_bit other) bits) 0 (register_bits m) n)

-- Numbers that rise and are those of bits are these in their order.
pub are_ordered : (m : Module) (bits : List Bit) (sorted : List ℕ) → IsStrictlyIncreasing sorted
    → ((n : ℕ) → list_any (λ other. n == other) sorted ≡ holds n (numbers_of m bits)) → sorted ≡ ordered_numbers m bits
are_ordered m bits sorted increasing same =
    same_numbers 0 sorted (ordered_numbers m bits) (rises sorted increasing) (places_rise (λ bit. list_any (same_bit bit) bits) 0 (register_bits m))
    (λ n. same n ∙ holds_places m bits n ∙ sym (passing (λ bit. list_any (same_bit bit) bits) 0 (register_bits m) n))

-- ---- numbers that are added

numbers_append : (m : Module) (one other : List Bit) → numbers_of m (one ++ other) ≡ numbers_of m one ++ numbers_of m other
numbers_append m one other = map-append (number_among m) one other

pub holds_append : (n : ℕ) (one other : List (Option ℕ)) → holds n (one ++ other) ≡ (holds n one || holds n other)
holds_append n one other = list_any-append (is_number n) one other

or_none : (b : Bool) → b ≡ (b || false)
or_none true = refl
or_none false = refl

or_assoc : (a b c : Bool) → ((a || b) || c) ≡ (a || (b || c))
or_assoc true b c = refl
or_assoc false b c = refl

or_swap : (a b : Bool) → (a || b) ≡ (b || a)
or_swap true true = refl
or_swap true false = refl
or_swap false true = refl
or_swap false false = refl

holds_reverse : (n : ℕ) (numbers : List (Option ℕ)) → holds n (reverse numbers) ≡ holds n numbers
holds_reverse n [] = refl
holds_reverse n (number ∷ numbers) =
    ap (holds n) (reverse-append (number ∷ []) numbers)
    ∙ holds_append n (reverse numbers) (number ∷ [])
    ∙ (λ j. holds_reverse n numbers j || sym (or_none (is_number n number)) j)
    ∙ or_swap (holds n numbers) (is_number n number)

pub adds_none : (m : Module) (numbers : List (Option ℕ)) → Adds m [] numbers numbers
adds_none m numbers n = or_none (holds n numbers)

pub adds_then : (m : Module) (one other : List Bit) (old between new : List (Option ℕ)) → Adds m one old between → Adds m other between new
    → Adds m (one ++ other) old new
adds_then m one other old between new first second n =
    second n
    ∙ ap (λ b. b || holds n (numbers_of m other)) (first n)
    ∙ or_assoc (holds n old) (holds n (numbers_of m one)) (holds n (numbers_of m other))
    ∙ ap (λ b. holds n old || b) (sym (holds_append n (numbers_of m one) (numbers_of m other)) ∙ ap (holds n) (sym (numbers_append m one other)))

pub adds_left : (m : Module) (bits : List Bit) (old new : List (Option ℕ)) → new ≡ old ++ numbers_down m bits → Adds m bits old new
adds_left m bits old new is n =
    ap (holds n) is
    ∙ holds_append n old (numbers_down m bits)
    ∙ ap (λ b. holds n old || b) (sym (holds_reverse n (numbers_down m bits)) ∙ ap (holds n) (down_bits m bits))

-- ---- those that are there

pub holds_present : (n : ℕ) (numbers : List (Option ℕ)) → list_any (λ other. n == other) (filter_map (λ number. number) numbers) ≡ holds n numbers
holds_present n [] = refl
holds_present n (None ∷ numbers) = holds_present n numbers
holds_present n (Some number ∷ numbers) = ap (λ b. (n == number) || b) (holds_present n numbers)
