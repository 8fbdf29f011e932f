-- Counts of the bits of instances.
use Rattle.std.proofs.Common.{◌≡◌, ℕ, zero, suc, ◌+◌, ◌≤◌, List, [], ◌∷◌, Some, refl, sym, ◌∙◌, ap, arith, add-one, length, map, slice_get, sum, take}
use Rattle.std.proofs.lemmas.List.Sums.{sum_by-cons}
use Rattle.std.proofs.lemmas.Option.{same_Some}
use Rattle.vlog_tree.specs.Meaning.Instances.{Instance}
use Rattle.numbering.specs.Bits.{driven_bits, register_bits}
use Rattle.numbering.specs.Frames.{driven_before, registers_before}
use Rattle.numbering.specs.Numbering.{is_top}

-- the sum of what is counted of the first members
abbrev sums : {X : Type 0} → (X → ℕ) → List X → ℕ → ℕ
sums count xs zero = 0
sums count [] (suc i) = 0
sums count (x ∷ xs) (suc i) = count x + sums count xs i

sum_take : {X : Type 0} (count : X → ℕ) (xs : List X) (i : ℕ) → sum (map count (take i xs)) ≡ sums count xs i
sum_take count xs zero = refl
sum_take count [] (suc i) = refl
sum_take count (x ∷ xs) (suc i) =
    sum_by-cons (λ (n : ℕ). n) (count x) (map count (take i xs)) ∙ ap (λ n. count x + n) (sum_take count xs i)

sums_more : {X : Type 0} (count : X → ℕ) (xs : List X) (i : ℕ) (x : X) → slice_get xs i ≡ Some x
    → sums count xs (suc i) ≡ sums count xs i + count x
sums_more count [] i x at = absurd (cc)
sums_more count (y ∷ ys) zero x at =
    let same : count y ≡ count x = ap count (same_Some y x at) in omega arith
sums_more count (y ∷ ys) (suc i) x at =
    let rest : sums count ys (suc i) ≡ sums count ys i + count x = sums_more count ys i x at in omega arith

sums_within : {X : Type 0} (count : X → ℕ) (xs : List X) (i : ℕ) (x : X) → slice_get xs i ≡ Some x
    → sums count xs i + count x ≤ sums count xs (length xs)
sums_within count [] i x at = absurd (cc)
sums_within count (y ∷ ys) zero x at =
    let same : count y ≡ count x = ap count (same_Some y x at) in omega arith
sums_within count (y ∷ ys) (suc i) x at =
    let rest : sums count ys i + count x ≤ sums count ys (length ys) = sums_within count ys i x at in omega arith

module _ {X : Type 0} (count : X → ℕ) (xs : List X) (i : ℕ) (x : X) (at : slice_get xs i ≡ Some x) where
  sum_more : sum (map count (take (i + 1) xs)) ≡ sum (map count (take i xs)) + count x
  sum_more =
      ap (λ n. sum (map count (take n xs))) (add-one i) ∙ sum_take count xs (suc i) ∙ sums_more count xs i x at
      ∙ ap (λ n. n + count x) (sym (sum_take count xs i))

  sum_within : sum (map count (take i xs)) + count x ≤ sum (map count (take (length xs) xs))
  sum_within =
      let one : sum (map count (take i xs)) ≡ sums count xs i = sum_take count xs i in
      let all : sum (map count (take (length xs) xs)) ≡ sums count xs (length xs) = sum_take count xs (length xs) in
      let rest : sums count xs i + count x ≤ sums count xs (length xs) = sums_within count xs i x at in
      omega arith

module _ (list : List Instance) (i : ℕ) (instance : Instance) (at : slice_get list i ≡ Some instance) where
  pub registers_more : registers_before list (i + 1) ≡ registers_before list i + length (register_bits instance.definition)
  registers_more = sum_more (λ (instance : Instance). length (register_bits instance.definition)) list i instance at

  pub driven_more : driven_before list (i + 1) ≡ driven_before list i + length (driven_bits (is_top instance) instance.definition)
  driven_more = sum_more (λ (instance : Instance). length (driven_bits (is_top instance) instance.definition)) list i instance at

  pub registers_within : registers_before list i + length (register_bits instance.definition) ≤ registers_before list (length list)
  registers_within = sum_within (λ (instance : Instance). length (register_bits instance.definition)) list i instance at

  pub driven_within : driven_before list i + length (driven_bits (is_top instance) instance.definition) ≤ driven_before list (length list)
  driven_within = sum_within (λ (instance : Instance). length (driven_bits (is_top instance) instance.definition)) list i instance at
