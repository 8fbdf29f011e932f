-- Rows with one input at a value.
use Rattle.std.specs.Prelude.{◌≡◌, ◌==◌, ◌&&◌, ◌+◌, ◌<◌, ℕ, zero, suc, List, ◌∷◌, Bool, false, Option, None, length, map, refl, replicate, slice_set}
use Rattle.std.specs.List.{range_with_len}
use Rattle.std.proofs.Common.{ap, arith, sym, ◌∙◌}
use Rattle.std.proofs.lemmas.Bool.{eq-eqb, ne_eqb}
use Rattle.std.proofs.lemmas.List.FromFn.{length-map-range_with_len}
use Rattle.flat_net.specs.declared.setup.Reset.{Reset}
use Rattle.flat_net.specs.Nets.{Net}
use Rattle.levelise.specs.Machine.{base_row, row_with}

-- behind its place all are 0
none_behind : (bit : ℕ) (value : Bool) (from count : ℕ) → bit < from
    → replicate count false ≡ map (λ place. (place == bit) && value) (range_with_len from count)
none_behind bit value from zero after = refl
none_behind bit value from (suc count) after =
    ap (λ (b : Bool). (b && value) ∷ replicate count false) (sym (ne_eqb from bit (λ same. omega arith)))
    ∙ ap (λ (bits : List Bool). ((from == bit) && value) ∷ bits) (none_behind bit value (from + 1) count (omega arith))

one_set : (bit : ℕ) (value : Bool) (from place count : ℕ) → from + place ≡ bit
    → slice_set (replicate count false) place value ≡ map (λ place. (place == bit) && value) (range_with_len from count)
one_set bit value from place zero is = refl
one_set bit value from zero (suc count) is =
    ap (λ (b : Bool). (b && value) ∷ replicate count false) (sym (eq-eqb from bit (omega arith)))
    ∙ ap (λ (bits : List Bool). ((from == bit) && value) ∷ bits) (none_behind bit value (from + 1) count (omega arith))
one_set bit value from (suc place) (suc count) is =
    ap (λ (b : Bool). (b && value) ∷ slice_set (replicate count false) place value) (sym (ne_eqb from bit (λ same. omega arith)))
    ∙ ap (λ (bits : List Bool). ((from == bit) && value) ∷ bits) (one_set bit value (from + 1) place count (omega arith))

-- zeros with one bit set
pub row_is : (bit : ℕ) (value : Bool) (count : ℕ)
    → slice_set (replicate count false) bit value ≡ map (λ place. (place == bit) && value) (range_with_len 0 count)
row_is bit value count = one_set bit value 0 bit count (omega arith)

-- zeros alone
zeros_from : (from count : ℕ) → replicate count false ≡ map (λ (place : ℕ). false) (range_with_len from count)
zeros_from from zero = refl
zeros_from from (suc count) = ap (λ (bits : List Bool). false ∷ bits) (zeros_from (from + 1) count)

pub zeros_are : (count : ℕ) → replicate count false ≡ map (λ (place : ℕ). false) (range_with_len 0 count)
zeros_are count = zeros_from 0 count

-- ---- the rows of a net

pub row_made : (net : Net) (count bit : ℕ) (value : Bool) (zeros row : List Bool) → zeros ≡ replicate count false → count ≡ net.inputs
    → row ≡ slice_set zeros bit value → row ≡ row_with net bit value
row_made net count bit value zeros row zeros_is count_is row_set =
    row_set ∙ ap (λ one. slice_set one bit value) zeros_is ∙ row_is bit value count
    ∙ ap (λ n. map (λ place. (place == bit) && value) (range_with_len 0 n)) count_is

pub base_made : (net : Net) (count : ℕ) (reset : Option Reset) (row : List Bool) → row ≡ replicate count false → count ≡ net.inputs
    → reset ≡ None → row ≡ base_row net reset
base_made net count reset row made count_is none =
    made ∙ zeros_are count ∙ ap (λ n. map (λ (place : ℕ). false) (range_with_len 0 n)) count_is ∙ ap (base_row net) (sym none)

pub row_counted : (net : Net) (bit : ℕ) (value : Bool) (row : List Bool) → row ≡ row_with net bit value → length row ≡ net.inputs
row_counted net bit value row made = ap length made ∙ length-map-range_with_len (λ place. (place == bit) && value) 0 net.inputs
