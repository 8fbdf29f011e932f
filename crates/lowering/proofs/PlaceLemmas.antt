-- Values by their places.
use Rattle.std.specs.Prelude.{◌≡◌, ℕ, zero, suc, ◌+◌, ◌-◌, ◌<◌, ◌≤◌, List, [], ◌∷◌, ◌++◌, Bool, false, Option, Some, cond, length, map, refl, replicate, slice_index_or}
use Rattle.std.specs.List.{range_with_len}
use Rattle.std.proofs.Common.{ap, arith, sym, subst, ◌∙◌}
use Rattle.std.proofs.lemmas.Bool.{le-ltb, lt-ltb}
use Rattle.std.proofs.lemmas.List.FromFn.{length-map-range_with_len}
use Rattle.flat_net.specs.declared.edge.Edge.{Edge}
use Rattle.flat_net.specs.Values.{Reading, edge_value}
use Rattle.vlog_tree.specs.Meaning.Expressions.{Names, named_bit, one_bit}
use Rattle.vlog_tree.specs.Meaning.Ranges.{Bits}
use Rattle.lowering.specs.Meaning.{Carries, Relation}
use Rattle.lowering.proofs.LoweredLemmas.{Values, extended_values}

-- the values at places from 0 up
abbrev pub bits : (ℕ → Option Bool) → ℕ → Values
bits f width = map f (range_with_len 0 width)

pub length-bits : (f : ℕ → Option Bool) (width : ℕ) → length (bits f width) ≡ width
length-bits f width = length-map-range_with_len f 0 width

-- the same values at two runs of places
pub same_run : {X : Type 0} (f g : ℕ → X) (first other count : ℕ)
    → ((i : ℕ) → i < count → f (first + i) ≡ g (other + i)) → map f (range_with_len first count) ≡ map g (range_with_len other count)
same_run f g first other zero h = refl
same_run f g first other (suc count) h =
    let here : f first ≡ g other =
    subst (λ place. f place ≡ g other) (omega arith) (subst (λ place. f (first + 0) ≡ g place) (omega arith) (h 0 (omega arith))) in
    let rest : map f (range_with_len (first + 1) count) ≡ map g (range_with_len (other + 1) count) =
    same_run f g (first + 1) (other + 1) count (λ i within.
    subst (λ place. f place ≡ g (other + 1 + i)) (omega arith)
    (subst (λ place. f (first + (i + 1)) ≡ g place) (omega arith) (h (i + 1) (omega arith)))) in
    ap (λ value. value ∷ map f (range_with_len (first + 1) count)) here ∙ ap (λ values. g other ∷ values) rest

-- a run of places in two
pub split_run : {X : Type 0} (f : ℕ → X) (first before after whole : ℕ) → before + after ≡ whole
    → map f (range_with_len first whole) ≡ map f (range_with_len first before) ++ map f (range_with_len (first + before) after)
split_run f first zero after whole is =
    ap (λ count. map f (range_with_len first count)) (let same : whole ≡ after = omega arith in same)
    ∙ ap (λ first. map f (range_with_len first after)) (let same : first ≡ first + 0 = omega arith in same)
split_run f first (suc before) after zero is = absurd (omega arith)
split_run f first (suc before) after (suc whole) is =
    ap (λ values. f first ∷ values)
    (split_run f (first + 1) before after whole (omega arith)
    ∙ ap (λ place. map f (range_with_len (first + 1) before) ++ map f (range_with_len place after))
    (let same : first + 1 + before ≡ first + suc before = omega arith in same))

pub zero_run : (f : ℕ → Option Bool) (first count : ℕ) → ((place : ℕ) → first ≤ place → f place ≡ Some false)
    → replicate count (Some false) ≡ map f (range_with_len first count)
zero_run f first zero h = refl
zero_run f first (suc count) h =
    ap (λ values. Some false ∷ values) (zero_run f (first + 1) count (λ place above. h place (omega arith)))
    ∙ ap (λ value. value ∷ map f (range_with_len (first + 1) count)) (sym (h first (omega arith)))

-- values above which there are zeros
pub extended_bits : (f : ℕ → Option Bool) (own width : ℕ) → own ≤ width → ((place : ℕ) → own ≤ place → f place ≡ Some false)
    → extended_values width (bits f own) ≡ bits f width
extended_bits f own width within h =
    ap (λ count. bits f own ++ replicate (width - count) (Some false)) (length-bits f own)
    ∙ (ap (λ values. bits f own ++ values) (zero_run f own (width - own) h)
    ∙ (ap (λ first. bits f own ++ map f (range_with_len first (width - own))) (let same : own ≡ 0 + own = omega arith in same)
    ∙ sym (split_run f 0 own (width - own) width (omega arith))))

zero_above : (value : Option Bool) (place : ℕ) → 1 ≤ place → one_bit value place ≡ Some false
zero_above value zero above = absurd (omega arith)
zero_above value (suc place) above = refl

pub extended_one : (value : Option Bool) (width : ℕ) → 1 ≤ width → extended_values width (value ∷ []) ≡ bits (one_bit value) width
extended_one value width within = extended_bits (one_bit value) 1 width within (zero_above value)

-- ---- numbers

pub number_bits : (values : List Bool) → map Some values ≡ bits (λ place. Some (slice_index_or values place false)) (length values)
number_bits [] = refl
number_bits (value ∷ values) =
    ap (λ rest. Some value ∷ rest)
    (number_bits values
    ∙ same_run (λ place. Some (slice_index_or values place false)) (λ place. Some (slice_index_or (value ∷ values) place false)) 0 1 (length values)
    (λ i within. ap (λ place. Some (slice_index_or (value ∷ values) place false)) (let same : suc (0 + i) ≡ 1 + i = omega arith in same)))

pub number_end : (values : List Bool) (place : ℕ) → length values ≤ place → Some (slice_index_or values place false) ≡ Some false
number_end [] place above = refl
number_end (value ∷ values) zero above = absurd (omega arith)
number_end (value ∷ values) (suc place) above = number_end values place (omega arith)

-- ---- names

pub name_end : (names : Names) (one : Bits) (place : ℕ) → one.width ≤ place → named_bit names one place ≡ Some false
name_end names one place above =
    ap (λ within. cond within (names one.name (one.low + place)) (Some false)) (le-ltb place one.width above)

pub name_inside : (names : Names) (one : Bits) (place : ℕ) → place < one.width → names one.name (one.low + place) ≡ named_bit names one place
name_inside names one place inside =
    sym (ap (λ within. cond within (names one.name (one.low + place)) (Some false)) (lt-ltb place one.width inside))

module _ (rel : Relation) (read : Reading) where
  pub run_carries : (f : ℕ → Option Bool) (edge : ℕ → Edge) (first other count : ℕ)
      → ((i : ℕ) → i < count → rel (f (first + i)) (edge_value read (edge (other + i))))
      → Carries rel read (map f (range_with_len first count)) (map edge (range_with_len other count))
  run_carries f edge first other zero h = tt
  run_carries f edge first other (suc count) h = (
    subst (λ place. rel (f place) (edge_value read (edge other))) (omega arith)
        (subst (λ place. rel (f (first + 0)) (edge_value read (edge place))) (omega arith) (h 0 (omega arith))),
    run_carries f edge (first + 1) (other + 1) count (λ i within.
        subst (λ place. rel (f place) (edge_value read (edge (other + 1 + i)))) (omega arith)
        (subst (λ place. rel (f (first + (i + 1))) (edge_value read (edge place))) (omega arith) (h (i + 1) (omega arith)))),
  )
