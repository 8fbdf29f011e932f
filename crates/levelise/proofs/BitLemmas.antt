-- Values of nodes and edges as bits.
use Rattle.std.specs.Prelude.{◌≡◌, ◌+◌, ◌<◌, ◌≤◌, ℕ, List, [], ◌∷◌, ◌++◌, Bool, true, false, not, Option, Some, length, map, refl, slice_set, take}
use Rattle.std.specs.Bool.{beq}
use Rattle.std.proofs.Math.Bool.{xor}
use Rattle.std.specs.Option.{option_map}
use Rattle.std.proofs.Common.{ap, arith, get_or, sym, ◌∙◌}
use Rattle.std.proofs.lemmas.List.{map-append, take_all, take_more, take_more_set}
use Rattle.flat_net.specs.declared.edge.Edge.{Edge}
use Rattle.flat_net.specs.Values.{Reading, edge_value, of_both}

pub differ_is : (left right : Bool) → xor left right ≡ not (beq left right)
unfolding xor
differ_is true true = refl
differ_is true false = refl
differ_is false true = refl
differ_is false false = refl

pub edge_is : (read : Reading) (edge : Edge) (value : Bool) → read edge.node ≡ Some value
    → edge_value read edge ≡ Some (not (beq edge.neg value))
edge_is read edge value at = ap (option_map (xor edge.neg)) at ∙ ap Some (differ_is edge.neg value)

pub both_are : (f : Bool → Bool → Bool) (first second : Option Bool) (left right : Bool) → first ≡ Some left → second ≡ Some right
    → of_both f first second ≡ Some (f left right)
both_are f first second left right first_is second_is =
    ap (λ one. of_both f one second) first_is ∙ ap (λ one. of_both f (Some left) one) second_is

pub both_differ : (first second : Option Bool) (left right : Bool) → first ≡ Some left → second ≡ Some right
    → of_both xor first second ≡ Some (not (beq left right))
both_differ first second left right first_is second_is =
    both_are xor first second left right first_is second_is ∙ ap Some (differ_is left right)

-- ---- one bit more of a list of them

pub bits_more : (f : Edge → Bool) (edges : List Edge) (bits : List Bool) (i : ℕ) (edge : Edge) (value : Bool) → i < length edges
    → length bits ≡ length edges → get_or edges i edge ≡ edge → value ≡ f edge → take i bits ≡ map f (take i edges)
    → take (i + 1) (slice_set bits i value) ≡ map f (take (i + 1) edges)
bits_more f edges bits i edge value inside count at is before =
    take_more_set bits i value (omega (arith, count, inside))
    ∙ ap (λ front. front ++ value ∷ []) before
    ∙ ap (λ one. map f (take i edges) ++ one ∷ []) (is ∙ ap f (sym at))
    ∙ sym (ap (map f) (take_more edges i edge inside) ∙ map-append f (take i edges) (get_or edges i edge ∷ []))

pub bits_all : (f : Edge → Bool) (edges : List Edge) (bits : List Bool) (i : ℕ) → length edges ≤ i → length bits ≡ length edges
    → take i bits ≡ map f (take i edges) → bits ≡ map f edges
bits_all f edges bits i end count before =
    sym (take_all i bits (omega (arith, count, end))) ∙ before ∙ ap (map f) (take_all i edges end)
