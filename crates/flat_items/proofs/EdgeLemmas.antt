-- Edges of the bits of a name.
use Rattle.std.proofs.Common.{◌≡◌, ℕ, ◌<◌, List, [], ◌∷◌, ◌+◌, ◌++◌, arith, length, map}
use Rattle.std.specs.List.{range_with_len}
use Rattle.std.proofs.lemmas.List.FromFn.{map-range_with_len_more}
use Rattle.flat_net.specs.declared.edge.Edge.{Edge}
use Rattle.flat_net.specs.Edges.{zero_edge}
use Rattle.lowering.specs.Lowered.{extended}
use Rattle.lowering.proofs.ListLemmas.{extended_more}

pub one_more : (width : ℕ) (edges : List Edge) → length edges < width → extended width (edges ++ zero_edge ∷ []) ≡ extended width edges
one_more width edges below = extended_more width edges below

-- the edges of one bit more
pub one_bit : (wires : ℕ → Edge) (bit : ℕ)
    → map wires (range_with_len 0 (bit + 1)) ≡ map wires (range_with_len 0 bit) ++ wires bit ∷ []
one_bit wires bit = map-range_with_len_more wires 0 bit bit (omega arith)
