-- The nodes of operators, over the edges of their operands' bits.
use Rattle.std.specs.Prelude.{ℕ, ◌+◌, List, [], ◌∷◌, ◌++◌, length, map}
use Rattle.std.specs.List.{zip}
use Rattle.flat_net.specs.declared.edge.Edge.{Edge}
use Rattle.flat_net.specs.declared.node.Node.{Node}
use Rattle.flat_net.specs.declared.node.Node.TheVariants.{And, Xor}
use Rattle.flat_net.specs.Edges.{negated, one_edge, plain, zero_edge}
use Rattle.vlog_tree.specs.declared.expr.UnOp.{UnOp}
use Rattle.vlog_tree.specs.declared.expr.UnOp.TheVariants as unary
use Rattle.vlog_tree.specs.declared.item.GateKind.{GateKind}
use Rattle.vlog_tree.specs.declared.item.GateKind.TheVariants as kind
use Rattle.lowering.specs.Lowered.{Lowered, Lowering, and_then, and_then_both, given, inverted, lowered, numbered}

-- a node of two edges
abbrev pub Gate : Type 0
Gate = Edge → Edge → Node

-- ---- bit by bit

-- one node for each bit of both
abbrev pub pairwise : Gate → List Edge → List Edge → Lowering
pairwise gate left right next = lowered (map (λ pair. gate pair.0 pair.1) (zip left right)) (numbered next (length (zip left right)))

abbrev pub and_bits : List Edge → List Edge → Lowering
and_bits = pairwise And

abbrev pub or_bits : List Edge → List Edge → Lowering
or_bits left right = inverted (pairwise And (map negated left) (map negated right))

abbrev pub xor_bits : List Edge → List Edge → Lowering
xor_bits = pairwise Xor

abbrev pub xnor_bits : List Edge → List Edge → Lowering
xnor_bits left right = inverted (pairwise Xor left right)

-- ---- reductions: of all bits, from the least

-- so far, and one node for each bit more
abbrev pub folded_from : Gate → Edge → List Edge → Lowering
folded_from gate so_far [] next = lowered [] (so_far ∷ [])
folded_from gate so_far (bit ∷ bits) next =
    let rest : Lowered = folded_from gate (plain next) bits (next + 1) in
    lowered (gate so_far bit ∷ rest.nodes) rest.edges

-- one bit is itself, without a node
abbrev pub folded : Gate → Edge → List Edge → Lowering
folded gate of_none [] = given (of_none ∷ [])
folded gate of_none (bit ∷ bits) = folded_from gate bit bits

-- whether all bits are 1
abbrev pub all_bits : List Edge → Lowering
all_bits = folded And one_edge

-- whether some bit is 1
abbrev pub any_bit : List Edge → Lowering
any_bit bits = inverted (folded And one_edge (map negated bits))

-- whether an odd number of bits is 1
abbrev pub parity : List Edge → Lowering
parity = folded Xor zero_edge

-- the reductions and `!`; `~` is none
abbrev pub reduced : UnOp → List Edge → Lowering
reduced unary.RedAnd bits = all_bits bits
reduced unary.RedNand bits = inverted (all_bits bits)
reduced unary.RedOr bits = any_bit bits
reduced unary.RedNor bits = inverted (any_bit bits)
reduced unary.RedXor bits = parity bits
reduced unary.RedXnor bits = inverted (parity bits)
reduced unary.Not bits = inverted (any_bit bits)
reduced unary.Inv bits = given (map negated bits)

-- ---- two operands

-- whether both have a bit that is 1, the nodes of the first standing first
abbrev pub both_true : List Edge → List Edge → Lowering
both_true left right = and_then_both (any_bit left) (any_bit right) and_bits

abbrev pub some_true : List Edge → List Edge → Lowering
some_true left right = and_then_both (any_bit left) (any_bit right) or_bits

-- whether no bits differ
abbrev pub same_bits : List Edge → List Edge → Lowering
same_bits left right = and_then (xor_bits left right) (λ differences. folded And one_edge (map negated differences))

-- ---- choices

-- the first edge where the choice is 1, and else the second: three nodes
abbrev pub chosen_nodes : Edge → Edge → Edge → ℕ → List Node
chosen_nodes choice first second next =
    And choice first ∷ And (negated choice) second ∷ And (negated (plain next)) (negated (plain (next + 1))) ∷ []

abbrev pub chosen : Edge → Edge → Edge → Lowering
chosen choice first second next = lowered (chosen_nodes choice first second next) (negated (plain (next + 2)) ∷ [])

abbrev pub chosen_pairs : Edge → List (Edge × Edge) → Lowering
chosen_pairs choice [] next = lowered [] []
chosen_pairs choice (pair ∷ pairs) next =
    let rest : Lowered = chosen_pairs choice pairs (next + 3) in
    lowered (chosen_nodes choice pair.0 pair.1 next ++ rest.nodes) (negated (plain (next + 2)) ∷ rest.edges)

-- bit by bit
abbrev pub chosen_bits : Edge → List Edge → List Edge → Lowering
chosen_bits choice first second = chosen_pairs choice (zip first second)

-- ---- gates of a netlist

-- the nodes of a gate, by the edges of its inputs: they are folded from the first; `buf` and `not` have none
abbrev pub gate : GateKind → List Edge → Lowering
gate kind.And inputs = all_bits inputs
gate kind.Nand inputs = inverted (all_bits inputs)
gate kind.Or inputs = any_bit inputs
gate kind.Nor inputs = inverted (any_bit inputs)
gate kind.Xor inputs = parity inputs
gate kind.Xnor inputs = inverted (parity inputs)
gate kind.Buf inputs = given inputs
gate kind.Not inputs = given (map negated inputs)
