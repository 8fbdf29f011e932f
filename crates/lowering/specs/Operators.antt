-- The words of the code's operators.
use Rattle.std.specs.Prelude.{ℕ, Bool, true, false, List, [], ◌∷◌, map}
use Rattle.flat_net.specs.declared.edge.Edge.{Edge}
use Rattle.flat_net.specs.declared.node.Node.TheVariants as node
use Rattle.flat_net.specs.Edges.{negated, one_edge, plain}
use Rattle.vlog_tree.specs.declared.expr.BinOp.{BinOp}
use Rattle.vlog_tree.specs.declared.expr.BinOp.TheVariants as binary
use Rattle.vlog_tree.specs.declared.expr.UnOp.{UnOp}
use Rattle.vlog_tree.specs.declared.expr.UnOp.TheVariants as unary
use Rattle.lowering.specs.declared.gates.Gate.{Gate as Kind}
use Rattle.lowering.specs.declared.gates.Gate.TheVariants as gate
use Rattle.lowering.specs.declared.pairs.Pairing.{Pairing}
use Rattle.lowering.specs.declared.pairs.Pairing.TheVariants as pairing
use Rattle.lowering.specs.Gates.{Gate, any_bit, chosen, folded, reduced}
use Rattle.lowering.specs.Loops.{continued}
use Rattle.lowering.specs.Lowered.{Lowering, after, and_then, and_then_both, given, inverted, lowered, widened}

-- the node that a gate adds
abbrev pub gate_of : Kind → Gate
gate_of gate.And = node.And
gate_of gate.Xor = node.Xor

-- the edge, or its negation
abbrev pub turned : Bool → Edge → Edge
turned true edge = negated edge
turned false edge = edge

-- ---- two edges, and two lists of them

abbrev pub paired : Pairing → Edge → Edge → Lowering
paired pairing.And left right next = lowered (node.And left right ∷ []) (plain next ∷ [])
paired pairing.Or left right next = lowered (node.And (negated left) (negated right) ∷ []) (negated (plain next) ∷ [])
paired pairing.Xor left right next = lowered (node.Xor left right ∷ []) (plain next ∷ [])
paired pairing.Xnor left right next = lowered (node.Xor left right ∷ []) (negated (plain next) ∷ [])
paired (pairing.Choice choice) left right next = chosen choice left right next

-- bit by bit, as far as both go
abbrev pub all_paired : Pairing → List Edge → List Edge → Lowering
all_paired pairing [] right next = lowered [] []
all_paired pairing (first ∷ left) [] next = lowered [] []
all_paired pairing (first ∷ left) (second ∷ right) next =
    continued (paired pairing first second next) (all_paired pairing left right (after next (paired pairing first second next)))

-- ---- operators over the edges of their operands

-- whether no bit is 1
abbrev pub no_bit : List Edge → Lowering
no_bit bits = folded node.And one_edge (map negated bits)

-- what is made of two truths, the nodes of the left one standing first
abbrev pub of_truths : Pairing → List Edge → List Edge → Lowering
of_truths pairing left right = and_then_both (any_bit left) (any_bit right) (all_paired pairing)

-- whether no bits differ
abbrev pub are_same : List Edge → List Edge → Lowering
are_same left right = and_then (all_paired pairing.Xor left right) no_bit

-- the operator's edges at a width
abbrev pub unary_of : UnOp → ℕ → List Edge → Lowering
unary_of unary.Inv width bits = given (map negated bits)
unary_of op width bits = widened width (reduced op bits)

abbrev pub binary_of : BinOp → ℕ → List Edge → List Edge → Lowering
binary_of binary.And width left right = all_paired pairing.And left right
binary_of binary.Or width left right = all_paired pairing.Or left right
binary_of binary.Xor width left right = all_paired pairing.Xor left right
binary_of binary.Xnor width left right = all_paired pairing.Xnor left right
binary_of binary.LogAnd width left right = widened width (of_truths pairing.And left right)
binary_of binary.LogOr width left right = widened width (of_truths pairing.Or left right)
binary_of binary.Eq width left right = widened width (are_same left right)
binary_of binary.Ne width left right = widened width (inverted (are_same left right))
