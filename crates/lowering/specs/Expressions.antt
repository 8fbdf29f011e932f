-- The nodes and edges of an expression, where the edges of names are given.
use Rattle.std.specs.Prelude.{ℕ, List, [], ◌∷◌, Option, Some, None, flat_map, map, max, reverse, unwrap_or}
use Rattle.std.specs.List.{range_with_len, repeat}
use Rattle.flat_net.specs.declared.edge.Edge.{Edge}
use Rattle.flat_net.specs.Edges.{constant, zero_edge}
use Rattle.vlog_tree.specs.declared.design.Module.{Module}
use Rattle.vlog_tree.specs.declared.expr.BinOp.{BinOp}
use Rattle.vlog_tree.specs.declared.expr.BinOp.TheVariants as binary
use Rattle.vlog_tree.specs.declared.expr.Expr.{Expr}
use Rattle.vlog_tree.specs.declared.expr.Expr.TheFolds.{para-Expr}
use Rattle.vlog_tree.specs.declared.expr.Expr.TheOpen.{Expr-F}
use Rattle.vlog_tree.specs.declared.expr.UnOp.{UnOp}
use Rattle.vlog_tree.specs.declared.expr.UnOp.TheVariants as unary
use Rattle.vlog_tree.specs.Meaning.Ranges.{Bits, bit_with, part_bits, whole_bits}
use Rattle.vlog_tree.specs.Meaning.Uses.{Text}
use Rattle.vlog_tree.specs.Meaning.Widths.{width}
use Rattle.lowering.specs.Gates.{and_bits, any_bit, both_true, chosen_bits, or_bits, reduced, same_bits, some_true, xnor_bits, xor_bits}
use Rattle.lowering.specs.Lowered.{Lowered, Lowering, and_then, and_then_both, given, in_turn, inverted, lowered, nodes_of, widened}

-- the edge of each bit of a name
abbrev pub Wires : Type 0
Wires = Text → ℕ → Edge

-- a lowering, by the width at which the expression is evaluated
abbrev pub AtWidth : Type 0
AtWidth = ℕ → Lowering

-- an operand: the expression and its lowering
abbrev pub Operand : Type 0
Operand = Expr × AtWidth

abbrev pub width_of : Module → Expr → ℕ
width_of m e = unwrap_or (width m e) 0

-- an operand that is evaluated at its own width
abbrev pub own : Module → Operand → Lowering
own m operand = operand.1 (width_of m operand.0)

abbrev pub truth : Module → Operand → Lowering
truth m operand = and_then (own m operand) any_bit

-- ---- names and selects

abbrev pub wired : Wires → Bits → List Edge
wired wires bits = map (wires bits.name) (range_with_len bits.low bits.width)

abbrev pub selected : Wires → Option Bits → Lowering
selected wires (Some bits) = given (wired wires bits)
selected wires None = given []

-- ---- operators

-- `~` is taken at the width of the context; the others have one bit.
abbrev pub unary_at : Module → UnOp → Operand → AtWidth
unary_at m unary.Inv arg width = inverted (arg.1 width)
unary_at m op arg width = widened width (and_then (own m arg) (reduced op))

-- `==` and `!=` are taken at the greater width of both operands.
abbrev pub compared : Module → Operand → Operand → Lowering
compared m left right =
    let width : ℕ = max (width_of m left.0) (width_of m right.0) in and_then_both (left.1 width) (right.1 width) same_bits

abbrev pub binary_at : Module → BinOp → Operand → Operand → AtWidth
binary_at m binary.And left right width = and_then_both (left.1 width) (right.1 width) and_bits
binary_at m binary.Or left right width = and_then_both (left.1 width) (right.1 width) or_bits
binary_at m binary.Xor left right width = and_then_both (left.1 width) (right.1 width) xor_bits
binary_at m binary.Xnor left right width = and_then_both (left.1 width) (right.1 width) xnor_bits
binary_at m binary.LogAnd left right width = widened width (and_then_both (own m left) (own m right) both_true)
binary_at m binary.LogOr left right width = widened width (and_then_both (own m left) (own m right) some_true)
binary_at m binary.Eq left right width = widened width (compared m left right)
binary_at m binary.Ne left right width = widened width (inverted (compared m left right))

-- the edge of a lowering of one bit
abbrev pub only : List Edge → Edge
only [] = zero_edge
only (edge ∷ others) = edge

-- the condition's truth, both branches, and then bit by bit the one that it chooses
abbrev pub conditional : Module → Operand → Operand → Operand → AtWidth
conditional m condition first second width =
    and_then (truth m condition) (λ choice. and_then_both (first.1 width) (second.1 width) (chosen_bits (only choice)))

-- ---- parts that stand one beside the other, lowered from the left; the rightmost is the lowest

abbrev pub beside : List Lowered → Lowered
beside parts = lowered (nodes_of parts) (flat_map (λ part. part.edges) (reverse parts))

abbrev pub joined : Module → List Operand → Lowering
joined m parts next = beside (in_turn (map (own m) parts) next)

-- the same edges so many times
abbrev pub repeated : ℕ → Lowered → Lowered
repeated count parts = lowered parts.nodes (repeat count parts.edges)

-- ---- expressions

abbrev pub lowered_at : Module → Wires → Expr-F Operand → AtWidth
lowered_at m wires (Expr-F.Number at bits) width = widened width (given (map constant bits))
lowered_at m wires (Expr-F.Whole at name) width = widened width (selected wires (whole_bits m name))
lowered_at m wires (Expr-F.Bit at name index) width = widened width (selected wires (bit_with m name index))
lowered_at m wires (Expr-F.Part at name part) width = widened width (selected wires (part_bits m name part))
lowered_at m wires (Expr-F.Unary op arg) width = unary_at m op arg width
lowered_at m wires (Expr-F.Binary op left right) width = binary_at m op left right width
lowered_at m wires (Expr-F.Cond condition first second) width = conditional m condition first second width
lowered_at m wires (Expr-F.Join parts) width = widened width (joined m parts)
lowered_at m wires (Expr-F.Repeat count parts) width = widened width (λ next. repeated count (joined m parts next))

-- what stands for the bits of an expression that is evaluated at a width
unfoldable pub expression : Module → Wires → Expr → AtWidth
expression m wires = para-Expr AtWidth (lowered_at m wires)

-- A condition: one edge, which is 1 where the expression is true.
abbrev pub condition : Module → Wires → Expr → Lowering
condition m wires e = truth m (e, expression m wires e)

-- the right side of an assignment to so many bits, at the greater of both widths
abbrev pub assigned : Module → Wires → ℕ → Expr → Lowering
assigned m wires count e = expression m wires e (max count (width_of m e))
