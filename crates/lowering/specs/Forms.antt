-- What the code makes of each form of expression, in the order in which it adds nodes.
use Rattle.std.specs.Prelude.{ℕ, List, [], ◌∷◌, max, reverse}
use Rattle.std.specs.List.{repeat}
use Rattle.flat_net.specs.declared.edge.Edge.{Edge}
use Rattle.vlog_tree.specs.declared.design.Module.{Module}
use Rattle.vlog_tree.specs.declared.expr.BinOp.{BinOp}
use Rattle.vlog_tree.specs.declared.expr.BinOp.TheVariants as binary
use Rattle.vlog_tree.specs.declared.expr.Expr.{Expr}
use Rattle.vlog_tree.specs.declared.expr.UnOp.{UnOp}
use Rattle.vlog_tree.specs.declared.expr.UnOp.TheVariants as unary
use Rattle.lowering.specs.declared.pairs.Pairing.TheVariants.{Choice}
use Rattle.lowering.specs.Expressions.{Wires, expression, only, width_of}
use Rattle.lowering.specs.Gates.{any_bit}
use Rattle.lowering.specs.Loops.{continued}
use Rattle.lowering.specs.Lowered.{Lowered, Lowering, after, and_then, and_then_both, extended, lowered}
use Rattle.lowering.specs.Operators.{all_paired}

-- ---- the widths of operands

abbrev pub operand_width : Module → UnOp → Expr → ℕ → ℕ
operand_width m unary.Inv arg width = width
operand_width m op arg width = width_of m arg

-- of both operands
abbrev pub operand_widths : Module → BinOp → Expr → Expr → ℕ → ℕ × ℕ
operand_widths m binary.And left right width = (width, width)
operand_widths m binary.Or left right width = (width, width)
operand_widths m binary.Xor left right width = (width, width)
operand_widths m binary.Xnor left right width = (width, width)
operand_widths m binary.LogAnd left right width = (width_of m left, width_of m right)
operand_widths m binary.LogOr left right width = (width_of m left, width_of m right)
operand_widths m binary.Eq left right width = let both : ℕ = max (width_of m left) (width_of m right) in (both, both)
operand_widths m binary.Ne left right width = let both : ℕ = max (width_of m left) (width_of m right) in (both, both)

-- ---- forms

-- edges that are there already, and zeros above them
abbrev pub leaf : ℕ → List Edge → Lowered
leaf width edges = lowered [] (extended width edges)

module _ (m : Module) (wires : Wires) where
  -- both branches, and then bit by bit the one that is chosen
  abbrev pub branches : Edge → Expr → Expr → ℕ → Lowering
  branches choice first second width =
      and_then_both (expression m wires first width) (expression m wires second width) (all_paired (Choice choice))

  abbrev pub of_choice : Expr → Expr → Expr → ℕ → ℕ → Lowering
  of_choice condition first second inner width =
      and_then (expression m wires condition inner) (λ bits. and_then (any_bit bits) (λ choice. branches (only choice) first second width))

  -- the edges of parts from the highest to the lowest
  abbrev pub highest_first : List Expr → Lowering
  highest_first [] next = lowered [] []
  highest_first (part ∷ parts) next =
      let first : Lowered = expression m wires part (width_of m part) next in
      continued (lowered first.nodes (reverse first.edges)) (highest_first parts (after next first))

  unfoldable pub of_parts : List Expr → Lowering
  of_parts parts next = lowered (highest_first parts next).nodes (reverse (highest_first parts next).edges)

  abbrev pub of_join : List Expr → ℕ → Lowering
  of_join parts width next = lowered (of_parts parts next).nodes (extended width (of_parts parts next).edges)

  abbrev pub of_repeat : ℕ → List Expr → ℕ → Lowering
  of_repeat count parts width next =
      lowered (of_parts parts next).nodes (extended width (repeat count (of_parts parts next).edges))
