-- The steps in which each form of expression is lowered.
use Rattle.std.proofs.Common.{◌≡◌, ℕ, ◌≤◌, List, [], length, ap, arith, sym, ◌∙◌}
use Rattle.flat_net.specs.declared.edge.Edge.{Edge}
use Rattle.vlog_tree.specs.declared.design.Module.{Module}
use Rattle.vlog_tree.specs.declared.expr.BinOp.{BinOp}
use Rattle.vlog_tree.specs.declared.expr.Expr.{Expr}
use Rattle.vlog_tree.specs.declared.expr.Expr.TheVariants as expr
use Rattle.vlog_tree.specs.declared.expr.UnOp.{UnOp}
use Rattle.lowering.specs.Expressions.{Wires, expression, width_of}
use Rattle.lowering.specs.Forms.{leaf, of_choice, operand_width, operand_widths}
use Rattle.lowering.specs.Limits.{Added, next_of, with_more}
use Rattle.lowering.specs.Loops.{Remains}
use Rattle.lowering.specs.Lowered.{Lowered, after, and_then, and_then_both, extended, lowered}
use Rattle.lowering.specs.Operators.{binary_of, unary_of}
use Rattle.lowering.proofs.ChainLemmas.{begins}
use Rattle.lowering.proofs.FormLemmas.{at_binary, at_choice, at_unary}
use Rattle.lowering.proofs.RemainsLemmas.{more_none}

-- ---- edges that are there already

pub leaf_nodes : (start : Added) (width : ℕ) {whole : Lowered} (edges : List Edge) → whole ≡ leaf width edges
    → start ≡ with_more start whole
leaf_nodes start width {whole} edges is = sym (ap (with_more start) is ∙ more_none start (extended width edges))

pub leaf_edges : (width : ℕ) {whole : Lowered} {edges inner found : List Edge} → whole ≡ leaf width edges
    → found ≡ extended width inner → inner ≡ edges → found ≡ whole.edges
leaf_edges width is found_is inner_is = found_is ∙ ap (extended width) inner_is ∙ ap (λ (part : Lowered). part.edges) (sym is)

-- A form with the nodes of its parts comes to as many as these.
pub parts_within : (next : ℕ) {whole : Lowered} (parts : Lowered) (edges : List Edge) → whole ≡ lowered parts.nodes edges
    → after next parts ≤ after next whole
parts_within next {whole} parts edges is =
    let count : length whole.nodes ≡ length parts.nodes = ap (λ (part : Lowered). length part.nodes) is in
    omega arith

-- ---- operators

module _ (m : Module) (wires : Wires) (start : Added) (width : ℕ) where
  pub begins_unary : {e : Expr} {op : UnOp} {arg read : Expr} {inner : ℕ} → e ≡ expr.Unary op arg
      → read ≡ arg → inner ≡ operand_width m op read width
      → Remains [] start start (and_then (expression m wires read inner) (unary_of op width)) (expression m wires e width)
  begins_unary {e} {op} {arg} {read} {inner} is read_is inner_is =
      begins start (expression m wires e width) (and_then (expression m wires read inner) (unary_of op width))
      (at_unary m wires width (next_of start) is read_is inner_is)

  pub begins_binary : {e : Expr} {op : BinOp} {left right first second : Expr} {inner : ℕ × ℕ} → e ≡ expr.Binary op left right
      → first ≡ left → second ≡ right → inner ≡ operand_widths m op first second width
      → Remains [] start start
      (and_then_both (expression m wires first inner.0) (expression m wires second inner.1) (binary_of op width))
      (expression m wires e width)
  begins_binary {e} {op} {left} {right} {first} {second} {inner} is first_is second_is inner_is =
      begins start (expression m wires e width)
      (and_then_both (expression m wires first inner.0) (expression m wires second inner.1) (binary_of op width))
      (at_binary m wires width (next_of start) is first_is second_is inner_is)

  pub begins_choice : {e condition first second read taken other : Expr} {inner : ℕ} → e ≡ expr.Cond condition first second
      → read ≡ condition → taken ≡ first → other ≡ second → inner ≡ width_of m read
      → Remains [] start start (of_choice m wires read taken other inner width) (expression m wires e width)
  begins_choice {e} {condition} {first} {second} {read} {taken} {other} {inner} is read_is taken_is other_is inner_is =
      begins start (expression m wires e width) (of_choice m wires read taken other inner width)
      (at_choice m wires width (next_of start) is read_is taken_is other_is inner_is)
