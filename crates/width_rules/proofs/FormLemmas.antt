-- The shape of each form of expression, and of each form of left side.
use Rattle.std.specs.Prelude.{◌≡◌, ℕ, Bool, List, [], ◌∷◌, map, max, ◌*◌}
use Rattle.std.proofs.Common.{ap, sym, ◌∙◌}
use Rattle.bm_base.specs.declared.range.Range.{Range}
use Rattle.vlog_tree.specs.declared.design.Module.{Module}
use Rattle.vlog_tree.specs.declared.expr.BinOp.{BinOp}
use Rattle.vlog_tree.specs.declared.expr.Expr.{Expr}
use Rattle.vlog_tree.specs.declared.expr.Expr.TheFolds.{fold-roll-Expr}
use Rattle.vlog_tree.specs.declared.expr.Expr.TheOpen.{Expr-F}
use Rattle.vlog_tree.specs.declared.expr.Expr.TheVariants as expr
use Rattle.vlog_tree.specs.declared.expr.UnOp.{UnOp}
use Rattle.vlog_tree.specs.declared.left.Left.{Left}
use Rattle.vlog_tree.specs.declared.left.Left.TheFolds.{fold-roll-Left}
use Rattle.vlog_tree.specs.declared.left.Left.TheOpen.{Left-F}
use Rattle.vlog_tree.specs.declared.left.Left.TheVariants as left
use Rattle.vlog_tree.specs.Meaning.Uses.{Text}
use Rattle.vlog_tree.specs.Meaning.Widths.{binary_width, unary_width}
use Rattle.width_rules.specs.Capped.{bit_shape, number_shape, part_shape, row_of, whole_shape}
use Rattle.width_rules.specs.Widths.{Shape, expr_shape, expr_shape_at, judged, left_shape, left_shape_at, together, widths_of}

module _ (m : Module) (e : Expr) where
  pub number : (at : ℕ) (bits : List Bool) → e ≡ expr.Number at bits → expr_shape m e ≡ number_shape m at bits
  number at bits is = ap (expr_shape m) (is ∙ sym (expr.rolls-Number at bits)) ∙ fold-roll-Expr Shape (expr_shape_at m) (Expr-F.Number at bits)

  pub whole : (at : ℕ) (name : Text) → e ≡ expr.Whole at name → expr_shape m e ≡ whole_shape m at name
  whole at name is = ap (expr_shape m) (is ∙ sym (expr.rolls-Whole at name)) ∙ fold-roll-Expr Shape (expr_shape_at m) (Expr-F.Whole at name)

  pub bit : (at : ℕ) (name : Text) (index : ℕ) → e ≡ expr.Bit at name index → expr_shape m e ≡ bit_shape m at name index
  bit at name index is = ap (expr_shape m) (is ∙ sym (expr.rolls-Bit at name index)) ∙ fold-roll-Expr Shape (expr_shape_at m) (Expr-F.Bit at name index)

  pub part : (at : ℕ) (name : Text) (range : Range) → e ≡ expr.Part at name range → expr_shape m e ≡ part_shape m at name range
  part at name range is = ap (expr_shape m) (is ∙ sym (expr.rolls-Part at name range)) ∙ fold-roll-Expr Shape (expr_shape_at m) (Expr-F.Part at name range)

  pub unary : (op : UnOp) (arg : Expr) → e ≡ expr.Unary op arg
      → expr_shape m e ≡ judged m (record (expr_shape m arg) { width = unary_width op (expr_shape m arg).width })
  unary op arg is = ap (expr_shape m) (is ∙ sym (expr.rolls-Unary op arg)) ∙ fold-roll-Expr Shape (expr_shape_at m) (Expr-F.Unary op arg)

  pub binary : (op : BinOp) (first second : Expr) → e ≡ expr.Binary op first second
      → expr_shape m e ≡ judged m (together (expr_shape m first ∷ expr_shape m second ∷ [])
      (binary_width op (expr_shape m first).width (expr_shape m second).width))
  binary op first second is =
      ap (expr_shape m) (is ∙ sym (expr.rolls-Binary op first second)) ∙ fold-roll-Expr Shape (expr_shape_at m) (Expr-F.Binary op first second)

  pub choice : (condition first second : Expr) → e ≡ expr.Cond condition first second
      → expr_shape m e ≡ judged m (together (expr_shape m condition ∷ expr_shape m first ∷ expr_shape m second ∷ [])
      (max (expr_shape m first).width (expr_shape m second).width))
  choice condition first second is =
      ap (expr_shape m) (is ∙ sym (expr.rolls-Cond condition first second))
      ∙ fold-roll-Expr Shape (expr_shape_at m) (Expr-F.Cond condition first second)

  pub join : (parts : List Expr) → e ≡ expr.Join parts → expr_shape m e ≡ judged m (row_of (map (expr_shape m) parts))
  join parts is = ap (expr_shape m) (is ∙ sym (expr.rolls-Join parts)) ∙ fold-roll-Expr Shape (expr_shape_at m) (Expr-F.Join parts)

  pub repeat : (count : ℕ) (parts : List Expr) → e ≡ expr.Repeat count parts
      → expr_shape m e ≡ judged m (together (map (expr_shape m) parts) (count * widths_of (map (expr_shape m) parts)))
  repeat count parts is =
      ap (expr_shape m) (is ∙ sym (expr.rolls-Repeat count parts)) ∙ fold-roll-Expr Shape (expr_shape_at m) (Expr-F.Repeat count parts)

module _ (m : Module) (side : Left) where
  pub left_whole : (at : ℕ) (name : Text) → side ≡ left.Whole at name → left_shape m side ≡ whole_shape m at name
  left_whole at name is = ap (left_shape m) (is ∙ sym (left.rolls-Whole at name)) ∙ fold-roll-Left Shape (left_shape_at m) (Left-F.Whole at name)

  pub left_bit : (at : ℕ) (name : Text) (index : ℕ) → side ≡ left.Bit at name index → left_shape m side ≡ bit_shape m at name index
  left_bit at name index is = ap (left_shape m) (is ∙ sym (left.rolls-Bit at name index)) ∙ fold-roll-Left Shape (left_shape_at m) (Left-F.Bit at name index)

  pub left_part : (at : ℕ) (name : Text) (range : Range) → side ≡ left.Part at name range → left_shape m side ≡ part_shape m at name range
  left_part at name range is = ap (left_shape m) (is ∙ sym (left.rolls-Part at name range)) ∙ fold-roll-Left Shape (left_shape_at m) (Left-F.Part at name range)

  pub left_join : (parts : List Left) → side ≡ left.Join parts → left_shape m side ≡ judged m (row_of (map (left_shape m) parts))
  left_join parts is = ap (left_shape m) (is ∙ sym (left.rolls-Join parts)) ∙ fold-roll-Left Shape (left_shape_at m) (Left-F.Join parts)
