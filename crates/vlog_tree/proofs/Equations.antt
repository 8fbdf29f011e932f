-- What the folds of the meaning are at each form of tree.
use Rattle.std.proofs.Common.{◌≡◌, ℕ, List, Option, map, ap, sym, ◌∙◌}
use Rattle.std.specs.Prelude.{option_and_then, option_map}
use Rattle.bm_base.specs.declared.range.Range.{Range}
use Rattle.vlog_tree.specs.declared.design.Module.{Module}
use Rattle.vlog_tree.specs.declared.expr.BinOp.{BinOp}
use Rattle.vlog_tree.specs.declared.expr.Expr.{Expr}
use Rattle.vlog_tree.specs.declared.expr.Expr.TheFolds.{fold-roll-Expr, para-Expr, para-roll-Expr}
use Rattle.vlog_tree.specs.declared.expr.Expr.TheOpen.{Expr-F}
use Rattle.vlog_tree.specs.declared.expr.Expr.TheVariants as expr
use Rattle.vlog_tree.specs.declared.expr.Expr.TheVariants.{rolls-Binary, rolls-Bit, rolls-Cond, rolls-Part, rolls-Unary, rolls-Whole}
use Rattle.vlog_tree.specs.declared.expr.UnOp.{UnOp}
use Rattle.vlog_tree.specs.declared.left.Left.{Left}
use Rattle.vlog_tree.specs.declared.left.Left.TheFolds.{fold-roll-Left}
use Rattle.vlog_tree.specs.declared.left.Left.TheOpen.{Left-F}
use Rattle.vlog_tree.specs.declared.left.Left.TheVariants as left
use Rattle.vlog_tree.specs.declared.left.Left.TheVariants.{rolls-Bit as rolls-Bit-Left, rolls-Join as rolls-Join-Left, rolls-Whole as rolls-Whole-Left}
use Rattle.vlog_tree.specs.Meaning.Expressions.{Names, Value, binary_bit, bit_at, chosen, selected_bit, truth, unary_bit}
use Rattle.vlog_tree.specs.Meaning.Lefts.{Bit, beside, left_bits, left_bits_at, some_bits}
use Rattle.vlog_tree.specs.Meaning.Ranges.{bit_with, part_bits, span, whole_bits}
use Rattle.vlog_tree.specs.Meaning.Uses.{Text}
use Rattle.vlog_tree.specs.Meaning.Widths.{binary_width, choice_width, together, unary_width, width_at, width_by, within}

module _ (ranges : Text → Option Range) where
  pub width-Whole : (at : ℕ) (name : Text) → width_by ranges (expr.Whole at name) ≡ option_and_then within (option_map span (ranges name))
  width-Whole at name = ap (width_by ranges) (sym (rolls-Whole at name)) ∙ fold-roll-Expr (Option ℕ) (width_at ranges) (Expr-F.Whole at name)

  pub width-Bit : (at : ℕ) (name : Text) (index : ℕ) → width_by ranges (expr.Bit at name index) ≡ option_map (λ range. 1) (ranges name)
  width-Bit at name index = ap (width_by ranges) (sym (rolls-Bit at name index)) ∙ fold-roll-Expr (Option ℕ) (width_at ranges) (Expr-F.Bit at name index)

  pub width-Part : (at : ℕ) (name : Text) (part : Range) → width_by ranges (expr.Part at name part) ≡ option_and_then (λ range. within (span part)) (ranges name)
  width-Part at name part = ap (width_by ranges) (sym (rolls-Part at name part)) ∙ fold-roll-Expr (Option ℕ) (width_at ranges) (Expr-F.Part at name part)

  pub width-Unary : (op : UnOp) (arg : Expr) → width_by ranges (expr.Unary op arg) ≡ option_map (unary_width op) (width_by ranges arg)
  width-Unary op arg = ap (width_by ranges) (sym (rolls-Unary op arg)) ∙ fold-roll-Expr (Option ℕ) (width_at ranges) (Expr-F.Unary op arg)

  pub width-Binary : (op : BinOp) (first second : Expr) → width_by ranges (expr.Binary op first second)
      ≡ together (binary_width op) (width_by ranges first) (width_by ranges second)
  width-Binary op first second =
      ap (width_by ranges) (sym (rolls-Binary op first second))
      ∙ fold-roll-Expr (Option ℕ) (width_at ranges) (Expr-F.Binary op first second)

  pub width-Cond : (condition first second : Expr) → width_by ranges (expr.Cond condition first second)
      ≡ choice_width (width_by ranges condition) (width_by ranges first) (width_by ranges second)
  width-Cond condition first second =
      ap (width_by ranges) (sym (rolls-Cond condition first second))
      ∙ fold-roll-Expr (Option ℕ) (width_at ranges) (Expr-F.Cond condition first second)

module _ (m : Module) (names : Names) where
  abbrev pub value : Expr → Value
  value = para-Expr Value (bit_at m names)

  pub bits-Whole : (at : ℕ) (name : Text) (width place : ℕ) → value (expr.Whole at name) width place ≡ selected_bit names (whole_bits m name) place
  bits-Whole at name width place =
      ap (λ e. value e width place) (sym (rolls-Whole at name))
      ∙ ap (λ (v : Value). v width place) (para-roll-Expr Value (bit_at m names) (Expr-F.Whole at name))

  pub bits-Bit : (at : ℕ) (name : Text) (index width place : ℕ) → value (expr.Bit at name index) width place ≡ selected_bit names (bit_with m name index) place
  bits-Bit at name index width place =
      ap (λ e. value e width place) (sym (rolls-Bit at name index))
      ∙ ap (λ (v : Value). v width place) (para-roll-Expr Value (bit_at m names) (Expr-F.Bit at name index))

  pub bits-Part : (at : ℕ) (name : Text) (part : Range) (width place : ℕ) → value (expr.Part at name part) width place ≡ selected_bit names (part_bits m name part) place
  bits-Part at name part width place =
      ap (λ e. value e width place) (sym (rolls-Part at name part))
      ∙ ap (λ (v : Value). v width place) (para-roll-Expr Value (bit_at m names) (Expr-F.Part at name part))

  pub bits-Unary : (op : UnOp) (arg : Expr) (width place : ℕ) → value (expr.Unary op arg) width place ≡ unary_bit m op (arg, value arg) width place
  bits-Unary op arg width place =
      ap (λ e. value e width place) (sym (rolls-Unary op arg))
      ∙ ap (λ (v : Value). v width place) (para-roll-Expr Value (bit_at m names) (Expr-F.Unary op arg))

  pub bits-Binary : (op : BinOp) (first second : Expr) (width place : ℕ) → value (expr.Binary op first second) width place
      ≡ binary_bit m op (first, value first) (second, value second) width place
  bits-Binary op first second width place =
      ap (λ e. value e width place) (sym (rolls-Binary op first second))
      ∙ ap (λ (v : Value). v width place) (para-roll-Expr Value (bit_at m names) (Expr-F.Binary op first second))

  pub bits-Cond : (condition first second : Expr) (width place : ℕ) → value (expr.Cond condition first second) width place
      ≡ chosen (truth m (condition, value condition)) (value first width place) (value second width place)
  bits-Cond condition first second width place =
      ap (λ e. value e width place) (sym (rolls-Cond condition first second))
      ∙ ap (λ (v : Value). v width place) (para-roll-Expr Value (bit_at m names) (Expr-F.Cond condition first second))

module _ (m : Module) where
  pub left-Whole : (at : ℕ) (name : Text) → left_bits m (left.Whole at name) ≡ some_bits (whole_bits m name)
  left-Whole at name = ap (left_bits m) (sym (rolls-Whole-Left at name)) ∙ fold-roll-Left (List Bit) (left_bits_at m) (Left-F.Whole at name)

  pub left-Bit : (at : ℕ) (name : Text) (index : ℕ) → left_bits m (left.Bit at name index) ≡ some_bits (bit_with m name index)
  left-Bit at name index = ap (left_bits m) (sym (rolls-Bit-Left at name index)) ∙ fold-roll-Left (List Bit) (left_bits_at m) (Left-F.Bit at name index)

  pub left-Join : (parts : List Left) → left_bits m (left.Join parts) ≡ beside (map (left_bits m) parts)
  left-Join parts = ap (left_bits m) (sym (rolls-Join-Left parts)) ∙ fold-roll-Left (List Bit) (left_bits_at m) (Left-F.Join parts)
