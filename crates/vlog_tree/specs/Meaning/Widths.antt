-- The width that an expression has by itself (IEEE 1364-2005, clause 5.4.1).
use Rattle.std.specs.Prelude.{ℕ, ◌*◌, List, [], ◌∷◌, Option, Some, None, cond, length, max, nat_le, option_and_then, option_map, sum}
use Rattle.bm_base.specs.declared.range.Range.{Range}
use Rattle.vlog_tree.specs.declared.design.Module.{Module}
use Rattle.vlog_tree.specs.declared.expr.BinOp.{BinOp}
use Rattle.vlog_tree.specs.declared.expr.BinOp.TheVariants as binary
use Rattle.vlog_tree.specs.declared.expr.Expr.{Expr}
use Rattle.vlog_tree.specs.declared.expr.Expr.TheFolds.{fold-Expr}
use Rattle.vlog_tree.specs.declared.expr.Expr.TheOpen.{Expr-F}
use Rattle.vlog_tree.specs.declared.expr.UnOp.{UnOp}
use Rattle.vlog_tree.specs.declared.expr.UnOp.TheVariants as unary
use Rattle.vlog_tree.specs.Meaning.Ranges.{range_of, span}
use Rattle.vlog_tree.specs.Meaning.Uses.{Text}

-- the greatest width of an expression or a left side, in bits
abbrev pub greatest : ℕ
greatest = 65536

-- a width that is not above the greatest
abbrev pub within : ℕ → Option ℕ
within width = cond (nat_le width greatest) (Some width) None

-- all values, where there is each
abbrev pub all_of : {X : Type 0} → List (Option X) → Option (List X)
all_of [] = Some []
all_of (None ∷ values) = None
all_of (Some value ∷ values) = option_map (λ others. value ∷ others) (all_of values)

-- two values together, where there are both
abbrev pub together : {X Y Z : Type 0} → (X → Y → Z) → Option X → Option Y → Option Z
together f (Some x) (Some y) = Some (f x y)
together f first second = None

-- `~` keeps the width of its operand; `!` and the reductions have one bit
abbrev pub unary_width : UnOp → ℕ → ℕ
unary_width unary.Inv width = width
unary_width op width = 1

-- a bitwise operator has the greater width of both operands; the others have one bit
abbrev pub binary_width : BinOp → ℕ → ℕ → ℕ
binary_width binary.And left right = max left right
binary_width binary.Or left right = max left right
binary_width binary.Xor left right = max left right
binary_width binary.Xnor left right = max left right
binary_width op left right = 1

-- of a condition and two branches, the greater of the branches
abbrev pub choice_width : Option ℕ → Option ℕ → Option ℕ → Option ℕ
choice_width (Some condition) first second = together max first second
choice_width None first second = None

-- The ranges of the names are given.
module _ (ranges : Text → Option Range) where
  abbrev pub width_at : Expr-F (Option ℕ) → Option ℕ
  width_at (Expr-F.Number at bits) = within (length bits)
  width_at (Expr-F.Whole at name) = option_and_then within (option_map span (ranges name))
  width_at (Expr-F.Bit at name index) = option_map (λ range. 1) (ranges name)
  width_at (Expr-F.Part at name part) = option_and_then (λ range. within (span part)) (ranges name)
  width_at (Expr-F.Unary op arg) = option_map (unary_width op) arg
  width_at (Expr-F.Binary op left right) = together (binary_width op) left right
  width_at (Expr-F.Cond condition first second) = choice_width condition first second
  width_at (Expr-F.Join parts) = option_and_then within (option_map sum (all_of parts))
  width_at (Expr-F.Repeat count parts) = option_and_then within (option_map (λ widths. count * sum widths) (all_of parts))

  -- the width of an expression over names of these ranges
  abbrev pub width_by : Expr → Option ℕ
  width_by = fold-Expr (Option ℕ) width_at

-- The width of an expression that stands in a module. It has none where a name in it is neither declared nor implicit, or
-- where it or an expression inside of it is wider than the greatest width.
abbrev pub width : Module → Expr → Option ℕ
width m = width_by (range_of m)
