-- The rules on selects and widths: E7 and E8.
use Rattle.std.specs.Prelude.{ℕ, ◌*◌, ◌==◌, List, [], ◌∷◌, ◌++◌, Option, None, Some, cond, flat_map, is_some, length, map, max, nat_lt, option_map, sum, unwrap_or}
use Rattle.std.specs.Option.{option_or}
use Rattle.hierarchy.specs.Failures.{Failure, failure}
use Rattle.vlog_tree.specs.declared.design.Module.{Module}
use Rattle.vlog_tree.specs.declared.expr.Expr.{Expr}
use Rattle.vlog_tree.specs.declared.expr.Expr.TheFolds.{fold-Expr}
use Rattle.vlog_tree.specs.declared.expr.Expr.TheOpen.{Expr-F}
use Rattle.vlog_tree.specs.declared.item.Item.{Item}
use Rattle.vlog_tree.specs.declared.item.Item.TheVariants as item
use Rattle.vlog_tree.specs.declared.item.Link.{Link}
use Rattle.vlog_tree.specs.declared.left.Left.{Left}
use Rattle.vlog_tree.specs.declared.left.Left.TheFolds.{fold-Left}
use Rattle.vlog_tree.specs.declared.left.Left.TheOpen.{Left-F}
use Rattle.vlog_tree.specs.declared.stmt.Stmt.{Stmt}
use Rattle.vlog_tree.specs.declared.stmt.Stmt.TheFolds.{fold-Stmt}
use Rattle.vlog_tree.specs.declared.stmt.Stmt.TheOpen.{Stmt-F}
use Rattle.vlog_tree.specs.Meaning.Ranges.{Bits, bit_with, part_bits, range_of, span}
use Rattle.vlog_tree.specs.Meaning.Uses.{Text}
use Rattle.vlog_tree.specs.Meaning.Widths.{binary_width, greatest, unary_width}

-- An expression or a left side: the place of its first name or number, its first name, its width by itself, and what is
-- wrong inside of it. What stands inside comes before what it stands in.
pub record Shape : Type 0 where
  pub at : ℕ
  pub name : Option Text
  pub width : ℕ
  pub failures : List Failure

-- a failure of the whole: its first name is printed, or the empty name
abbrev pub whole_failure : Module → Shape → Failure
whole_failure m shape = failure shape.at m.name (unwrap_or shape.name [])

-- the shape, with its own failure where it is too wide
abbrev pub judged : Module → Shape → Shape
judged m shape = record shape {
  failures = shape.failures ++ cond (nat_lt greatest shape.width) (whole_failure m shape ∷ []) [];
}

abbrev pub shape : ℕ → Option Text → ℕ → List Failure → Shape
shape at name width failures = record { at = at; name = name; width = width; failures = failures }

-- a select that the range of its name does not have, or that runs against its direction
abbrev pub bad_select : Module → ℕ → Text → Option Bits → List Failure
bad_select m at name bits = cond (is_some bits) [] (failure at m.name name ∷ [])

abbrev pub whole_width : Module → Text → ℕ
whole_width m name = unwrap_or (option_map span (range_of m name)) 0

abbrev pub first_place : List Shape → ℕ
first_place [] = 0
first_place (part ∷ parts) = part.at

abbrev pub first_name : List Shape → Option Text
first_name [] = None
first_name (part ∷ parts) = option_or part.name (first_name parts)

abbrev pub widths_of : List Shape → ℕ
widths_of parts = sum (map (λ part. part.width) parts)

abbrev pub failures_of : List Shape → List Failure
failures_of parts = flat_map (λ part. part.failures) parts

-- what parts make together, with this width
abbrev pub together : List Shape → ℕ → Shape
together parts width = shape (first_place parts) (first_name parts) width (failures_of parts)

abbrev pub expr_shape_at : Module → Expr-F Shape → Shape
expr_shape_at m (Expr-F.Number at bits) = judged m (shape at None (length bits) [])
expr_shape_at m (Expr-F.Whole at name) = judged m (shape at (Some name) (whole_width m name) [])
expr_shape_at m (Expr-F.Bit at name index) = shape at (Some name) 1 (bad_select m at name (bit_with m name index))
expr_shape_at m (Expr-F.Part at name part) =
    judged m (shape at (Some name) (span part) (bad_select m at name (part_bits m name part)))
expr_shape_at m (Expr-F.Unary op arg) = judged m (record arg { width = unary_width op arg.width })
expr_shape_at m (Expr-F.Binary op left right) =
    judged m (together (left ∷ right ∷ []) (binary_width op left.width right.width))
expr_shape_at m (Expr-F.Cond condition first second) =
    judged m (together (condition ∷ first ∷ second ∷ []) (max first.width second.width))
expr_shape_at m (Expr-F.Join parts) = judged m (together parts (widths_of parts))
expr_shape_at m (Expr-F.Repeat count parts) = judged m (together parts (count * widths_of parts))

abbrev pub expr_shape : Module → Expr → Shape
expr_shape m = fold-Expr Shape (expr_shape_at m)

abbrev pub left_shape_at : Module → Left-F Shape → Shape
left_shape_at m (Left-F.Whole at name) = judged m (shape at (Some name) (whole_width m name) [])
left_shape_at m (Left-F.Bit at name index) = shape at (Some name) 1 (bad_select m at name (bit_with m name index))
left_shape_at m (Left-F.Part at name part) =
    judged m (shape at (Some name) (span part) (bad_select m at name (part_bits m name part)))
left_shape_at m (Left-F.Join parts) = judged m (together parts (widths_of parts))

abbrev pub left_shape : Module → Left → Shape
left_shape m = fold-Left Shape (left_shape_at m)

-- ---- E7: a select outside of its range or against it, or what is too wide

abbrev pub in_expr : Module → Expr → List Failure
in_expr m e = (expr_shape m e).failures

abbrev pub in_left : Module → Left → List Failure
in_left m left = (left_shape m left).failures

abbrev pub in_link : Module → Link → List Failure
in_link m link = elim link.expr as (λ e. List Failure) [ Some e ↦ in_expr m e | None ↦ [] ]

abbrev pub in_other : Option (List Failure) → List Failure
in_other (Some failures) = failures
in_other None = []

abbrev pub in_stmt_at : Module → Stmt-F (List Failure) → List Failure
in_stmt_at m Stmt-F.Empty = []
in_stmt_at m (Stmt-F.Block body) = flat_map (λ failures. failures) body
in_stmt_at m (Stmt-F.If condition first other) = in_expr m condition ++ first ++ in_other other
in_stmt_at m (Stmt-F.Set at left right) = in_left m left ++ in_expr m right

abbrev pub in_stmt : Module → Stmt → List Failure
in_stmt m = fold-Stmt (List Failure) (in_stmt_at m)

abbrev pub bad_widths_in : Module → Item → List Failure
bad_widths_in m (item.Assign at left right) = in_left m left ++ in_expr m right
bad_widths_in m (item.Gate at kind name outs ins) = flat_map (in_left m) outs ++ flat_map (in_expr m) ins
bad_widths_in m (item.Instance at inner name links) = flat_map (in_link m) links
bad_widths_in m (item.Always at clock body) = in_stmt m body
bad_widths_in m (item.Initial at name value) = in_expr m value
bad_widths_in m (item.Decl at dir kind range name) = []

abbrev pub bad_widths : Module → List Failure
bad_widths m = flat_map (bad_widths_in m) m.items

-- ---- E8: a terminal of a gate that isn't one bit wide

abbrev pub bad_terminal : Module → Shape → List Failure
bad_terminal m shape = cond (shape.width == 1) [] (whole_failure m shape ∷ [])

abbrev pub bad_terminals_in : Module → Item → List Failure
bad_terminals_in m (item.Gate at kind name outs ins) =
    flat_map (λ out. bad_terminal m (left_shape m out)) outs ++ flat_map (λ input. bad_terminal m (expr_shape m input)) ins
bad_terminals_in m other = []

abbrev pub bad_terminals : Module → List Failure
bad_terminals m = flat_map (bad_terminals_in m) m.items
