-- What the definitions say of small expressions and left sides, where a wrong reading would say something else.
use Rattle.std.specs.Prelude.{◌≡◌, ◌==◌, ℕ, List, [], ◌∷◌, Bool, true, false, codes, None, Option, Some, bytes_eq, cond, map}
use Rattle.bm_base.specs.declared.range.Range.{Range}
use Rattle.vlog_tree.specs.declared.design.Module.{Module}
use Rattle.vlog_tree.specs.declared.expr.BinOp.TheVariants as binary
use Rattle.vlog_tree.specs.declared.expr.Expr.{Expr}
use Rattle.vlog_tree.specs.declared.expr.Expr.TheVariants as expr
use Rattle.vlog_tree.specs.declared.expr.UnOp.TheVariants as unary
use Rattle.vlog_tree.specs.declared.item.Item.{Item}
use Rattle.vlog_tree.specs.declared.item.Item.TheVariants as item
use Rattle.vlog_tree.specs.declared.item.NetKind.TheVariants.{Wire}
use Rattle.vlog_tree.specs.declared.left.Left.{Left}
use Rattle.vlog_tree.specs.declared.left.Left.TheVariants as left
use Rattle.vlog_tree.specs.Meaning.Expressions.{assigned_bit}
use Rattle.vlog_tree.specs.Meaning.Lefts.{bit_of, left_bits}
use Rattle.vlog_tree.specs.Meaning.Uses.{Text}
use Rattle.vlog_tree.specs.Meaning.Widths.{width}

abbrev pub name : Text → Expr
name text = expr.Whole 0 text

abbrev pub range : ℕ → ℕ → Option Range
range high low = Some (record { left = high; right = low })

abbrev pub wire : Option Range → Text → Item
wire width text = item.Decl 0 None Wire width text

-- wire a; wire [1:0] b; wire [3:0] y; wire [0:3] r;
abbrev pub nets : Module
nets = record {
  at = 0;
  name = codes "m";
  ports = [];
  items = wire None (codes "a") ∷ wire (range 1 0) (codes "b") ∷ wire (range 3 0) (codes "y") ∷ wire (range 0 3) (codes "r") ∷ [];
}

-- a is 1; of each other name the bit beside the rightmost is 1, and no other
abbrev pub values : Text → ℕ → Option Bool
values text place = Some (cond (bytes_eq text (codes "a")) true (place == 1))

-- the bits of an expression that is assigned to so many bits
abbrev pub bits : ℕ → Expr → List ℕ → List (Option Bool)
bits count e places = map (assigned_bit nets values count e) places

-- `~b`
abbrev pub inverted : Expr
inverted = expr.Unary unary.Inv (name (codes "b"))

-- `a ? ~a : b`
abbrev pub choice : Expr
choice = expr.Cond (name (codes "a")) (expr.Unary unary.Inv (name (codes "a"))) (name (codes "b"))

-- `~a == b`
abbrev pub equal : Expr
equal = expr.Binary binary.Eq (expr.Unary unary.Inv (name (codes "a"))) (name (codes "b"))

-- `{a, {b, y[3]}}`
abbrev pub nested : Left
nested = left.Join (left.Whole 0 (codes "a") ∷ left.Join (left.Whole 0 (codes "b") ∷ left.Bit 0 (codes "y") 3 ∷ []) ∷ [])

pub record MeansExamples : Type 0 where
  -- an operand is extended before `~`, not after it
  pub inverts_at_context : bits 4 inverted (0 ∷ 1 ∷ 2 ∷ 3 ∷ []) ≡ Some true ∷ Some false ∷ Some true ∷ Some true ∷ []
  -- a conditional is as wide as its wider branch, at which both are evaluated
  pub choice_width : width nets choice ≡ Some 2
  pub chooses_at_context : bits 1 choice (0 ∷ 1 ∷ []) ≡ Some false ∷ Some true ∷ []
  -- both sides of `==` are evaluated at the greater width, whatever the context
  pub compares_at_greater : bits 1 equal (0 ∷ []) ≡ Some true ∷ []
  pub compares_to_one_bit : bits 4 equal (0 ∷ 1 ∷ []) ≡ Some true ∷ Some false ∷ []
  -- in `[0:3]` the index 3 is at the right end
  pub counts_from_right_end : bits 1 (expr.Bit 0 (codes "r") 2) (0 ∷ []) ≡ Some true ∷ []
  pub parts_from_right_end : bits 1 (expr.Part 0 (codes "r") (record { left = 1; right = 2 })) (0 ∷ 1 ∷ []) ≡ Some true ∷ Some false ∷ []
  -- a part against its range's direction has no value
  pub no_part_against : bits 1 (expr.Part 0 (codes "r") (record { left = 2; right = 1 })) (0 ∷ []) ≡ None ∷ []
  -- of a concatenation, also inside of another, the rightmost part is the lowest
  pub rightmost_is_lowest : left_bits nets nested
      ≡ bit_of (codes "y") 3 ∷ bit_of (codes "b") 0 ∷ bit_of (codes "b") 1 ∷ bit_of (codes "a") 0 ∷ []
