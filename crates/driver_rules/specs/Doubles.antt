-- The rule on what drives a bit: E10.
use Rattle.std.specs.Prelude.{ℕ, ◌+◌, ◌==◌, List, [], ◌∷◌, ◌++◌, Bool, true, false, not, ◌&&◌, Option, None, Some, bytes_eq, cond, flat_map, map, nat_lt}
use Rattle.std.specs.List.{enumerate_from, list_any}
use Rattle.std.specs.Option.{option_to_list}
use Rattle.hierarchy.specs.Failures.{Failure, failure}
use Rattle.vlog_tree.specs.declared.design.Design.{Design}
use Rattle.vlog_tree.specs.declared.design.Module.{Module}
use Rattle.vlog_tree.specs.declared.expr.Expr.{Expr}
use Rattle.vlog_tree.specs.declared.expr.Expr.TheFolds.{fold-Expr}
use Rattle.vlog_tree.specs.declared.expr.Expr.TheOpen.{Expr-F}
use Rattle.vlog_tree.specs.declared.item.Item.{Item}
use Rattle.vlog_tree.specs.declared.item.Item.TheVariants as item
use Rattle.vlog_tree.specs.declared.left.Left.{Left}
use Rattle.vlog_tree.specs.declared.left.Left.TheFolds.{fold-Left}
use Rattle.vlog_tree.specs.declared.left.Left.TheOpen.{Left-F}
use Rattle.vlog_tree.specs.declared.stmt.Stmt.{Stmt}
use Rattle.vlog_tree.specs.declared.stmt.Stmt.TheFolds.{fold-Stmt}
use Rattle.vlog_tree.specs.declared.stmt.Stmt.TheOpen.{Stmt-F}
use Rattle.vlog_tree.specs.Meaning.Drivers.{outputs_of}
use Rattle.vlog_tree.specs.Meaning.Instances.{child_of}
use Rattle.vlog_tree.specs.Meaning.Ranges.{Bits, bit_with, part_bits, whole_bits}
use Rattle.vlog_tree.specs.Meaning.Uses.{Text}

-- ---- what is assigned, select by select

-- a name or a select of it where it is assigned, with its bits
pub record Assigned : Type 0 where
  pub at : ℕ
  pub bits : Bits

abbrev pub assigned_at : ℕ → Option Bits → List Assigned
assigned_at at (Some bits) = record { at = at; bits = bits } ∷ []
assigned_at at None = []

abbrev pub left_assigned_at : Module → Left-F (List Assigned) → List Assigned
left_assigned_at m (Left-F.Whole at name) = assigned_at at (whole_bits m name)
left_assigned_at m (Left-F.Bit at name index) = assigned_at at (bit_with m name index)
left_assigned_at m (Left-F.Part at name part) = assigned_at at (part_bits m name part)
left_assigned_at m (Left-F.Join parts) = flat_map (λ part. part) parts

-- the selects of a left side, in source order
abbrev pub left_assigned : Module → Left → List Assigned
left_assigned m = fold-Left (List Assigned) (left_assigned_at m)

abbrev pub target_assigned_at : Module → Expr-F (List Assigned) → List Assigned
target_assigned_at m (Expr-F.Whole at name) = assigned_at at (whole_bits m name)
target_assigned_at m (Expr-F.Bit at name index) = assigned_at at (bit_with m name index)
target_assigned_at m (Expr-F.Part at name part) = assigned_at at (part_bits m name part)
target_assigned_at m (Expr-F.Join parts) = flat_map (λ part. part) parts
target_assigned_at m other = []

-- those of an expression that is connected to an output port
abbrev pub target_assigned : Module → Expr → List Assigned
target_assigned m = fold-Expr (List Assigned) (target_assigned_at m)

-- ---- by item

abbrev pub other_lefts : Option (List (List Assigned)) → List (List Assigned)
other_lefts (Some lefts) = lefts
other_lefts None = []

abbrev pub stmt_lefts_at : Module → Stmt-F (List (List Assigned)) → List (List Assigned)
stmt_lefts_at m Stmt-F.Empty = []
stmt_lefts_at m (Stmt-F.Block body) = flat_map (λ lefts. lefts) body
stmt_lefts_at m (Stmt-F.If condition first other) = first ++ other_lefts other
stmt_lefts_at m (Stmt-F.Set at left right) = left_assigned m left ∷ []

abbrev pub stmt_lefts : Module → Stmt → List (List Assigned)
stmt_lefts m = fold-Stmt (List (List Assigned)) (stmt_lefts_at m)

-- the left sides of an item, each with its selects
abbrev pub lefts_in : Design → Module → Item → List (List Assigned)
lefts_in design m (item.Assign at left right) = left_assigned m left ∷ []
lefts_in design m (item.Gate at kind name outs ins) = map (left_assigned m) outs
lefts_in design m (item.Always at clock body) = stmt_lefts m body
lefts_in design m other =
    flat_map (λ child. map (λ connection. target_assigned m connection.expression) (outputs_of child))
    (option_to_list (child_of design other))

abbrev pub is_always : Item → Bool
is_always (item.Always at clock body) = true
is_always other = false

-- a select that is assigned: in which item, of which kind, in which left side of it
pub record Driving : Type 0 where
  pub item : ℕ
  pub in_always : Bool
  pub left : ℕ
  pub at : ℕ
  pub bits : Bits

abbrev pub driving : ℕ → Bool → ℕ → Assigned → Driving
driving number in_always left assigned =
    record { item = number; in_always = in_always; left = left; at = assigned.at; bits = assigned.bits }

abbrev pub drivings_of : Design → Module → ℕ × Item → List Driving
drivings_of design m place =
    flat_map (λ left. map (driving place.0 (is_always place.1) left.0) left.1)
    (enumerate_from 0 (lefts_in design m place.1))

-- all that is assigned in a module, in source order
abbrev pub drivings : Design → Module → List Driving
drivings design m = flat_map (drivings_of design m) (enumerate_from 0 m.items)

-- ---- E10

-- They have a bit in common.
abbrev pub overlap : Bits → Bits → Bool
overlap bits other =
    bytes_eq bits.name other.name
    && (nat_lt bits.low (other.low + other.width) && nat_lt other.low (bits.low + bits.width))

-- One `always` may assign a bit more than once, in different left sides.
abbrev pub may_share : Driving → Driving → Bool
may_share this other = this.in_always && ((this.item == other.item) && not (this.left == other.left))

abbrev pub clash : Driving → Driving → Bool
clash this other = overlap this.bits other.bits && not (may_share this other)

abbrev pub doubles_after : Module → List Driving → List Driving → List Failure
doubles_after m before [] = []
doubles_after m before (this ∷ rest) =
    cond (list_any (clash this) before) (failure this.at m.name this.bits.name ∷ []) []
    ++ doubles_after m (before ++ this ∷ []) rest

-- an `initial` of this register
abbrev pub begins : Text → Item → Bool
begins name (item.Initial at other value) = bytes_eq other name
begins name other = false

abbrev pub second_initial : Module → List Item → Item → List Failure
second_initial m before (item.Initial at name value) =
    cond (list_any (begins name) before) (failure at m.name name ∷ []) []
second_initial m before other = []

abbrev pub second_initials_after : Module → List Item → List Item → List Failure
second_initials_after m before [] = []
second_initials_after m before (this ∷ items) =
    second_initial m before this ++ second_initials_after m (before ++ this ∷ []) items

-- a bit has a second driver, or stands twice in one left side, or a register has a second initial value
abbrev pub double_drivers : Design → Module → List Failure
double_drivers design m = doubles_after m [] (drivings design m) ++ second_initials_after m [] m.items
