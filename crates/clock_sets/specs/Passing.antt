-- How a clock passes from one name to another: by plain assigns, and by plain connections to input ports.
use Rattle.std.specs.Prelude.{ℕ, ◌+◌, zero, suc, Bool, ◌&&◌, List, [], Option, None, Some, bytes_eq, cond, flat_map, length, map}
use Rattle.std.specs.List.{list_any, range_with_len}
use Rattle.std.specs.Option.{option_to_list}
use Rattle.vlog_tree.specs.declared.design.Design.{Design}
use Rattle.vlog_tree.specs.declared.design.Module.{Module}
use Rattle.vlog_tree.specs.declared.expr.Expr.{Expr}
use Rattle.vlog_tree.specs.declared.expr.Expr.TheVariants as expr
use Rattle.vlog_tree.specs.declared.item.Item.{Item}
use Rattle.vlog_tree.specs.declared.item.Item.TheVariants as item
use Rattle.vlog_tree.specs.declared.left.Left.{Left}
use Rattle.vlog_tree.specs.declared.left.Left.TheVariants as left
use Rattle.vlog_tree.specs.Meaning.Instances.{Child, Connection, child_of, connections}
use Rattle.vlog_tree.specs.Meaning.Names.{is_input}
use Rattle.vlog_tree.specs.Meaning.Uses.{Text}
use Rattle.hierarchy.specs.Reach.{reached}
use Rattle.nets.specs.Nets.{is_one_bit, nets}

-- a name of a module
pub record Signal : Type 0 where
  pub module_name : Text
  pub name : Text

abbrev pub signal : Text → Text → Signal
signal module_name name = record { module_name = module_name; name = name }

abbrev pub same_signal : Signal → Signal → Bool
same_signal one other = bytes_eq one.module_name other.module_name && bytes_eq one.name other.name

-- ---- plain names, assigns and connections

abbrev pub one_bit : Module → Text → Option Text
one_bit m name = cond (is_one_bit m name) (Some name) None

-- A left side or an expression that is a whole name of one bit is plain.
abbrev pub plain_left : Module → Left → Option Text
plain_left m (left.Whole at name) = one_bit m name
plain_left m other = None

abbrev pub plain_name : Module → Expr → Option Text
plain_name m (expr.Whole at name) = one_bit m name
plain_name m other = None

-- the left and the right name of a plain assign
abbrev pub both : Option Text → Option Text → Option (Text × Text)
both (Some to) (Some from) = Some (to, from)
both to from = None

abbrev pub plain_assign : Module → Item → Option (Text × Text)
plain_assign m (item.Assign at left right) = both (plain_left m left) (plain_name m right)
plain_assign m other = None

-- ---- steps

-- The clock passes from the former to the latter.
pub record Pass : Type 0 where
  pub from : Signal
  pub to : Signal

abbrev pub pass : Signal → Signal → Pass
pass from to = record { from = from; to = to }

abbrev pub assign_pass : Module → Text × Text → Pass
assign_pass m names = pass (signal m.name names.1) (signal m.name names.0)

-- a plain connection to an input port
abbrev pub connection_pass : Module → Child → Connection → List Pass
connection_pass m child connection =
    cond (is_input child.definition connection.port)
    (map (λ name. pass (signal m.name name) (signal child.definition.name connection.port))
    (option_to_list (plain_name m connection.expression)))
    []

abbrev pub child_passes : Module → Child → List Pass
child_passes m child = flat_map (connection_pass m child) (connections child)

abbrev pub passes_in : Design → Module → Item → List Pass
passes_in design m (item.Assign at left right) =
    map (assign_pass m) (option_to_list (plain_assign m (item.Assign at left right)))
passes_in design m other = flat_map (child_passes m) (option_to_list (child_of design other))

-- all steps in the modules that are reached, in source order
abbrev pub passes : Design → Text → List Pass
passes design top = flat_map (λ m. flat_map (passes_in design m) m.items) (reached design top)

-- ---- ways

-- so many steps, one after the other, lead from a signal to another
abbrev pub leads : List Pass → ℕ → Signal → Signal → Bool
leads steps zero from to = same_signal from to
leads steps (suc count) from to =
    list_any (λ step. same_signal from step.from && leads steps count step.to to) steps

-- all names of all modules
abbrev pub signals : List Module → List Signal
signals modules = flat_map (λ m. map (λ entry. signal m.name entry.0) (nets m)) modules

abbrev pub is_signal : Design → Signal → Bool
is_signal design one = list_any (same_signal one) (signals design.modules)

-- Both are names of modules, and some steps lead from the one to the other, or they are the same. A way that comes to no
-- name twice has fewer steps than there are names.
abbrev pub passes_on : Design → Text → Signal → Signal → Bool
passes_on design top from to =
    (is_signal design from && is_signal design to)
    && list_any (λ count. leads (passes design top) count from to) (range_with_len 0 (length (signals design.modules) + 1))
