-- The rules on clocks: E12 and E13.
use Rattle.std.specs.Prelude.{ℕ, List, [], ◌∷◌, ◌++◌, Bool, false, not, ◌&&◌, ◌||◌, Option, None, Some, bytes_eq, cond, filter, flat_map, is_none, is_some, map, option_and_then}
use Rattle.std.specs.List.{list_any}
use Rattle.std.specs.Option.{option_to_list}
use Rattle.hierarchy.specs.Failures.{Failure, failure}
use Rattle.hierarchy.specs.Reach.{reached}
use Rattle.nets.specs.Nets.{is_one_bit, nets, place_of_name}
use Rattle.vlog_tree.specs.declared.design.Design.{Design}
use Rattle.vlog_tree.specs.declared.design.Module.{Module}
use Rattle.vlog_tree.specs.declared.item.Item.{Item}
use Rattle.vlog_tree.specs.declared.item.Item.TheVariants as item
use Rattle.vlog_tree.specs.declared.stmt.Stmt.{Stmt}
use Rattle.vlog_tree.specs.declared.stmt.Stmt.TheFolds.{fold-Stmt}
use Rattle.vlog_tree.specs.declared.stmt.Stmt.TheOpen.{Stmt-F}
use Rattle.vlog_tree.specs.Meaning.Instances.{Child, Connection, child_of, connected, connections}
use Rattle.vlog_tree.specs.Meaning.Names.{is_input, is_output, is_register}
use Rattle.vlog_tree.specs.Meaning.Uses.{Text, Use, expr_uses}
use Rattle.clock_sets.specs.Passing.{plain_assign, plain_name, signal}
use Rattle.clock_sets.specs.Sets.{Clocked, is_clock_use, is_clocked}

-- ---- E12: what a clock use may be

-- the left name of a plain assign
abbrev pub is_assigned : Text → Option (Text × Text) → Bool
is_assigned name (Some names) = bytes_eq names.0 name
is_assigned name None = false

abbrev pub is_plainly_assigned : Module → Text → Bool
is_plainly_assigned m name = list_any (λ i. is_assigned name (plain_assign m i)) m.items

-- It is an input of the top other than its clock.
abbrev pub is_other_input : Clocked → Module → Text → Bool
is_other_input clocked m name =
    bytes_eq m.name clocked.top && (is_input m name && not (bytes_eq name clocked.clock))

-- what a clock use may be
abbrev pub can_be_clock : Clocked → Module → Text → Bool
can_be_clock clocked m name =
    is_one_bit m name && (not (is_register m name)
    && ((is_input m name || is_plainly_assigned m name) && not (is_other_input clocked m name)))

abbrev pub bad_clock : Clocked → Module → Text → List Failure
bad_clock clocked m name =
    cond (is_clock_use clocked.design clocked.top (signal m.name name) && not (can_be_clock clocked m name))
    (failure (place_of_name m name) m.name name ∷ [])
    []

-- the input ports of a module that are clock uses
abbrev pub is_clock_port : Design → Text → Module → Text → Bool
is_clock_port design top m name = is_input m name && is_clock_use design top (signal m.name name)

abbrev pub clock_ports : Design → Text → Module → List Text
clock_ports design top m = filter (is_clock_port design top m) (map (λ entry. entry.0) (nets m))

-- the instance doesn't connect the port plainly
abbrev pub is_unplain : Module → Child → Text → Bool
is_unplain m child port = is_none (option_and_then (plain_name m) (connected child port))

abbrev pub bad_clocking_of : Clocked → Module → ℕ → Child → List Failure
bad_clocking_of clocked m at child =
    cond (list_any (is_unplain m child) (clock_ports clocked.design clocked.top child.definition))
    (failure at m.name child.name ∷ [])
    []

-- an instance that doesn't connect each of these ports plainly
abbrev pub bad_clocking : Clocked → Module → Item → List Failure
bad_clocking clocked m (item.Instance at inner name links) =
    flat_map (bad_clocking_of clocked m at) (option_to_list (child_of clocked.design (item.Instance at inner name links)))
bad_clocking clocked m other = []

abbrev pub bad_clocks_in : Clocked → Module → List Failure
bad_clocks_in clocked m =
    flat_map (λ entry. bad_clock clocked m entry.0) (nets m) ++ flat_map (bad_clocking clocked m) m.items

-- A clock use isn't one bit wide, is a `reg`, is neither an input nor the left name of a plain assign, or is an input of
-- the top other than its clock; or an instance doesn't connect such an input port plainly.
abbrev pub bad_clocks : Clocked → List Failure
bad_clocks clocked = flat_map (bad_clocks_in clocked) (reached clocked.design clocked.top)

-- ---- E13: the clock as data

-- an expression that is connected to a port is read by an input port, and plainly or not
abbrev pub connection_reads : Module → Child → Connection → List Use
connection_reads m child connection =
    cond (is_output child.definition connection.port || is_some (plain_name m connection.expression)) []
    (expr_uses connection.expression)

abbrev pub reads_in_other : Option (List Use) → List Use
reads_in_other (Some uses) = uses
reads_in_other None = []

abbrev pub stmt_reads_at : Stmt-F (List Use) → List Use
stmt_reads_at Stmt-F.Empty = []
stmt_reads_at (Stmt-F.Block body) = flat_map (λ uses. uses) body
stmt_reads_at (Stmt-F.If condition first other) = expr_uses condition ++ first ++ reads_in_other other
stmt_reads_at (Stmt-F.Set at left right) = expr_uses right

abbrev pub stmt_reads : Stmt → List Use
stmt_reads = fold-Stmt (List Use) stmt_reads_at

-- the names that an item reads, but for that after `posedge`, for the right name of a plain assign, and for a plain
-- connection to an input port
abbrev pub data_reads : Design → Module → Item → List Use
data_reads design m (item.Assign at left right) =
    cond (is_some (plain_assign m (item.Assign at left right))) [] (expr_uses right)
data_reads design m (item.Gate at kind name outs ins) = flat_map expr_uses ins
data_reads design m (item.Always at clock body) = stmt_reads body
data_reads design m (item.Initial at name value) = expr_uses value
data_reads design m other =
    flat_map (λ child. flat_map (connection_reads m child) (connections child)) (option_to_list (child_of design other))

abbrev pub bad_read : Clocked → Module → Use → List Failure
bad_read clocked m one = cond (is_clocked clocked (signal m.name one.name)) (failure one.at m.name one.name ∷ []) []

abbrev pub bad_output : Clocked → Module → Text → List Failure
bad_output clocked m name =
    cond (is_output m name && is_clocked clocked (signal m.name name)) (failure (place_of_name m name) m.name name ∷ []) []

abbrev pub clock_as_data_in : Clocked → Module → List Failure
clock_as_data_in clocked m =
    flat_map (λ entry. bad_output clocked m entry.0) (nets m)
    ++ flat_map (λ i. flat_map (bad_read clocked m) (data_reads clocked.design m i)) m.items

-- a clocked name is read otherwise, or is an output port
abbrev pub clock_as_data : Clocked → List Failure
clock_as_data clocked = flat_map (clock_as_data_in clocked) (reached clocked.design clocked.top)
