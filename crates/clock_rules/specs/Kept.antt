-- What is kept of the names of a module and of the connections of an instance.
use Rattle.std.specs.Prelude.{ℕ, List, [], Bool, true, not, Option, None, Some, bytes_eq, filter_map, find, is_some}
use Rattle.std.specs.HashMap.{get_by}
use Rattle.std.specs.HashSet.{contains_by}
use Rattle.std.specs.List.{enumerate_from}
use Rattle.std.specs.Option.{option_map}
use Rattle.vlog_tree.specs.declared.design.Module.{Module}
use Rattle.vlog_tree.specs.declared.item.Link.{Link}
use Rattle.vlog_tree.specs.Meaning.Instances.{Child, Connection, connection_of}
use Rattle.vlog_tree.specs.Meaning.Uses.{Text}
use Rattle.clock_sets.specs.Passing.{plain_name}
use Rattle.clock_rules.specs.declared.assigned.Assigned.{Assigned}
use Rattle.clock_rules.specs.declared.connected.Connected.{Connected}

-- whether a name is kept as the left name of a plain assign
abbrev pub has_left : Assigned → Text → Bool
has_left assigned name = contains_by (λ key. bytes_eq name key.now) assigned.names

-- what is kept of a port: whether its first connection is plain, and nothing where it has none
abbrev pub plain_in : Connected → Text → Option Bool
plain_in connected port = get_by (λ key. bytes_eq port key.now) connected.plain

-- the connections among these links, of which the first has this place
abbrev pub connected_from : Module → ℕ → List Link → List Connection
connected_from inner place links = filter_map (connection_of inner) (enumerate_from place links)

-- whether the first connection to a port is plain
abbrev pub first_plain : Module → Text → List Connection → Option Bool
first_plain m port connections =
    option_map (λ connection. is_some (plain_name m connection.expression))
    (find (λ connection. bytes_eq connection.port port) connections)

-- whether a port of which this is kept isn't connected plainly
abbrev pub is_unplain_by : Option Bool → Bool
is_unplain_by (Some is_plain) = not is_plain
is_unplain_by None = true

-- an instance of a module with these connections, whatever its name
abbrev pub child_of_links : Module → List Link → Child
child_of_links inner links = record { name = []; definition = inner; links = links }
