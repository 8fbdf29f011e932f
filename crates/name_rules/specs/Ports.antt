-- The ports of a module and those of them that connections name, as they are kept.
use Rattle.std.specs.Prelude.{List, [], ◌∷◌, Bool, true, false, Option, None, Some, bytes_eq, cond}
use Rattle.std.specs.HashMap.{get_by}
use Rattle.std.specs.List.{list_any}
use Rattle.hierarchy.specs.Failures.{Failure, failure}
use Rattle.vlog_tree.specs.declared.design.Module.{Module}
use Rattle.vlog_tree.specs.declared.item.Link.{Link}
use Rattle.vlog_tree.specs.Meaning.Uses.{Text}
use Rattle.name_rules.specs.Declarations.{is_among}
use Rattle.name_rules.specs.Uses.{names_port}
use Rattle.name_rules.specs.declared.ports.Ports.{Ports}

-- Whether a port is named already. There is none where the module has no such port.
abbrev pub port_state : List Text → List Link → Text → Option Bool
port_state ports before name = cond (is_among ports name) (Some (list_any (names_port name) before)) None

-- what a table of ports keeps of a name
abbrev pub state_in : Ports → Text → Option Bool
state_in ports name = get_by (λ key. bytes_eq name key.now) ports.named

-- a port that no connection names yet
abbrev pub is_free : Option Bool → Bool
is_free None = false
is_free (Some true) = false
is_free (Some false) = true

-- what is kept of a name once a connection names a port
abbrev pub named_after : (Text → Option Bool) → Text → Text → Option Bool
named_after known port name = cond (is_free (known port)) (cond (bytes_eq port name) (Some true) (known name)) (known name)

-- the same for a connection with or without a name
abbrev pub linked_after : (Text → Option Bool) → Option Text → Text → Option Bool
linked_after known None name = known name
linked_after known (Some port) name = named_after known port name

-- what is wrong with a connection, by what is kept
abbrev pub bad_by : Module → (Text → Option Bool) → Link → Option Text → List Failure
bad_by m known link None = []
bad_by m known link (Some port) = cond (is_free (known port)) [] (failure link.at m.name port ∷ [])
