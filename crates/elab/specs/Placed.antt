-- Names and ports as labels.
use Rattle.std.specs.Prelude.{ℕ, ◌+◌, Bool, List, [], ◌∷◌, not, ◌&&◌, Option, None, Some, bytes_eq, cond, option_and_then, option_map}
use Rattle.flat_net.specs.declared.setup.Reset.{Reset}
use Rattle.flat_net.specs.declared.setup.Setup.{Setup}
use Rattle.nets.specs.Nets.{Net}
use Rattle.trace_rows.specs.declared.labels.Labels.{Labels}
use Rattle.trace_rows.specs.declared.labels.PortLabel.{PortLabel}
use Rattle.vlog_tree.specs.declared.design.Module.{Module}
use Rattle.vlog_tree.specs.Meaning.Ranges.{span}
use Rattle.vlog_tree.specs.Meaning.Uses.{Text}
use Rattle.elab.specs.Plans.{port_labels, reset_at}
use Rattle.elab.specs.declared.names.Names.{Names}

-- a name with what its module says of it, as a label
abbrev pub label_of_net : Text → Net → PortLabel
label_of_net name net = record { name = name; width = span net.range; range = net.written }

-- the same where it is an input other than the clock
abbrev pub label_unless_clock : Text → Text × Net → List PortLabel
label_unless_clock clock entry =
    cond (entry.1.is_input && not (bytes_eq entry.0 clock)) (label_of_net entry.0 entry.1 ∷ []) []

-- how many bits stand before those of the port with this name
abbrev pub bits_before : List PortLabel → Text → Option ℕ
bits_before [] name = None
bits_before (port ∷ ports) name =
    cond (bytes_eq port.name name) (Some 0) (option_map (λ bits. port.width + bits) (bits_before ports name))

-- the names that a command gives, and the ports of this module
abbrev pub labels_with : Names → Module → Labels
labels_with names m =
    record { top = names.top; clock = names.clock; check = names.check; ports = port_labels names.clock m }

-- the reset at its place among the bits of these ports
abbrev pub reset_in : List PortLabel → Text × Bool → Option Reset
reset_in ports reset = option_map (reset_at reset.1) (bits_before ports reset.0)

abbrev pub setup_with : Names → List PortLabel → Setup
setup_with names ports =
    record { reset = option_and_then (reset_in ports) names.reset; cycles = names.reset_cycles }
