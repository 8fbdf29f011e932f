-- What is planned of a design that keeps the rules: the place of its top, the labels of its traces, and how it begins.
use Rattle.std.specs.Prelude.{◌≡◌, ℕ, Bool, List, [], Option, Some, bytes_eq, filter, filter_map, flat_map, map, not, option_and_then, option_map, position}
use Rattle.std.specs.Option.{option_to_list}
use Rattle.bm_base.specs.declared.range.Range.{Range}
use Rattle.flat_net.specs.declared.setup.Reset.{Reset}
use Rattle.flat_net.specs.declared.setup.Setup.{Setup}
use Rattle.hierarchy.specs.Graph.{place_among}
use Rattle.nets.specs.Nets.{first_of, written_in}
use Rattle.trace_rows.specs.declared.labels.Labels.{Labels}
use Rattle.trace_rows.specs.declared.labels.PortLabel.{PortLabel}
use Rattle.vlog_tree.specs.declared.design.Module.{Module}
use Rattle.vlog_tree.specs.Meaning.Instances.{top_module}
use Rattle.vlog_tree.specs.Meaning.Keys.{bit_count, input_keys, key_of, same_key}
use Rattle.vlog_tree.specs.Meaning.Names.{inputs}
use Rattle.vlog_tree.specs.Meaning.Setting.{Setting}
use Rattle.vlog_tree.specs.Meaning.Uses.{Text}
use Rattle.elab.specs.declared.plan.Plan.{Plan}

-- ---- labels

-- the first range that one of the name's declarations writes
abbrev pub written_range : Module → Text → Option Range
written_range m name = first_of (filter_map (written_in name) m.items)

abbrev pub port_label : Module → Text → PortLabel
port_label m name = record { name = name; width = bit_count m name; range = written_range m name }

-- the inputs of a module but its clock, in the order of its header
abbrev pub port_labels : Text → Module → List PortLabel
port_labels clock m = map (port_label m) (filter (λ name. not (bytes_eq name clock)) (inputs m))

abbrev pub labels_of : Setting → Labels
labels_of setting = record {
  top = setting.top;
  clock = setting.clock;
  check = setting.check;
  ports = flat_map (port_labels setting.clock) (option_to_list (top_module setting));
}

-- ---- the beginning

-- the place among the input bits of an input of one bit
abbrev pub input_place : Setting → Text → Option ℕ
input_place setting name = position (same_key (key_of [] name 0)) (input_keys setting)

abbrev pub reset_at : Bool → ℕ → Reset
reset_at active bit = record { bit = bit; active = active }

abbrev pub reset_of : Setting → Text × Bool → Option Reset
reset_of setting reset = option_map (reset_at reset.1) (input_place setting reset.0)

abbrev pub setup_of : Setting → Setup
setup_of setting =
    record { reset = option_and_then (reset_of setting) setting.reset; cycles = setting.reset_cycles }

pub record IsPlan (setting : Setting) (plan : Plan) : Type 0 where
  pub top : place_among setting.design.modules setting.top ≡ Some plan.top
  pub labels : plan.labels ≡ labels_of setting
  pub setup : plan.setup ≡ setup_of setting
