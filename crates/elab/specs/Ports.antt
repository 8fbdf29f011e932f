-- The rule on the clock, the checker and the reset: E11.
use Rattle.std.specs.Prelude.{List, [], ◌∷◌, ◌++◌, Bool, not, ◌&&◌, Option, None, Some, bytes_eq, cond, flat_map}
use Rattle.std.specs.Option.{option_to_list}
use Rattle.hierarchy.specs.Failures.{Failure, failure}
use Rattle.vlog_tree.specs.declared.design.Module.{Module}
use Rattle.vlog_tree.specs.Meaning.Instances.{top_module}
use Rattle.nets.specs.Nets.{is_one_bit}
use Rattle.vlog_tree.specs.Meaning.Names.{is_input, is_output}
use Rattle.vlog_tree.specs.Meaning.Setting.{Setting}
use Rattle.vlog_tree.specs.Meaning.Uses.{Text}

-- The name alone is printed.
abbrev pub unless_fit : Bool → Text → List Failure
unless_fit fit name = cond fit [] (failure 0 [] name ∷ [])

abbrev pub bad_reset : Module → Text → Option (Text × Bool) → List Failure
bad_reset m clock (Some reset) =
    unless_fit (is_input m reset.0 && (is_one_bit m reset.0 && not (bytes_eq reset.0 clock))) reset.0
bad_reset m clock None = []

-- the clock or the reset is no input of one bit, the checker is no output of one bit, or clock and reset are one name: in
-- the order of clock, checker and reset
abbrev pub bad_ports_of : Setting → Module → List Failure
bad_ports_of setting m =
    unless_fit (is_input m setting.clock && is_one_bit m setting.clock) setting.clock
    ++ unless_fit (is_output m setting.check && is_one_bit m setting.check) setting.check
    ++ bad_reset m setting.clock setting.reset

abbrev pub bad_setting : Setting → List Failure
bad_setting setting = flat_map (bad_ports_of setting) (option_to_list (top_module setting))
