-- What the rule on clock uses is told by what is kept for it.
use Rattle.std.specs.Prelude.{◌≡◌, ◌==◌, List, Bool, not, ◌&&◌, ◌||◌, bytes_eq, map}
use Rattle.hierarchy.specs.Indexed.{Topped}
use Rattle.hierarchy.specs.Reach.{reaches}
use Rattle.nets.specs.Nets.{Net}
use Rattle.vlog_tree.specs.declared.design.Module.{Module}
use Rattle.vlog_tree.specs.Meaning.Ranges.{span}
use Rattle.vlog_tree.specs.Meaning.Uses.{Text}
use Rattle.clock_sets.specs.Sets.{Clocked}
use Rattle.clock_rules.specs.Clocks.{clock_ports}

-- what is kept of a design: its top's name, its clock uses, and the clock ports of each module
pub record Tells (topped : Topped) (top : Text) (uses : Topped) (ports : List (List Text)) : Type 0 where
  pub is_top : top ≡ topped.top
  pub are_uses : uses ≡ topped
  pub are_ports : ports ≡ map (clock_ports topped.design topped.top) topped.design.modules

-- whether a module is reached from the top
abbrev pub is_reached : Clocked → Module → Bool
is_reached clocked m = reaches clocked.design clocked.top m.name

-- a name of a module is an input of the top other than its clock, by what the module says of it
abbrev pub is_other_by : Clocked → Text → Text → Net → Bool
is_other_by clocked module_name name net =
    bytes_eq module_name clocked.top && (net.is_input && not (bytes_eq name clocked.clock))

-- what a clock use may be, by what the module says of it and by whether it is the left name of a plain assign
abbrev pub can_be_by : Clocked → Text → Text → Net → Bool → Bool
can_be_by clocked module_name name net is_assigned =
    (span net.range == 1) && (not net.is_register
    && ((net.is_input || is_assigned) && not (is_other_by clocked module_name name net)))
