-- The run of a trace, and room for others.
use Rattle.std.specs.Prelude.{◌≡◌, ℕ, List, Bool, length}
use Rattle.levelise.specs.Machine.{Level, machine}
use Rattle.levelise.specs.States.{AreStatesCounted, states_of}
use Rattle.trace_rows.specs.Rows.{Rows}
use Rattle.cycle_cut.specs.Violations.{IsViolatedFrom, IsViolatedUpTo}
use Rattle.cycle_cut.specs.declared.spare.Spare.{Spare}

-- These are the states of the run of this trace.
pub record IsRun (level : Level) (trace : Rows) (states : List (List Bool)) : Type 0 where
  pub width : trace.width ≡ level.net.inputs
  pub states_are : states ≡ states_of (machine level) trace.rows
  pub counted : AreStatesCounted level

-- These are the states of the run and the places of its violations.
pub record IsBase (level : Level) (trace : Rows) (states : List (List Bool)) (first end : ℕ) : Type 0 where
  pub run : IsRun level trace states
  pub starts : IsViolatedFrom (machine level) trace.rows first
  pub ends : IsViolatedUpTo (machine level) trace.rows end

-- There is room for two states and for the values of all nodes.
pub record HasRoom (level : Level) (spare : Spare) : Type 0 where
  pub before : length spare.before ≡ length level.net.power_up
  pub after : length spare.after ≡ length level.net.power_up
  pub work : length spare.work ≡ length level.net.nodes
