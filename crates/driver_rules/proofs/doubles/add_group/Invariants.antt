use Rattle.std.proofs.Common.{◌++◌, List, take}
use Rattle.vlog_tree.specs.declared.design.Module.{Module}
use Rattle.driver_rules.specs.Doubles.{Assigned}
use Rattle.driver_rules.specs.Driven.{Has}
use Rattle.driver_rules.specs.Runs.{kept_at}
use Rattle.driver_rules.specs.Selects.{AreNumbered, shown}
use Rattle.driver_rules.proofs.doubles.add_group.Given as goal

abbrev pub invariant-loop-select : goal.invariant-loop-select
invariant-loop-select l = record {
  has : (m : Module) (before : List Assigned) → AreNumbered m l.group → Has m (kept_at l.initial.driven.runs) before
      → Has m (kept_at l.driven.runs) (before ++ shown (take l.select-index l.group));
}
