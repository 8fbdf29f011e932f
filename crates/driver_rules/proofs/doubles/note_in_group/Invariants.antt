use Rattle.std.proofs.Common.{◌≡◌, ◌++◌, List, drop, fold, take}
use Rattle.hierarchy.specs.Failures.{earlier}
use Rattle.driver_rules.specs.Doubles.{Assigned}
use Rattle.driver_rules.specs.Driven.{Has, doubles_in_group}
use Rattle.driver_rules.specs.Runs.{kept_at}
use Rattle.driver_rules.specs.Selects.{shown}
use Rattle.driver_rules.proofs.doubles.note_in_group.Given as goal

-- What is found so far, and then in those that are left, is what is found in all.
abbrev pub invariant-loop-select : goal.invariant-loop-select
invariant-loop-select l = record {
  same : (before others : List Assigned) → Has l.nets (kept_at l.driven.runs) before → Has l.nets (kept_at l.initial.here.runs) others
      → fold earlier l.found (doubles_in_group l.nets before (others ++ shown (take l.select-index l.group)) (shown (drop l.select-index l.group)))
      ≡ fold earlier l.initial.found (doubles_in_group l.nets before others (shown l.group));
  has : (others : List Assigned) → Has l.nets (kept_at l.initial.here.runs) others
      → Has l.nets (kept_at l.here.runs) (others ++ shown (take l.select-index l.group));
}
