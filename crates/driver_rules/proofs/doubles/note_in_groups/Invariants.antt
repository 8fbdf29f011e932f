use Rattle.std.proofs.Common.{◌≡◌, List, drop, fold}
use Rattle.hierarchy.specs.Failures.{earlier}
use Rattle.driver_rules.specs.Doubles.{Assigned}
use Rattle.driver_rules.specs.Driven.{Has, doubles_in_groups}
use Rattle.driver_rules.specs.Groups.{groups_shown}
use Rattle.driver_rules.specs.Runs.{kept_at}
use Rattle.driver_rules.proofs.doubles.note_in_groups.Given as goal

-- What is found so far, and then in those that are left, is what is found in all.
abbrev pub invariant-loop-group : goal.invariant-loop-group
invariant-loop-group l = record {
  same : (before : List Assigned) → Has l.nets (kept_at l.driven.runs) before
      → fold earlier l.found (doubles_in_groups l.nets before (groups_shown (drop l.group-index l.groups)))
      ≡ fold earlier l.initial.found (doubles_in_groups l.nets before (groups_shown l.groups));
}
