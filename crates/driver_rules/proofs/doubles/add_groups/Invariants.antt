use Rattle.std.proofs.Common.{◌++◌, List, take}
use Rattle.vlog_tree.specs.declared.design.Module.{Module}
use Rattle.driver_rules.specs.Doubles.{Assigned}
use Rattle.driver_rules.specs.Driven.{Has}
use Rattle.driver_rules.specs.Runs.{kept_at}
use Rattle.driver_rules.specs.Groups.{GroupsAreNumbered, groups_shown, joined}
use Rattle.driver_rules.proofs.doubles.add_groups.Given as goal

abbrev pub invariant-loop-added : goal.invariant-loop-added
invariant-loop-added l = record {
  has : (m : Module) (before : List Assigned) → GroupsAreNumbered m l.groups → Has m (kept_at l.initial.driven.runs) before
      → Has m (kept_at l.driven.runs) (before ++ joined (groups_shown (take l.added-index l.groups)));
}
