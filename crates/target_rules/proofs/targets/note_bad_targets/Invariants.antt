use Rattle.std.proofs.Common.{◌≡◌, drop, flat_map, fold}
use Rattle.hierarchy.specs.Failures.{earlier}
use Rattle.target_rules.specs.Targets.{bad_targets_in}
use Rattle.target_rules.proofs.targets.note_bad_targets.Given as goal

-- What is found so far, and then in those that are left, is what is found in all.
abbrev pub invariant-loop-item : goal.invariant-loop-item
invariant-loop-item l = record {
  same : fold earlier l.found (flat_map (bad_targets_in l.design.design l.nets) (drop l.item-index l.items)) ≡ fold earlier l.initial.found (flat_map (bad_targets_in l.design.design l.nets) l.items);
}
