use Rattle.std.proofs.Common.{◌≡◌, [], drop, flat_map, fold, take}
use Rattle.hierarchy.specs.Failures.{earlier}
use Rattle.driver_rules.specs.Driven.{Has, assigned_by, doubles_by_item}
use Rattle.driver_rules.specs.Runs.{kept_at}
use Rattle.driver_rules.proofs.doubles.note_doubles.Given as goal

-- What is found so far, and then in those that are left, is what is found in all.
abbrev pub invariant-loop-item : goal.invariant-loop-item
invariant-loop-item l = record {
  same : fold earlier l.found (doubles_by_item l.design.design l.nets (flat_map (assigned_by l.design.design l.nets) (take l.item-index l.item-items)) (drop l.item-index l.item-items))
      ≡ fold earlier l.initial.found (doubles_by_item l.design.design l.nets [] l.item-items);
  has : Has l.nets (kept_at l.driven.runs) (flat_map (assigned_by l.design.design l.nets) (take l.item-index l.item-items));
}
