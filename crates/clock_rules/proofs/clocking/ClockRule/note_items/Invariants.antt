use Rattle.std.proofs.Common.{◌≡◌, drop, flat_map, fold}
use Rattle.hierarchy.specs.Failures.{earlier}
use Rattle.clock_rules.specs.Clocks.{bad_clocking}
use Rattle.clock_rules.specs.Ruled.{ruled}
use Rattle.clock_rules.proofs.clocking.ClockRule.note_items.Given as goal

abbrev pub invariant-loop-item : goal.invariant-loop-item
invariant-loop-item l = record {
  same : fold earlier l.found (flat_map (bad_clocking (ruled l.self) l.nets) (drop l.item-index l.item-items)) ≡ fold earlier l.initial.found (flat_map (bad_clocking (ruled l.self) l.nets) l.item-items);
}
