use Rattle.std.proofs.Common.{◌≡◌, drop, filter, flat_map, fold}
use Rattle.hierarchy.specs.Failures.{earlier}
use Rattle.clock_rules.specs.Clocks.{bad_clocks, bad_clocks_in}
use Rattle.clock_rules.specs.Ruled.{ruled}
use Rattle.clock_rules.specs.Told.{is_reached}
use Rattle.clock_rules.proofs.clocking.note_bad_clocks.Given as goal

abbrev pub invariant-loop-place : goal.invariant-loop-place
invariant-loop-place l = record {
  same : fold earlier l.found (flat_map (bad_clocks_in (ruled l.rule)) (filter (is_reached (ruled l.rule)) (drop l.place (ruled l.rule).design.modules))) ≡ fold earlier l.initial.found (bad_clocks (ruled l.rule));
}
