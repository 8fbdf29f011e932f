use Rattle.std.proofs.Common.{◌≡◌, drop, filter, flat_map, fold}
use Rattle.hierarchy.specs.Failures.{earlier}
use Rattle.clock_rules.specs.Clocks.{clock_as_data, clock_as_data_in}
use Rattle.clock_rules.specs.Told.{is_reached}
use Rattle.clock_rules.proofs.data_reads.note_clock_as_data.Given as goal

abbrev pub invariant-loop-place : goal.invariant-loop-place
invariant-loop-place l = record {
  same : fold earlier l.found (flat_map (clock_as_data_in l.rule.names) (filter (is_reached l.rule.names) (drop l.place l.rule.names.design.modules))) ≡ fold earlier l.initial.found (clock_as_data l.rule.names);
}
