use Rattle.std.proofs.Common.{◌≡◌, drop, flat_map, fold}
use Rattle.hierarchy.specs.Failures.{earlier}
use Rattle.clock_rules.specs.Clocks.{bad_read, data_reads}
use Rattle.clock_rules.proofs.data_reads.DataRule.note_items.Given as goal

abbrev pub invariant-loop-item : goal.invariant-loop-item
invariant-loop-item l = record {
  same : fold earlier l.found (flat_map (λ i. flat_map (bad_read l.self.names l.nets) (data_reads l.self.names.design l.nets i)) (drop l.item-index l.item-items)) ≡ fold earlier l.initial.found (flat_map (λ i. flat_map (bad_read l.self.names l.nets) (data_reads l.self.names.design l.nets i)) l.item-items);
}
