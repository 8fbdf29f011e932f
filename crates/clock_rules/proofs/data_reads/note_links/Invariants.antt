use Rattle.std.proofs.Common.{◌≡◌, [], drop, flat_map, fold}
use Rattle.hierarchy.specs.Failures.{earlier}
use Rattle.clock_rules.specs.Clocks.{bad_read, connection_reads}
use Rattle.clock_rules.specs.Kept.{child_of_links, connected_from}
use Rattle.clock_rules.proofs.data_reads.note_links.Given as goal

abbrev pub invariant-loop-place : goal.invariant-loop-place
invariant-loop-place l = record {
  same : fold earlier l.found (flat_map (bad_read l.names l.nets) (flat_map (connection_reads l.nets (child_of_links l.inner [])) (connected_from l.inner l.place (drop l.place l.links)))) ≡ fold earlier l.initial.found (flat_map (bad_read l.names l.nets) (flat_map (connection_reads l.nets (child_of_links l.inner [])) (connected_from l.inner 0 l.links)));
}
