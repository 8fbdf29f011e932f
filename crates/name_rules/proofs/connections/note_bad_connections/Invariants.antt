use Rattle.std.proofs.Common.{◌≡◌, drop, flat_map, fold}
use Rattle.hierarchy.specs.Failures.{earlier}
use Rattle.name_rules.specs.Uses.{bad_connection}
use Rattle.name_rules.proofs.connections.note_bad_connections.Given as goal

abbrev pub invariant-loop-item : goal.invariant-loop-item
invariant-loop-item l = record {
  same : fold earlier l.found (flat_map (bad_connection l.hierarchy.design l.m) (drop l.item-index l.item-items)) ≡ fold earlier l.initial.found (flat_map (bad_connection l.hierarchy.design l.m) l.item-items);
}
