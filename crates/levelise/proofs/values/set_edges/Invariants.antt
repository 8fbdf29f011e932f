use Rattle.std.proofs.Common.{◌≡◌, length, map, slice_get, take}
use Rattle.flat_net.specs.Values.{edge_value}
use Rattle.levelise.specs.Machine.{known}
use Rattle.levelise.proofs.values.set_edges.Given as goal

abbrev pub invariant-loop-i : goal.invariant-loop-i
invariant-loop-i l = record {
  count : length l.bits ≡ length l.edges;
  set : take l.i l.bits ≡ map (λ edge. known (edge_value (slice_get l.work) edge)) (take l.i l.edges);
}
