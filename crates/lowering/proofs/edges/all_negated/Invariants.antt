use Rattle.std.proofs.Common.{◌≡◌, ◌++◌, drop, map}
use Rattle.flat_net.specs.Edges.{negated}
use Rattle.lowering.proofs.edges.all_negated.Given as goal

abbrev pub invariant-loop-edge : goal.invariant-loop-edge
invariant-loop-edge l = l.all ++ map negated (drop l.edge-index l.edges) ≡ map negated l.edges
