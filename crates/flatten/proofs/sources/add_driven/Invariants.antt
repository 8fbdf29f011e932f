use Rattle.std.proofs.Common.{◌≡◌, ◌++◌, map, take}
use Rattle.flatten.specs.Gathered.{node_given}
use Rattle.flatten.proofs.sources.add_driven.Given as goal

abbrev pub invariant-loop-edge : goal.invariant-loop-edge
invariant-loop-edge l = l.nodes ≡ l.initial.nodes ++ map node_given (take l.edge-index l.edges)
