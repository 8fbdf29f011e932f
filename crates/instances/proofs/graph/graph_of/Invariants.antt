use Rattle.std.proofs.Common.{◌≡◌, map, take, vec_items}
use Rattle.hierarchy.specs.Graph.{graph_of, place_among}
use Rattle.instances.proofs.graph.graph_of.Given as goal

abbrev pub invariant-loop-module : goal.invariant-loop-module
invariant-loop-module l =
    map vec_items l.graph.items ≡ graph_of (place_among l.hierarchy.design.modules) (take l.module-index l.hierarchy.design.modules)
