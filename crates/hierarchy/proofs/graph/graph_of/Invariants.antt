use Rattle.std.proofs.Common.{◌≡◌, map, take, vec_items}
use Rattle.hierarchy.specs.Graph.{graph_of}
use Rattle.hierarchy.specs.Places.{place_in}
use Rattle.hierarchy.proofs.graph.graph_of.Given as goal

abbrev pub invariant-loop-module : goal.invariant-loop-module
invariant-loop-module l = map vec_items l.graph.items ≡ graph_of (place_in l.places) (take l.module-index l.modules)
