use Rattle.std.proofs.Common.{◌≡◌, take}
use Rattle.hierarchy.specs.Graph.{inner_places, place_among}
use Rattle.instances.proofs.graph.inner_places.Given as goal

abbrev pub invariant-loop-item : goal.invariant-loop-item
invariant-loop-item l = l.inner.items ≡ inner_places (place_among l.hierarchy.design.modules) (take l.item-index l.items)
