use Rattle.std.proofs.Common.{◌≡◌, take}
use Rattle.hierarchy.specs.Graph.{inner_places}
use Rattle.hierarchy.specs.Places.{place_in}
use Rattle.hierarchy.proofs.graph.inner_places.Given as goal

abbrev pub invariant-loop-item : goal.invariant-loop-item
invariant-loop-item l = l.inner.items ≡ inner_places (place_in l.places) (take l.item-index l.items)
