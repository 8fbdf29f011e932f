use Rattle.hierarchy.specs.Graph.{inner_place, place_among}
use Rattle.hierarchy.proofs.ListLemmas.{filter_map-push}
use Rattle.instances.proofs.graph.inner_places.Goals as goal

pub loop-item-preserved : goal.loop-item-preserved
loop-item-preserved c =
    filter_map-push (inner_place (place_among c.args.hierarchy.now.design.modules)) c.args.items.now c.loop-item.item-index
    c.item-item.result
    c.inner_place.result c.loop-item.inner.items c.push_some.new.places.items
    c.loop-item-test.true c.item-item.is c.loop-item.invariant c.inner_place.ensures c.in_ok-push_some.ensures
