use Rattle.std.proofs.Common.{ap, sym, ◌∙◌}
use Rattle.hierarchy.specs.Graph.{has, inner_place, inner_places}
use Rattle.hierarchy.specs.Places.{place_in}
use Rattle.hierarchy.proofs.ListLemmas.{filter_map-has}
use Rattle.hierarchy.proofs.instances.note_module.Goals as goal

pub note_item-requires-clause-edge : goal.note_item-requires-clause-edge
note_item-requires-clause-edge c = λ inner gives.
    ap (λ xs. has xs inner) (c.requires.edges ∙ ap (inner_places (place_in c.args.places.now)) (sym c.as_slice-item-items.ensures))
    ∙ filter_map-has (inner_place (place_in c.args.places.now)) c.as_slice-item-items.result.now c.loop-item.item-index c.item-item.result
    c.loop-item-test.true c.item-item.is inner gives
