use Rattle.std.proofs.Common.{◌≡◌, flat_map, fold, take}
use Rattle.hierarchy.specs.Failures.{earlier}
use Rattle.hierarchy.specs.Graph.{bad_item}
use Rattle.hierarchy.specs.Places.{place_in}
use Rattle.hierarchy.proofs.instances.note_module.Given as goal

abbrev pub invariant-loop-item : goal.invariant-loop-item
invariant-loop-item l =
    l.found ≡ fold earlier l.initial.found (flat_map (bad_item l.reach (place_in l.places) l.place l.outer) (take l.item-index l.item-items))
