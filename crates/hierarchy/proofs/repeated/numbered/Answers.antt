use Rattle.hierarchy.specs.Places.{place_in}
use Rattle.hierarchy.proofs.PlaceLemmas.{numbered_places, numbered_turn}
use Rattle.hierarchy.proofs.repeated.numbered.Goals as goal

pub loop-place-preserved : goal.loop-place-preserved
loop-place-preserved c =
    numbered_turn c.args.modules.now c.loop-place.place c.index-modules-place.result (place_in c.loop-place.places) c.loop-place.repeated
    (place_in c.number.new.places) c.number.new.repeated c.loop-place-test.true c.index-modules-place.is c.loop-place.invariant
    c.in_ok-number.ensures.places c.in_ok-number.ensures.repeated

pub returns-clause-places : goal.returns-clause-places
returns-clause-places c =
    numbered_places c.args.modules.now c.loop-place.place (place_in c.loop-place.places) c.loop-place.repeated c.loop-place-test.false c.loop-place.invariant
