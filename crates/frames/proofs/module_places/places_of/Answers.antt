use Rattle.std.proofs.Common.{ap, arith, length, subst}
use Rattle.frames.specs.Found.{HavePlaces}
use Rattle.frames.specs.Numbered.{numbered}
use Rattle.frames.proofs.FoundLemmas.{more_places, no_places}
use Rattle.frames.proofs.module_places.places_of.Goals as goal

pub loop-i-init : goal.loop-i-init
loop-i-init c = no_places (numbered c.args.design.now c.args.clock.now) c.new-places.result c.new-places.ensures

pub loop-i-preserved : goal.loop-i-preserved
loop-i-preserved c =
    more_places (numbered c.args.design.now c.args.clock.now) c.loop-i.i c.loop-i.places _ c.in_ok-module_places.field-0 c.loop-i.invariant
    c.in_ok-push.ensures.ok c.in_ok-module_places.ensures

pub returns : goal.returns
returns c =
    let all = ap length c.modules-i-end.ensures in
    subst (λ count. HavePlaces (numbered c.args.design.now c.args.clock.now) count c.loop-i.places) (omega (arith, all, c.loop-i.auto.i-end, c.loop-i-test.false))
    c.loop-i.invariant
