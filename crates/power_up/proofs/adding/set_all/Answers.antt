use Rattle.std.proofs.Common.{arith}
use Rattle.power_up.proofs.ValueLemmas.{more_done}
use Rattle.power_up.proofs.adding.set_all.Goals as goal

pub loop-i-preserved : goal.loop-i-preserved
loop-i-preserved c =
    more_done c.args.places.now.definition c.args.first c.args.items.now _ _ c.index-items-place.result c.index-items-place.result
    c.args.bits.now c.loop-i.bits c.set_initial.new.bits
    (omega (arith, c.loop-i-test.true)) (omega (arith, c.loop-i-test.true)) c.index-items-place.is
    c.set_initial.ensures.count c.set_initial.ensures.values
    c.loop-i.invariant
