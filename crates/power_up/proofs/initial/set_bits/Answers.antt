use Rattle.power_up.proofs.ChangeLemmas.{more_set}
use Rattle.power_up.proofs.initial.set_bits.Goals as goal

pub loop-i-preserved : goal.loop-i-preserved
loop-i-preserved c =
    more_set c.args.start c.args.count c.args.number.now c.loop-i.i c.bit_of.result c.args.bits.now c.loop-i.bits c.set.new.self
    c.loop-i-test.true c.bit_of.ensures c.set.ensures c.loop-i.invariant
