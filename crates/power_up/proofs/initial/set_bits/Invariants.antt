use Rattle.power_up.proofs.ChangeLemmas.{AreSet}
use Rattle.power_up.proofs.initial.set_bits.Given as goal

abbrev pub invariant-loop-i : goal.invariant-loop-i
invariant-loop-i l = AreSet l.start l.count l.number l.i l.initial.bits l.bits
