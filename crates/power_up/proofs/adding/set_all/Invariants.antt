use Rattle.std.proofs.Common.{◌-◌, length}
use Rattle.power_up.proofs.ValueLemmas.{AreDone}
use Rattle.power_up.proofs.adding.set_all.Given as goal

abbrev pub invariant-loop-i : goal.invariant-loop-i
invariant-loop-i l = AreDone l.places.definition l.first l.items (length l.items - l.i) l.initial.bits l.bits
