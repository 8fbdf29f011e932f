use Rattle.std.proofs.Common.{◌≡◌, take}
use Rattle.vcd_writer.proofs.cycle.values.Given as goal

abbrev pub invariant-loop-i : goal.invariant-loop-i
invariant-loop-i l = l.values.items ≡ take l.i l.bits
