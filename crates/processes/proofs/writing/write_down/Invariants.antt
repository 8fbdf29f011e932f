use Rattle.std.proofs.Common.{◌≡◌, drop, reverse}
use Rattle.processes.specs.Numbers.{written}
use Rattle.processes.proofs.writing.write_down.Given as goal

abbrev pub invariant-loop-i : goal.invariant-loop-i
invariant-loop-i l = written (reverse (drop l.i l.numbers)) l.edges l.current ≡ written (reverse l.numbers) l.edges l.initial.current
