use Rattle.std.proofs.Common.{◌≡◌, ◌++◌, drop}
use Rattle.processes.specs.Numbers.{edges_at}
use Rattle.processes.proofs.writing.edges_at.Given as goal

abbrev pub invariant-loop-number : goal.invariant-loop-number
invariant-loop-number l = l.edges ++ edges_at (drop l.number-index l.numbers) l.current ≡ edges_at l.numbers l.current
