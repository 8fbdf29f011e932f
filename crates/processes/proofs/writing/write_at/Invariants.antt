use Rattle.std.proofs.Common.{◌≡◌, ◌-◌, Some, length, map, take}
use Rattle.processes.specs.Numbers.{written}
use Rattle.processes.proofs.writing.write_at.Given as goal

abbrev pub invariant-loop-i : goal.invariant-loop-i
invariant-loop-i l =
    written (map Some (take (length l.numbers - l.i) l.numbers)) l.edges l.current ≡ written (map Some l.numbers) l.edges l.initial.current
