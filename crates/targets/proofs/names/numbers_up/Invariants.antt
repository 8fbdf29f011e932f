use Rattle.std.proofs.Common.{◌≡◌, map}
use Rattle.std.specs.List.{range_with_len}
use Rattle.targets.specs.Numbers.{number_at}
use Rattle.targets.proofs.names.numbers_up.Given as goal

abbrev pub invariant-loop-bit : goal.invariant-loop-bit
invariant-loop-bit l = l.list ≡ map (number_at l.first) (range_with_len 0 l.bit)
