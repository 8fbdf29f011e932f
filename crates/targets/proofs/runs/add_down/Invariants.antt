use Rattle.std.proofs.Common.{◌≡◌, ◌++◌, ◌-◌, map, reverse}
use Rattle.std.specs.List.{range_with_len}
use Rattle.targets.specs.Numbers.{number_at}
use Rattle.targets.proofs.runs.add_down.Given as goal

abbrev pub invariant-loop-i : goal.invariant-loop-i
invariant-loop-i l =
    l.list ++ reverse (map (number_at l.first) (range_with_len l.low (l.width - l.i)))
    ≡ l.initial.list ++ reverse (map (number_at l.first) (range_with_len l.low l.width))
