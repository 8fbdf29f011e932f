use Rattle.std.proofs.Common.{◌≡◌, ◌+◌, ◌<◌, ◌^◌, ◌++◌, drop, length}
use Rattle.clock_sets.specs.Numbers.{starts_from}
use Rattle.clock_sets.specs.Passing.{signals}
use Rattle.clock_sets.proofs.numbers.Numbers.of.Given as goal

abbrev pub invariant-loop-nets : goal.invariant-loop-nets
invariant-loop-nets l = record {
  starts_are : l.starts.items ++ starts_from l.count (drop l.nets-index l.nets-items) ≡ starts_from 0 l.nets-items;
  count_is : l.count + length (signals (drop l.nets-index l.nets-items)) ≡ length (signals l.nets-items);
  count_fits : l.count < 2 ^ 64;
}
