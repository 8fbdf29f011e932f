use Rattle.std.proofs.Common.{◌≡◌, ℕ, [], length}
use Rattle.vcd_header.specs.Contents.{list_at}
use Rattle.vcd_header.proofs.contents.empty_lists.Given as goal

abbrev pub invariant-loop : goal.invariant-loop
invariant-loop l = record {
  lists : length l.lists.items ≡ l.counter;
  empty : (number : ℕ) → list_at l.lists.items number ≡ [];
}
