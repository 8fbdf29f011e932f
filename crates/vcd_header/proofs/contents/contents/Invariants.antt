use Rattle.std.proofs.Common.{◌≡◌, ℕ, length, take}
use Rattle.std.specs.List.{filter}
use Rattle.vcd_header.specs.Contents.{list_at, stands_at}
use Rattle.vcd_header.proofs.contents.contents.Given as goal

abbrev pub invariant-loop-declaration : goal.invariant-loop-declaration
invariant-loop-declaration l = record {
  same : length l.lists.items ≡ length l.firsts;
  lists : (number : ℕ) → list_at l.lists.items number ≡ filter (stands_at l.firsts number) (take l.declaration-index l.declarations);
}
