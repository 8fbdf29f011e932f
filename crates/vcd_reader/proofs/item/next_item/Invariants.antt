use Rattle.std.proofs.Common.{◌≡◌, ◌≤◌, length}
use Rattle.vcd_reader.specs.Body.{items}
use Rattle.vcd_reader.proofs.item.next_item.Given as goal

abbrev pub invariant-loop-token : goal.invariant-loop-token
invariant-loop-token l = record {
  same : items l.tokens ≡ items l.fn.tokens;
  shorter : length l.tokens ≤ length l.fn.tokens;
}

abbrev pub decreases-loop-token : goal.decreases-loop-token
decreases-loop-token l = length l.tokens
