use Rattle.std.proofs.Common.{◌≡◌, ◌+◌, ◌-◌, ◌≤◌, drop, length}
use Rattle.std.specs.List.{position_or_len}
use Rattle.vcd_header.specs.Variables.{is_colon}
use Rattle.vcd_header.proofs.select.colon_at.Given as goal

abbrev pub invariant-loop-at : goal.invariant-loop-at
invariant-loop-at l = record {
  within : l.at ≤ length l.text;
  same : l.at + position_or_len is_colon (drop l.at l.text) ≡ position_or_len is_colon l.text;
}

abbrev pub decreases-loop-at : goal.decreases-loop-at
decreases-loop-at l = length l.text - l.at
