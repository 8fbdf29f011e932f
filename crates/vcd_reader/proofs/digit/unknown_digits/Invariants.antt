use Rattle.std.proofs.Common.{◌≡◌, ◌≤◌, take}
use Rattle.std.specs.List.{count_by}
use Rattle.vcd_reader.specs.Targets.{is_unknown_at}
use Rattle.vcd_reader.proofs.digit.unknown_digits.Given as goal

abbrev pub invariant-loop-target : goal.invariant-loop-target
invariant-loop-target l = record {
  most : l.count ≤ l.target-index;
  same : l.count ≡ count_by (is_unknown_at l.digits) (take l.target-index l.targets);
}
