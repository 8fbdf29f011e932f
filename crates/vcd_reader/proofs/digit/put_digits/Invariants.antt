use Rattle.std.proofs.Common.{◌≡◌, drop, length}
use Rattle.vcd_reader.specs.Targets.{with_digits}
use Rattle.vcd_reader.proofs.digit.put_digits.Given as goal

abbrev pub invariant-loop-target : goal.invariant-loop-target
invariant-loop-target l = record {
  len : length l.values ≡ length l.fn.values;
  same : with_digits l.digits (drop l.target-index l.targets) l.values ≡ with_digits l.digits l.targets l.fn.values;
}
