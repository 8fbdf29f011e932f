-- The digits that are left, behind the value so far, give the whole value.
use Rattle.std.proofs.Common.{◌≡◌, ◌≤◌, drop}
use Rattle.vlog_tree.specs.Spelling.Parts.{decimal_value}
use Rattle.vlog_numbers.proofs.DecimalValues.{decimal_onto}
use Rattle.vlog_numbers.proofs.digits.decimal_at_most.Given as goal

abbrev pub invariant-loop-digit : goal.invariant-loop-digit
invariant-loop-digit l = (decimal_value l.digits ≡ decimal_onto l.value (drop l.digit-index l.digits)) × (l.value ≤ l.most)
