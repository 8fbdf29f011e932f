-- The row holds the bits of the digits so far.
use Rattle.std.proofs.Common.{map}
use Rattle.vlog_numbers.specs.Fill.{Holds}
use Rattle.vlog_numbers.proofs.Fills.{digits_up}
use Rattle.vlog_numbers.proofs.based.digit_row.Given as goal

abbrev pub invariant-loop-digit : goal.invariant-loop-digit
invariant-loop-digit l = Holds l.width l.row (digits_up l.digit_width (map (λ digit. digit.now) l.yielded))
