use Rattle.std.proofs.Common.{◌∙◌, sym}
use Rattle.vlog_numbers.proofs.DecimalValues.{refused}
use Rattle.vlog_numbers.proofs.digits.decimal_at_most.Goals as goal

pub returns-in_err-value : goal.returns-in_err-value
returns-in_err-value c =
    c.from_residual.ensures
    ∙ refused c.loop-digit.value c.args.most _ c.args.digits.now c.loop-digit.digit-index 0 c.loop-digit.invariant.0 c.loop-digit-test.true (sym c.is_ascii_digit.ensures.value ∙ c.if-is_ascii_digit.true) (sym c.in_err-value.was ∙ c.with_digit.ensures)
