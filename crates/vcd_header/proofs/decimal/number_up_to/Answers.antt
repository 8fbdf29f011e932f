use Rattle.std.proofs.Common.{◌∙◌, sym}
use Rattle.vcd_header.proofs.DecimalLemmas.{digit_refused_at}
use Rattle.vcd_header.proofs.decimal.number_up_to.Goals as goal

pub returns-in-None : goal.returns-in-None
returns-in-None c =
    digit_refused_at c.args.most c.loop-digit.value c.loop-digit.digit-index c.args.text.now c.loop-digit-test.true (sym c.in-None.is ∙ c.with_digit.ensures) ∙ c.loop-digit.invariant.same
