use Rattle.std.proofs.Common.{◌∙◌, ap, subst}
use Rattle.std.proofs.lemmas.Iterator.Adapters.{YieldsList-from_rev_slice}
use Rattle.std.proofs.lemmas.Iterator.Consumers.{YieldsList-end}
use Rattle.vlog_numbers.specs.Fill.{Holds}
use Rattle.vlog_numbers.proofs.Fills.{digit_more, digits_up, digits_up_is}
use Rattle.vlog_numbers.proofs.based.digit_row.Goals as goal

pub loop-digit-preserved-then-digit-ne95 : goal.loop-digit-preserved-then-digit-ne95
loop-digit-preserved-then-digit-ne95 c =
    digit_more c.args.digit_width c.args.width c.push.new.self c.loop-digit.yielded c.in-Some.digit c.digit_value.result c.digit_value.ensures c.if-digit-ne95.true (c.push.ensures c.args.width _ c.loop-digit.invariant)

pub returns : goal.returns
returns c =
    let end = YieldsList-end (YieldsList-from_rev_slice c.args.digits.now (cc)) c.loop-digit.yielded _ c.loop-digit.yielded_by _ _ c.in-None.is c.next.ensures.steps in
    subst (Holds c.args.width c.loop-digit.row) (ap (digits_up c.args.digit_width) end.0 ∙ digits_up_is c.args.digit_width c.args.digits.now) c.loop-digit.invariant
