use Rattle.std.proofs.Common.{[], ◌∙◌, sym}
use Rattle.vlog_tree.specs.Spelling.Numbers.{bits_of}
use Rattle.vlog_numbers.proofs.DecimalValues.{decimal_bits_are}
use Rattle.vlog_numbers.proofs.based.decimal_row.Goals as goal

pub returns : goal.returns
returns c = (
  bits_of 128 c.in-Some.value,
  decimal_bits_are c.args.digits.now c.in-Some.value (sym c.is_lone_unknown.ensures ∙ c.if-is_lone_unknown.false) (sym c.in-Some.is ∙ c.whole_decimal.ensures),
  c.push.ensures c.args.width [] c.in_ok-row.ensures,
)
