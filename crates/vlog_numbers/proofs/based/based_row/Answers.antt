use Rattle.std.proofs.Common.{Bool, List, Option, arith, subst, sym}
use Rattle.std.proofs.lemmas.List.{take_rest}
use Rattle.vlog_numbers.specs.Fill.{MakesRow}
use Rattle.vlog_numbers.proofs.DecimalValues.{based_decimal}
use Rattle.vlog_numbers.proofs.based.based_row.Goals as goal

pub returns-in-100 : goal.returns-in-100
returns-in-100 c =
    subst
    (λ (m : Option (List Bool)). MakesRow c.args.width m c.decimal_row.result)
    (sym (based_decimal c.args.text.now _ c.without_spaces-digits.result.now (omega arith) (take_rest c.args.text.now 2) c.without_spaces-digits.ensures c.in-100.is))
    c.decimal_row.ensures
