use Rattle.std.proofs.Common.{◌++◌, decimal, ap, ◌∙◌}
use Rattle.std.proofs.lemmas.Result.{IfOk-equal}
use Rattle.vcd_writer.proofs.Pieces.{variable_whole}
use Rattle.vcd_writer.proofs.header.put_variable.Goals as goal

pub returns : goal.returns
returns c =
    let width = c.in_ok-put_number.ensures ∙ ap (λ n. c.put.new.text.items ++ decimal n) c.from.ensures in
    IfOk-equal _ _ _ _ c.put-4.ensures
    (variable_whole _ _ _ _ _ _ _ _ _ _ _ _ c.in_ok-put.ensures width c.in_ok-put-2.ensures c.in_ok-put_code.ensures c.in_ok-put-3.ensures c.in_ok-put_name.ensures c.in_ok-put_range.ensures)
