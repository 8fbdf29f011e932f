use Rattle.std.proofs.Common.{◌++◌, ap, ◌∙◌}
use Rattle.std.proofs.lemmas.Result.{IfOk-equal}
use Rattle.vcd_writer.specs.Code.{first_port}
use Rattle.vcd_writer.specs.Line.{text_of}
use Rattle.vcd_writer.specs.Value.{port_value_lines}
use Rattle.vcd_writer.proofs.Pieces.{first_whole}
use Rattle.vcd_writer.proofs.row.put_first.Goals as goal

pub returns : goal.returns
returns c =
    let values = c.in_ok-put_port_values.ensures ∙ ap (λ row. c.put_check.new.text.items ++ text_of (port_value_lines first_port c.args.ports.now row)) c.deref.ensures.value in
    IfOk-equal _ _ _ _ c.put-2.ensures
    (first_whole _ _ _ _ _ _ c.args.ports.now c.args.cycle.now.check c.args.cycle.now.row.items c.in_ok-put_time.ensures c.in_ok-put.ensures c.in_ok-put_scalar.ensures c.in_ok-put_check.ensures values)
