use Rattle.std.proofs.Common.{◌++◌, ap, ◌∙◌}
use Rattle.std.proofs.lemmas.Result.{IfOk-equal}
use Rattle.vcd_writer.specs.Code.{first_port}
use Rattle.vcd_writer.specs.Header.{port_lines}
use Rattle.vcd_writer.specs.Line.{text_of}
use Rattle.vcd_writer.proofs.Pieces.{header_whole}
use Rattle.vcd_writer.proofs.header.put_header.Goals as goal

pub returns : goal.returns
returns c =
    let ports = c.in_ok-put_ports.ensures ∙ ap (λ ports. c.put_check_variable.new.text.items ++ text_of (port_lines first_port ports)) c.as_slice.ensures in
    IfOk-equal _ _ _ _ c.put.ensures
    (header_whole _ _ _ _ _ c.args.labels.now c.args.checked c.in_ok-put_opening.ensures c.in_ok-put_variable.ensures c.in_ok-put_check_variable.ensures ports)
