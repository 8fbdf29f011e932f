use Rattle.std.proofs.Common.{◌≡◌, ◌+◌, ◌++◌, drop}
use Rattle.vcd_writer.specs.Code.{first_port}
use Rattle.vcd_writer.specs.Header.{port_lines}
use Rattle.vcd_writer.specs.Line.{text_of}
use Rattle.vcd_writer.proofs.header.put_ports.Given as goal

abbrev pub invariant-loop-i : goal.invariant-loop-i
invariant-loop-i l =
    l.text.items ++ text_of (port_lines (first_port + l.i) (drop l.i l.ports))
    ≡ l.initial.text.items ++ text_of (port_lines first_port l.ports)
