use Rattle.std.proofs.Common.{◌≡◌, ◌+◌, ◌++◌, ◌≤◌, length, drop}
use Rattle.vcd_writer.specs.Code.{first_port}
use Rattle.vcd_writer.specs.Line.{text_of}
use Rattle.vcd_writer.specs.Value.{port_change_lines, row_width}
use Rattle.vcd_writer.proofs.value.put_port_changes.Given as goal

abbrev pub invariant-loop-i : goal.invariant-loop-i
invariant-loop-i l = record {
  wide_before : row_width (drop l.i l.ports) ≤ length l.rest_before;
  wide : row_width (drop l.i l.ports) ≤ length l.rest;
  wrote : l.text.items ++ text_of (port_change_lines (first_port + l.i) (drop l.i l.ports) l.rest_before l.rest)
      ≡ l.initial.text.items ++ text_of (port_change_lines first_port l.ports l.before l.row);
}
