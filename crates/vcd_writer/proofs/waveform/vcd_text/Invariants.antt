use Rattle.std.proofs.Common.{◌≡◌, ◌-◌, ◌++◌, ◌≤◌, length, drop}
use Rattle.std.specs.Option.{option_copied}
use Rattle.vcd_writer.specs.Line.{text_of}
use Rattle.vcd_writer.specs.Value.{row_width}
use Rattle.vcd_writer.specs.Waveform.{check_of, later_blocks, vcd}
use Rattle.vcd_writer.proofs.waveform.vcd_text.Given as goal

abbrev pub invariant-loop-i : goal.invariant-loop-i
invariant-loop-i l = record {
  start : 1 ≤ l.i;
  width : row_width l.labels.ports ≡ length l.before.row.items;
  check : l.before.check ≡ check_of (option_copied l.bad) (l.i - 1);
  wrote : l.text.items ++ text_of (later_blocks l.labels.ports (option_copied l.bad) (l.i - 1) l.before.row.items (drop l.i l.t.rows))
      ≡ vcd l.t.rows l.labels (option_copied l.bad);
}
