-- What is written is read back.
use Rattle.std.specs.Prelude.{◌≡◌, ◌<◌, ◌*◌, ◌^◌, ℕ, List, Bool, All, Option, None, Ok, length}
use Rattle.trace_rows.specs.declared.labels.Labels.{Labels}
use Rattle.trace_rows.specs.Writable.{AreWritable}
use Rattle.vcd_reader.specs.Waveform.{waveform}
use Rattle.vcd_writer.specs.Value.{row_width}
use Rattle.vcd_writer.specs.Waveform.{vcd}

-- Rows that are as wide as the ports together. There is a row, and the times of all rows are below 2^64.
pub record AreRowsOf (labels : Labels) (rows : List (List Bool)) : Type 0 where
  pub some : 0 < length rows
  pub width : All (λ row. length row ≡ row_width labels.ports) rows
  pub times : 10 * length rows < 2 ^ 64

-- The text of rows, with checker bits or without, is a waveform of their labels, in the one scope that it has. Its rows
-- are those that were written, and no bit is unknown.
abbrev pub WrittenIsRead : Type 0
WrittenIsRead =
    (labels : Labels) (rows : List (List Bool)) (checks : Option (List Bool)) → AreWritable labels
    → AreRowsOf labels rows
    → waveform (vcd rows labels checks) labels None
    ≡ Ok (record { trace = record { width = row_width labels.ports; rows = rows }; unknown = 0 })
