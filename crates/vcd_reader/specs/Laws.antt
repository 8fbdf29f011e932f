-- What every reading is, and what no limit refuses.
use Rattle.std.specs.Prelude.{◌≡◌, ◌≢◌, ◌<◌, ◌≤◌, All, ℕ, List, length, Option, None, Ok, Err}
use Rattle.std.specs.List.{sum_by}
use Rattle.bm_base.specs.Size.{limit_of}
use Rattle.bm_base.specs.declared.size.Size.TheVariants.{Cycles}
use Rattle.trace_rows.specs.Rows.{Rows}
use Rattle.trace_rows.specs.declared.labels.Labels.{Labels}
use Rattle.trace_rows.specs.declared.labels.PortLabel.{PortLabel}
use Rattle.vcd_header.specs.declared.fault.VcdFault.{VcdFault}
use Rattle.vcd_header.specs.declared.fault.VcdFault.TheVariants.{Memory, Read}
use Rattle.vcd_reader.specs.Rows.{Reading}
use Rattle.vcd_reader.specs.Waveform.{limit_passed, limited, waveform}

-- A reading has a row or more, each as wide as the ports together.
pub record Fits (labels : Labels) (reading : Reading) : Type 0 where
  pub width : reading.trace.width ≡ sum_by (λ (port : PortLabel). port.width) labels.ports
  pub wide : All (λ row. length row ≡ reading.trace.width) reading.trace.rows
  pub some : 0 < length reading.trace.rows

-- What bytes are is within the limits, and fits.
abbrev pub WaveformsFit : Type 0
WaveformsFit =
    (registers : ℕ) (bytes : List ℕ) (labels : Labels) (scope : Option (List ℕ)) (reading : Reading)
    → limited registers (waveform bytes labels scope) ≡ Ok reading
    → (waveform bytes labels scope ≡ Ok reading) × (limit_passed registers reading.trace ≡ None) × Fits labels reading

-- A fault of bytes is neither that of a read nor want of memory.
abbrev pub FaultsAreOfBytes : Type 0
FaultsAreOfBytes =
    (registers : ℕ) (bytes : List ℕ) (labels : Labels) (scope : Option (List ℕ)) (fault : VcdFault)
    → limited registers (waveform bytes labels scope) ≡ Err fault
    → (fault ≢ Read) × (fault ≢ Memory)

-- Fewer rows of the same width pass no limit that more rows don't.
abbrev pub ShorterPassesNone : Type 0
ShorterPassesNone =
    (registers : ℕ) (trace other : Rows) → other.width ≡ trace.width → length other.rows ≤ length trace.rows
    → limit_passed registers trace ≡ None
    → limit_passed registers other ≡ None

-- Rows that pass no limit are no more than there may be.
abbrev pub CyclesAreWithin : Type 0
CyclesAreWithin =
    (registers : ℕ) (trace : Rows) → limit_passed registers trace ≡ None → length trace.rows ≤ limit_of Cycles
