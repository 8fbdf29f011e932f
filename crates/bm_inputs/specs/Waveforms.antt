-- What waveforms are, of bytes.
use Rattle.std.specs.Prelude.{◌≡◌, ◌≤◌, ℕ, List, Option, Ok, Err, length}
use Rattle.bm_base.specs.Size.{limit_of}
use Rattle.bm_base.specs.declared.size.Size.TheVariants as size
use Rattle.trace_rows.specs.declared.labels.Labels.{Labels}
use Rattle.vcd_header.specs.declared.fault.VcdFault.{VcdFault}
use Rattle.vcd_reader.specs.Rows.{Reading}
use Rattle.vcd_reader.specs.Waveform.{limited, waveform}

-- The bytes are no longer than a waveform may be, and this is what they are as one: the rows and the count of unknown
-- bits, or why there are none. The rows are of these labels, in the scope of this name or, without one, in the first
-- that gives every bit; and their states have so many registers.
pub record IsWaveform (labels : Labels) (scope : Option (List ℕ)) (registers : ℕ) (bytes : List ℕ)
    (reading : Reading) : Type 0 where
  pub short : length bytes ≤ limit_of size.Waveform
  pub text : limited registers (waveform bytes labels scope) ≡ Ok reading

pub record IsWaveformFault (labels : Labels) (scope : Option (List ℕ)) (registers : ℕ) (bytes : List ℕ)
    (why : VcdFault) : Type 0 where
  pub short : length bytes ≤ limit_of size.Waveform
  pub text : limited registers (waveform bytes labels scope) ≡ Err why
