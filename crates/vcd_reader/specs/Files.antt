-- What a file is read as.
use Rattle.std.specs.Prelude.{◌≡◌, ℕ, List, Option, IfSome, Result, take}
use Rattle.bm_base.specs.Held.{Held, bytes_under}
use Rattle.trace_rows.specs.declared.labels.Labels.{Labels}
use Rattle.vcd_header.specs.declared.fault.VcdFault.{VcdFault}
use Rattle.vcd_reader.specs.Rows.{Reading}
use Rattle.vcd_reader.specs.Waveform.{limited, waveform}

-- What was read under a name is this: of some bytes, which are the first so many of those that the shelf holds there,
-- where it tells them.
abbrev pub ReadAs : Option Held → List ℕ → ℕ → Labels → Option (List ℕ) → ℕ → Result Reading VcdFault → Type 0
ReadAs held name size labels scope registers outcome =
    (bytes : List ℕ) × IfSome held (λ held. bytes ≡ take size (bytes_under held name))
    × (limited registers (waveform bytes labels scope) ≡ outcome)
