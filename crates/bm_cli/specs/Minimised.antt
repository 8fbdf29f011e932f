-- The trace that `minimise` makes of the rows of a stimulus.
use Rattle.std.specs.Prelude.{◌≡◌, ◌⊎◌, ◌<◌, ◌≤◌, ℕ, List, Bool, All, Some, length, take, None, Ok}
use Rattle.cycle_cut.specs.Cuts.{IsAccepted}
use Rattle.trace_rows.specs.declared.labels.Labels.{Labels}
use Rattle.trace_rows.specs.Machine.{Machine}
use Rattle.trace_rows.specs.Run.{IsFirstAtLast, checks}
use Rattle.vcd_reader.specs.Rows.{Reading}
use Rattle.vcd_reader.specs.Waveform.{waveform}
use Rattle.vcd_writer.specs.Value.{row_width}
use Rattle.vcd_writer.specs.Waveform.{vcd}
use Rattle.bm_cli.specs.Counted.{events_of, summary_of}
use Rattle.bm_cli.specs.declared.answer.Summary.{Summary}

-- A trace has fewer cycles than another, or as many and no more events.
abbrev pub IsNoMore : Machine → List (List Bool) → List (List Bool) → Type 0
IsNoMore machine trace rows = (length trace < length rows)
    ⊎ ((length trace ≡ length rows) × (events_of machine trace ≤ events_of machine rows))

-- The text and the numbers are those of a trace that the machine accepts and that is no more than the rows cut off at
-- their first violation. As a waveform the text is this trace.
pub record IsMinimised (machine : Machine) (labels : Labels) (reading : Reading) (text : List ℕ)
    (summary : Summary) : Type 0 where
  pub trace : List (List Bool)
  pub widths : All (λ row. length row ≡ row_width labels.ports) trace
  pub accepted : IsAccepted machine trace
  pub cycles : ℕ
  pub cut_off : IsFirstAtLast machine (take cycles reading.trace.rows)
  pub no_more : IsNoMore machine trace (take cycles reading.trace.rows)
  pub written : text ≡ vcd trace labels (Some (checks machine trace))
  pub read_back : waveform text labels None
      ≡ Ok (record { trace = record { width = row_width labels.ports; rows = trace }; unknown = 0 })
  pub counted : summary ≡ summary_of machine reading.trace.rows reading.unknown trace
