-- What the files of a command are excludes that they are refused.
use Rattle.std.specs.Prelude.{◌≡◌}
use Rattle.bm_base.specs.Held.{Held}
use Rattle.bm_words.specs.Words.{Inputs}
use Rattle.vcd_reader.specs.Rows.{Reading}
use Rattle.vlog_tree.specs.declared.design.Design.{Design}
use Rattle.bm_inputs.specs.Files.{HasNetlist, HasWaveform, RefusesFiles}
use Rattle.bm_inputs.specs.Lines.{refusal_status}
use Rattle.bm_inputs.specs.declared.stop.InputRefusal.{InputRefusal}

pub record FilesExclude : Type 0 where
  -- NETLIST has one design,
  pub design : (inputs : Inputs) (held : Held) (one other : Design) → HasNetlist inputs held one → HasNetlist inputs held other
      → one ≡ other
  -- and the waveform is one for it.
  pub reading : (inputs : Inputs) (held : Held) (design : Design) (one other : Reading) → HasWaveform inputs held design one
      → HasWaveform inputs held design other → one ≡ other
  -- Files that are read are not refused,
  pub refused : (inputs : Inputs) (held : Held) (why : InputRefusal) (design : Design) (reading : Reading)
      → RefusesFiles inputs held why → HasNetlist inputs held design → HasWaveform inputs held design reading → ⊥
  -- and those that are refused, are refused with one status.
  pub statuses : (inputs : Inputs) (held : Held) (one other : InputRefusal) → RefusesFiles inputs held one
      → RefusesFiles inputs held other → refusal_status one ≡ refusal_status other
