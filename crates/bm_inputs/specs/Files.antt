-- What NETLIST and STIM or TRACE are, by the bytes that a shelf holds under their names.
use Rattle.std.specs.Prelude.{◌≡◌, ◌⊎◌, ◌<◌, ◌≤◌, ℕ, List, [], ◌∷◌, Option, IfSome, length}
use Rattle.bm_base.specs.Counts.{FaultCounts, Rose, count_of}
use Rattle.bm_base.specs.Held.{Held, bytes_under}
use Rattle.bm_base.specs.Size.{limit_of}
use Rattle.bm_base.specs.declared.size.Size.TheVariants as size
use Rattle.bm_words.specs.Names.{TopNames}
use Rattle.bm_words.specs.Words.{Inputs}
use Rattle.elab.specs.Plans.{labels_of}
use Rattle.elab.specs.Settings.{setting_of}
use Rattle.elab.specs.declared.names.Names.{Names}
use Rattle.netlists.specs.Faults.{IsReason}
use Rattle.netlists.specs.Netlists.{IsNetlist}
use Rattle.netlists.specs.declared.fault.NetlistFault.{NetlistFault}
use Rattle.trace_rows.specs.declared.labels.Labels.{Labels}
use Rattle.trace_rows.specs.Machine.{Machine}
use Rattle.vcd_header.specs.declared.fault.VcdFault.{VcdFault}
use Rattle.vcd_reader.specs.Rows.{Reading}
use Rattle.vlog_tree.specs.declared.design.Design.{Design}
use Rattle.vlog_tree.specs.Meaning.Keys.{register_keys}
use Rattle.vlog_tree.specs.Meaning.Setting.{Setting}
use Rattle.vlog_tree.specs.Meaning.Step.{machine}
use Rattle.bm_inputs.specs.Waveforms.{IsWaveform, IsWaveformFault}
use Rattle.bm_inputs.specs.declared.stop.InputRefusal.{InputRefusal}
use Rattle.bm_inputs.specs.declared.stop.InputRefusal.TheVariants.{Limit, Netlist, Waveform}

-- the names of the files that a command reads, in their order
abbrev pub files_of : Inputs → List (List ℕ)
files_of inputs = inputs.netlist ∷ inputs.waveform ∷ []

-- the same names as the rules take them
abbrev pub given : TopNames → Names
given names = record {
  top = names.top;
  clock = names.clock;
  check = names.check;
  reset = names.reset;
  reset_cycles = names.reset_cycles;
}

-- a design with the names that a command is given
abbrev pub setting_with : Inputs → Design → Setting
setting_with inputs design = setting_of design (given inputs.names)

-- the machine of a design
abbrev pub machine_of : Inputs → Design → Machine
machine_of inputs design = machine (setting_with inputs design)

-- the labels of its traces
abbrev pub design_labels : Inputs → Design → Labels
design_labels inputs design = labels_of (setting_with inputs design)

-- how many registers it has
abbrev pub registers_of : Inputs → Design → ℕ
registers_of inputs design = length (register_keys (setting_with inputs design))

-- NETLIST is no longer than a netlist may be, and this is its design.
pub record HasNetlist (inputs : Inputs) (held : Held) (design : Design) : Type 0 where
  pub short : length (bytes_under held inputs.netlist) ≤ limit_of size.Netlist
  pub is : IsNetlist (given inputs.names) (bytes_under held inputs.netlist) design

-- NETLIST is refused for this reason.
pub record HasNetlistFault (inputs : Inputs) (held : Held) (why : NetlistFault) : Type 0 where
  pub short : length (bytes_under held inputs.netlist) ≤ limit_of size.Netlist
  pub reason : IsReason (given inputs.names) (bytes_under held inputs.netlist) why

-- NETLIST is longer than a netlist may be.
abbrev pub HasLongNetlist : Inputs → Held → Type 0
HasLongNetlist inputs held = limit_of size.Netlist < length (bytes_under held inputs.netlist)

abbrev pub HasWaveform : Inputs → Held → Design → Reading → Type 0
HasWaveform inputs held design reading = IsWaveform (design_labels inputs design) inputs.scope
    (registers_of inputs design) (bytes_under held inputs.waveform) reading

-- A file could not be read: NETLIST, or the waveform of one that is a netlist.
abbrev pub FailsReading : Inputs → Option Held → FaultCounts → FaultCounts → Type 0
FailsReading inputs held reads reads_now =
    Rose (count_of reads inputs.netlist) (count_of reads_now inputs.netlist)
    ⊎ (Rose (count_of reads inputs.waveform) (count_of reads_now inputs.waveform)
    × IfSome held (λ held. (design : Design) × HasNetlist inputs held design))

-- NETLIST is one, and the waveform is longer than one may be.
abbrev pub HasLongWaveform : Inputs → Held → Type 0
HasLongWaveform inputs held = (design : Design) × HasNetlist inputs held design
    × (limit_of size.Waveform < length (bytes_under held inputs.waveform))

-- NETLIST is one, and the waveform is refused for this reason, or its rows pass a limit.
abbrev pub HasWaveformFault : Inputs → Held → VcdFault → Type 0
HasWaveformFault inputs held why = (design : Design) × HasNetlist inputs held design
    × IsWaveformFault (design_labels inputs design) inputs.scope (registers_of inputs design)
    (bytes_under held inputs.waveform) why

-- Why the two files are refused. Each reason excludes those before it.
abbrev pub RefusesFiles : Inputs → Held → InputRefusal → Type 0
RefusesFiles inputs held (Limit what) =
    ((what ≡ size.Netlist) × HasLongNetlist inputs held) ⊎ ((what ≡ size.Waveform) × HasLongWaveform inputs held)
RefusesFiles inputs held (Netlist why) = HasNetlistFault inputs held why
RefusesFiles inputs held (Waveform why) = HasWaveformFault inputs held why

-- Both files are read, and this holds of the design and what the waveform is.
abbrev pub HasInput : Inputs → Held → (Design → Reading → Type 0) → Type 0
HasInput inputs held P = (design : Design) × (reading : Reading) × HasNetlist inputs held design
    × HasWaveform inputs held design reading × P design reading
