-- What the reading of a command's files does and gives.
use Rattle.std.specs.Prelude.{⊤, ◌≡◌, ◌⊎◌, ◌<◌, ◌≤◌, ℕ, All, List, Ok, IfSome, Option, length}
use Rattle.bm_base.specs.Counts.{FaultCounts, count_of, Rose, RisesOnlyAt, SameCounts}
use Rattle.bm_base.specs.Held.{Held, bytes_under}
use Rattle.bm_base.specs.Size.{limit_of}
use Rattle.bm_base.specs.declared.size.Size.TheVariants as size
use Rattle.bm_words.specs.Words.{Inputs}
use Rattle.levelise.specs.Machine.{Level}
use Rattle.netlists.specs.Reading.{IsRead}
use Rattle.netlists.specs.declared.fault.NetlistFault.{NetlistFault}
use Rattle.netlists.specs.declared.fault.NetlistFault.TheVariants as fault
use Rattle.trace_rows.specs.declared.labels.Labels.{Labels}
use Rattle.vcd_reader.specs.Rows.{Reading}
use Rattle.vcd_reader.specs.Waveform.{limited, waveform}
use Rattle.bm_inputs.specs.Files.{FailsReading, HasLongNetlist, HasNetlistFault, RefusesFiles, given}
use Rattle.bm_inputs.specs.Waveforms.{IsWaveform, IsWaveformFault}
use Rattle.bm_inputs.specs.declared.inputs.Input.{Input}
use Rattle.bm_inputs.specs.declared.stop.InputRefusal.TheVariants.{Netlist, Limit, Waveform}
use Rattle.bm_inputs.specs.declared.stop.InputStop.{InputStop}
use Rattle.bm_inputs.specs.declared.stop.InputStop.TheVariants.{Refused, ReadFault, Memory}

-- No byte is changed, and of the counts only the read count of this name may rise.
pub record ReadsOnly (name : List ℕ) (held held_now : Option Held)
    (reads reads_now writes writes_now : FaultCounts) : Type 0 where
  pub held_stays : held_now ≡ held
  pub reads_rise : RisesOnlyAt name reads reads_now
  pub writes_stay : SameCounts writes writes_now

-- The bytes of a file do not come only for a fault whose count has risen, and for want of memory.
abbrev pub StopsFilling : List ℕ → FaultCounts → FaultCounts → InputStop → Type 0
StopsFilling name reads reads_now stop =
    ((stop ≡ ReadFault) × Rose (count_of reads name) (count_of reads_now name)) ⊎ (stop ≡ Memory)

-- NETLIST was read: some bytes are a netlist, with this machine and these labels. Where the shelf tells the file's bytes,
-- they are these, and no more than a netlist may have.
pub record ReadsNetlist (inputs : Inputs) (held : Option Held) (level : Level) (labels : Labels) : Type 0 where
  pub bytes : List ℕ
  pub read : IsRead (given inputs.names) bytes level labels
  pub told : IfSome held (λ held. (bytes ≡ bytes_under held inputs.netlist)
      × (length (bytes_under held inputs.netlist) ≤ limit_of size.Netlist))

-- how the reading stops where the bytes are no netlist
abbrev pub stop_of_netlist : NetlistFault → InputStop
stop_of_netlist fault.Memory = Memory
stop_of_netlist why = Refused (Netlist why)

-- Why the reading of NETLIST stopped, where the shelf tells its bytes: its fault, its length, a fault whose count has
-- risen, or want of memory.
abbrev pub StopsAtNetlist : Inputs → Option Held → FaultCounts → FaultCounts → InputStop → Type 0
StopsAtNetlist inputs held reads reads_now (Refused (Netlist why)) =
    IfSome held (λ held. HasNetlistFault inputs held why)
StopsAtNetlist inputs held reads reads_now (Refused (Limit what)) =
    IfSome held (λ held. (what ≡ size.Netlist) × HasLongNetlist inputs held)
StopsAtNetlist inputs held reads reads_now ReadFault =
    Rose (count_of reads inputs.netlist) (count_of reads_now inputs.netlist)
StopsAtNetlist inputs held reads reads_now Memory = ⊤
StopsAtNetlist inputs held reads reads_now other = ⊥

-- A waveform was read: it is that of some bytes, which are the file's where the shelf tells it.
pub record ReadsWaveform (labels : Labels) (scope : Option (List ℕ)) (registers : ℕ) (held : Option Held)
    (name : List ℕ) (reading : Reading) : Type 0 where
  pub bytes : List ℕ
  pub text : limited registers (waveform bytes labels scope) ≡ Ok reading
  pub told : IfSome held (λ held. IsWaveform labels scope registers (bytes_under held name) reading)

-- Why the reading of a waveform stopped: its fault, its length, a fault whose count has risen, or want of memory.
abbrev pub StopsAtWaveform :
    Labels → Option (List ℕ) → ℕ → Option Held → List ℕ → FaultCounts → FaultCounts → InputStop → Type 0
StopsAtWaveform labels scope registers held name reads reads_now (Refused (Waveform why)) =
    IfSome held (λ held. IsWaveformFault labels scope registers (bytes_under held name) why)
StopsAtWaveform labels scope registers held name reads reads_now (Refused (Limit what)) =
    IfSome held (λ held. (what ≡ size.Waveform) × (limit_of size.Waveform < length (bytes_under held name)))
StopsAtWaveform labels scope registers held name reads reads_now ReadFault =
    Rose (count_of reads name) (count_of reads_now name)
StopsAtWaveform labels scope registers held name reads reads_now Memory = ⊤
StopsAtWaveform labels scope registers held name reads reads_now other = ⊥

-- what a waveform is, as it was read
abbrev pub reading_of : Input → Reading
reading_of input = record { trace = input.trace; unknown = input.unknown }

-- Both files were read. The rows have a bit for each input.
pub record ReadsInputs (inputs : Inputs) (held : Option Held) (level : Level) (labels : Labels)
    (reading : Reading) : Type 0 where
  pub netlist : ReadsNetlist inputs held level labels
  pub waveform : ReadsWaveform labels inputs.scope (length level.net.power_up) held inputs.waveform reading
  pub width : reading.trace.width ≡ level.net.inputs
  pub wide : All (λ row. length row ≡ level.net.inputs) reading.trace.rows
  pub some : 0 < length reading.trace.rows
  pub cycles : length reading.trace.rows ≤ limit_of size.Cycles

-- Why the reading of both files stopped: they are refused, a fault whose count has risen, or want of memory.
abbrev pub StopsAtFiles : Inputs → Option Held → FaultCounts → FaultCounts → InputStop → Type 0
StopsAtFiles inputs held reads reads_now (Refused why) = IfSome held (λ held. RefusesFiles inputs held why)
StopsAtFiles inputs held reads reads_now ReadFault = FailsReading inputs held reads reads_now
StopsAtFiles inputs held reads reads_now Memory = ⊤
