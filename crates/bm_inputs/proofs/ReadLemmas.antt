-- What a shelf tells of a netlist is what was read of it.
use Rattle.std.proofs.Common.{◌≡◌, ◌+◌, ◌<◌, ◌≤◌, ◌++◌, inl, inr, ℕ, List, Option, Some, None, ap, arith, length, map, refl, subst, sym, ◌∙◌}
use Rattle.std.specs.List.{range_with_len}
use Rattle.std.proofs.lemmas.List.{length-append}
use Rattle.std.proofs.lemmas.List.FromFn.{length-map-range_with_len}
use Rattle.flat_net.specs.Nets.{IsNet, Net, sources}
use Rattle.flat_net.specs.declared.node.Node.TheVariants.{Input, Reg}
use Rattle.std.specs.Option.{IfSome}
use Rattle.std.specs.Prelude.{Vec}
use Rattle.std.specs.declared.alloc.Global.{Global}
use Rattle.bm_base.specs.Counts.{FaultCounts}
use Rattle.bm_base.specs.Held.{Held, bytes_under}
use Rattle.bm_base.specs.declared.size.Size.TheVariants as size
use Rattle.bm_files.specs.Files.{IsWithin}
use Rattle.bm_words.specs.Words.{Inputs}
use Rattle.levelise.specs.Machine.{Level}
use Rattle.netlists.specs.Faults.{IsFault, IsReason}
use Rattle.netlists.specs.Reading.{IsRead}
use Rattle.netlists.specs.declared.fault.NetlistFault.{NetlistFault}
use Rattle.netlists.specs.declared.fault.NetlistFault.TheVariants as fault
use Rattle.trace_rows.specs.declared.labels.Labels.{Labels}
use Rattle.bm_inputs.specs.Files.{HasLongNetlist, HasNetlistFault, given}
use Rattle.bm_inputs.specs.Reading.{ReadsNetlist, StopsAtNetlist, StopsFilling, stop_of_netlist}
use Rattle.bm_inputs.specs.declared.stop.InputStop.{InputStop}

-- the bytes that were found are the file's, and they are no more than the limit
found_within : (limit : ℕ) (file : List ℕ) (found : Option (Vec ℕ Global)) (bytes : Vec ℕ Global)
    → found ≡ Some bytes → IsWithin limit file found → (bytes.items ≡ file) × (length file ≤ limit)
found_within limit file found bytes is within = subst (IsWithin limit file) is within

module _ (inputs : Inputs) (held : Option Held) where
  -- where the shelf tells the file's bytes
  abbrev Told : Option (Vec ℕ Global) → Type 0
  Told found = IfSome held (λ held. IsWithin 16777216 (bytes_under held inputs.netlist) found)

  -- The file's bytes did not come.
  pub filling_stopped : (reads reads_now : FaultCounts) (stop : InputStop) → StopsFilling inputs.netlist reads reads_now stop
      → StopsAtNetlist inputs held reads reads_now stop
  filling_stopped reads reads_now stop (inl failed) = subst (StopsAtNetlist inputs held reads reads_now) (sym failed.0) failed.1
  filling_stopped reads reads_now stop (inr is) = subst (StopsAtNetlist inputs held reads reads_now) (sym is) tt

-- The file is too long.
pub long_told : (inputs : Inputs) (held : Option Held) (found : Option (Vec ℕ Global)) → found ≡ None → Told inputs held found
    → IfSome held (λ held. (size.Netlist ≡ size.Netlist) × HasLongNetlist inputs held)
long_told inputs None found is told = tt
long_told inputs (Some held) found is told = (refl, subst (IsWithin 16777216 (bytes_under held inputs.netlist)) is told)

-- The reason applies to the file.
reason_told : (inputs : Inputs) (held : Option Held) (found : Option (Vec ℕ Global)) (bytes : Vec ℕ Global) (why : NetlistFault)
    → found ≡ Some bytes → Told inputs held found → IsReason (given inputs.names) bytes.items why
    → IfSome held (λ held. HasNetlistFault inputs held why)
reason_told inputs None found bytes why is told reason = tt
reason_told inputs (Some held) found bytes why is told reason =
    let within = found_within 16777216 (bytes_under held inputs.netlist) found bytes is told in
    record { short = within.1; reason = subst (λ bytes. IsReason (given inputs.names) bytes why) within.0 reason }

-- The bytes are no netlist.
pub fault_told : (inputs : Inputs) (held : Option Held) (reads reads_now : FaultCounts) (found : Option (Vec ℕ Global)) (bytes : Vec ℕ Global) (why : NetlistFault)
    → found ≡ Some bytes → Told inputs held found → IsFault (given inputs.names) bytes.items why
    → StopsAtNetlist inputs held reads reads_now (stop_of_netlist why)
fault_told inputs held reads reads_now found bytes fault.Memory is told stops = tt
fault_told inputs held reads reads_now found bytes (fault.Lex why) is told stops = reason_told inputs held found bytes (fault.Lex why) is told stops
fault_told inputs held reads reads_now found bytes (fault.Parse why) is told stops = reason_told inputs held found bytes (fault.Parse why) is told stops
fault_told inputs held reads reads_now found bytes (fault.Rule why) is told stops = reason_told inputs held found bytes (fault.Rule why) is told stops
fault_told inputs held reads reads_now found bytes (fault.TooLarge what) is told stops = reason_told inputs held found bytes (fault.TooLarge what) is told stops
fault_told inputs held reads reads_now found bytes (fault.Loop key) is told stops = reason_told inputs held found bytes (fault.Loop key) is told stops

-- The bytes are those of the file.
pub netlist_told : (inputs : Inputs) (held : Option Held) (found : Option (Vec ℕ Global)) (bytes : Vec ℕ Global) (level : Level) (labels : Labels)
    → found ≡ Some bytes → Told inputs held found → IsRead (given inputs.names) bytes.items level labels
    → ReadsNetlist inputs held level labels
netlist_told inputs None found bytes level labels is told read = record { bytes = bytes.items; read = read; told = tt }
netlist_told inputs (Some held) found bytes level labels is told read =
    record { bytes = bytes.items; read = read; told = found_within 16777216 (bytes_under held inputs.netlist) found bytes is told }

-- ---- registers

-- There are fewer registers than nodes.
pub few_registers : (net : Net) → IsNet net → length net.power_up < 4294967296
few_registers net is =
    let inputs = net.inputs in
    let registers = length net.power_up in
    let all : length net.nodes ≡ length (sources inputs registers) + length is.inner =
    ap length is.nodes ∙ length-append (sources inputs registers) is.inner in
    let both : length (map Input (range_with_len 0 inputs) ++ map Reg (range_with_len 0 registers))
    ≡ length (map Input (range_with_len 0 inputs)) + length (map Reg (range_with_len 0 registers)) =
    length-append (map Input (range_with_len 0 inputs)) (map Reg (range_with_len 0 registers)) in
    let few = is.few in
    omega (arith, all, both, few, length-map-range_with_len Input 0 inputs, length-map-range_with_len Reg 0 registers)
