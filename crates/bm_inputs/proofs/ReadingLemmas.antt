-- What the reading of both files says, from what its steps say.
use Rattle.std.proofs.Common.{◌≡◌, ◌<◌, ◌≤◌, inl, inr, ⊎_elim, ℕ, List, Option, All, Some, None, ap, arith, length, subst, sym, ◌∙◌}
use Rattle.std.specs.Option.{IfSome}
use Rattle.std.proofs.lemmas.List.{length-map}
use Rattle.bm_base.specs.ByName.{cases_name}
use Rattle.bm_base.specs.Counts.{FaultCounts, RisesOnlyAt, count_of}
use Rattle.bm_base.specs.Held.{Held, bytes_under}
use Rattle.bm_base.specs.Size.{limit_of}
use Rattle.bm_base.specs.declared.size.Size.{Size}
use Rattle.bm_base.specs.declared.size.Size.TheVariants as size
use Rattle.bm_files.proofs.FileLemmas.{Rose_later}
use Rattle.bm_words.specs.Words.{Inputs}
use Rattle.levelise.specs.Machine.{Level}
use Rattle.netlists.specs.Netlists.{IsNetlist}
use Rattle.trace_rows.specs.declared.labels.Labels.{Labels}
use Rattle.vcd_header.specs.declared.fault.VcdFault.{VcdFault}
use Rattle.vcd_reader.specs.Laws.{Fits}
use Rattle.vcd_reader.specs.Rows.{Reading}
use Rattle.vlog_tree.specs.declared.design.Design.{Design}
use Rattle.vlog_tree.specs.Meaning.Keys.{register_keys}
use Rattle.vlog_tree.specs.Meaning.Step.{power_up_bit}
use Rattle.bm_inputs.specs.Counts.{OthersStay}
use Rattle.bm_inputs.specs.Files.{HasInput, HasLongNetlist, HasNetlist, RefusesFiles, design_labels, files_of, given, registers_of, setting_with}
use Rattle.bm_inputs.specs.Reading.{ReadsInputs, ReadsNetlist, ReadsWaveform, StopsAtFiles, StopsAtNetlist, StopsAtWaveform}
use Rattle.bm_inputs.specs.Waveforms.{IsWaveform, IsWaveformFault}
use Rattle.bm_inputs.specs.declared.stop.InputRefusal.TheVariants.{Limit, Netlist, Waveform}
use Rattle.bm_inputs.specs.declared.stop.InputStop.{InputStop}
use Rattle.bm_inputs.specs.declared.stop.InputStop.TheVariants.{Refused, ReadFault, Memory}

-- no count falls
grows : (name : List ℕ) (old new : FaultCounts) → RisesOnlyAt name old new → (q : List ℕ) → count_of old q ≤ count_of new q
grows name old new rises q = ⊎_elim
    (λ same. subst (λ n. count_of old n ≤ count_of new n) (sym same) rises.grows)
    (λ other. let stays : count_of new q ≡ count_of old q = rises.others q other in omega arith)
    (cases_name q name)

-- ---- NETLIST

module _ (inputs : Inputs) where
  -- A limit of NETLIST is one of the files.
  large_told : (held : Option Held) (what : Size) → IfSome held (λ held. (what ≡ size.Netlist) × HasLongNetlist inputs held)
      → IfSome held (λ held. RefusesFiles inputs held (Limit what))
  large_told None what large = tt
  large_told (Some held) what large = inl large

  -- NETLIST was not read.
  pub netlist_stopped : (held : Option Held) (reads reads_now : FaultCounts) (stop : InputStop)
      → StopsAtNetlist inputs held reads reads_now stop → StopsAtFiles inputs held reads reads_now stop
  netlist_stopped held reads reads_now (Refused (Netlist why)) stops = stops
  netlist_stopped held reads reads_now (Refused (Limit what)) stops = large_told held what stops
  netlist_stopped held reads reads_now ReadFault stops = inl stops
  netlist_stopped held reads reads_now Memory stops = tt
  netlist_stopped held reads reads_now (Refused (Waveform why)) stops = absurd stops

  module _ (level : Level) (labels : Labels) where
    -- NETLIST was read, so it has the design.
    has_netlist : (held : Held) → (read : ReadsNetlist inputs (Some held) level labels) → HasNetlist inputs held read.read.design
    has_netlist held read = record {
      short = read.told.1;
      is = subst (λ bytes. IsNetlist (given inputs.names) bytes read.read.design) read.told.0 read.read.is;
    }

    netlist_told : (held : Option Held) → ReadsNetlist inputs held level labels
        → IfSome held (λ held. (design : Design) × HasNetlist inputs held design)
    netlist_told None read = tt
    netlist_told (Some held) read = (read.read.design, has_netlist held read)

    -- so many registers
    registers_are : (held : Option Held) (read : ReadsNetlist inputs held level labels)
        → length level.net.power_up ≡ registers_of inputs read.read.design
    registers_are held read =
        ap (λ (level : Level). length level.net.power_up) read.read.level_is
        ∙ length-map (register_keys (setting_with inputs read.read.design)) (power_up_bit (setting_with inputs read.read.design))

    -- What is said of the waveform by the machine that was read, is said by the design.
    as_designed : (P : Labels → ℕ → Type 0) (held : Option Held) (read : ReadsNetlist inputs held level labels)
        → P labels (length level.net.power_up) → P (design_labels inputs read.read.design) (registers_of inputs read.read.design)
    as_designed P held read holds =
        subst (P (design_labels inputs read.read.design)) (registers_are held read)
        (subst (λ labels. P labels (length level.net.power_up)) read.read.labels_are holds)

    -- ---- the waveform

    -- The waveform is refused.
    fault_told : (held : Option Held) (why : VcdFault) → ReadsNetlist inputs held level labels
        → IfSome held (λ held. IsWaveformFault labels inputs.scope (length level.net.power_up) (bytes_under held inputs.waveform) why)
        → IfSome held (λ held. RefusesFiles inputs held (Waveform why))
    fault_told None why read refused = tt
    fault_told (Some held) why read refused = (
      read.read.design,
      has_netlist held read,
      as_designed (λ labels registers. IsWaveformFault labels inputs.scope registers (bytes_under held inputs.waveform) why)
          (Some held) read refused,
    )

    -- The waveform is too long.
    long_told : (held : Option Held) (what : Size) → ReadsNetlist inputs held level labels
        → IfSome held (λ held. (what ≡ size.Waveform) × (limit_of size.Waveform < length (bytes_under held inputs.waveform)))
        → IfSome held (λ held. RefusesFiles inputs held (Limit what))
    long_told None what read long = tt
    long_told (Some held) what read (is, long) = inr (is, (read.read.design, has_netlist held read, long))

    -- NETLIST was read, and the waveform was not.
    pub waveform_stopped : (held mid : Option Held) (reads reads_mid reads_now : FaultCounts) (stop : InputStop)
        → ReadsNetlist inputs held level labels → mid ≡ held → RisesOnlyAt inputs.netlist reads reads_mid
        → StopsAtWaveform labels inputs.scope (length level.net.power_up) mid inputs.waveform reads_mid reads_now stop
        → StopsAtFiles inputs held reads reads_now stop
    waveform_stopped held mid reads reads_mid reads_now (Refused (Waveform why)) read same rises stops =
        fault_told held why read
        (subst
        (λ h. IfSome h (λ held. IsWaveformFault labels inputs.scope (length level.net.power_up) (bytes_under held inputs.waveform) why))
        same stops)
    waveform_stopped held mid reads reads_mid reads_now (Refused (Limit what)) read same rises stops =
        long_told held what read
        (subst
        (λ h. IfSome h (λ held. (what ≡ size.Waveform) × (limit_of size.Waveform < length (bytes_under held inputs.waveform))))
        same stops)
    waveform_stopped held mid reads reads_mid reads_now ReadFault read same rises stops = inr (
      Rose_later (count_of reads inputs.waveform) (count_of reads_mid inputs.waveform) (count_of reads_now inputs.waveform)
          (grows inputs.netlist reads reads_mid rises inputs.waveform) stops,
      netlist_told held read,
    )
    waveform_stopped held mid reads reads_mid reads_now Memory read same rises stops = tt
    waveform_stopped held mid reads reads_mid reads_now (Refused (Netlist why)) read same rises stops = absurd stops

    -- ---- both files

    -- The rows have a bit for each input.
    pub both_read : (held mid : Option Held) (reading : Reading) → ReadsNetlist inputs held level labels → mid ≡ held
        → ReadsWaveform labels inputs.scope (length level.net.power_up) mid inputs.waveform reading → Fits labels reading
        → length reading.trace.rows ≤ 1000000 → ReadsInputs inputs held level labels reading
    both_read held mid reading read same waveform fits few = record {
      netlist = read;
      waveform = record {
        bytes = waveform.bytes;
        text = waveform.text;
        told = subst
            (λ h. IfSome h (λ held. IsWaveform labels inputs.scope (length level.net.power_up) (bytes_under held inputs.waveform) reading))
            same waveform.told;
      };
      width = fits.width ∙ read.read.wide;
      wide = subst (λ n. All (λ row. length row ≡ n) reading.trace.rows) (fits.width ∙ read.read.wide) fits.wide;
      some = fits.some;
      cycles = few;
    }

    -- Both were read, and this holds of the design and what the waveform is.
    pub input_told : (held : Option Held) (reading : Reading) (P : Design → Reading → Type 0)
        → (read : ReadsInputs inputs held level labels reading) → P read.netlist.read.design reading
        → IfSome held (λ held. HasInput inputs held P)
    input_told None reading P read holds = tt
    input_told (Some held) reading P read holds = (
      read.netlist.read.design,
      reading,
      has_netlist held read.netlist,
      as_designed (λ labels registers. IsWaveform labels inputs.scope registers (bytes_under held inputs.waveform) reading)
          (Some held) read.netlist read.waveform.told,
      holds,
    )

-- ---- the counts of other files

pub others_of_one : (inputs : Inputs) (old new : FaultCounts) → RisesOnlyAt inputs.netlist old new → OthersStay (files_of inputs) old new
others_of_one inputs old new rises q other = rises.others q (λ same. other (inl same))

pub others_of_both : (inputs : Inputs) (old mid new : FaultCounts) → RisesOnlyAt inputs.netlist old mid → RisesOnlyAt inputs.waveform mid new
    → OthersStay (files_of inputs) old new
others_of_both inputs old mid new first second q other = second.others q (λ same. other (inr (inl same))) ∙ first.others q (λ same. other (inl same))
