-- What two files are excludes that they are refused.
use Rattle.std.proofs.Common.{◌≡◌, inl, inr, Result, Ok, Err, ap, arith, refl, subst, sym, ◌∙◌}
use Rattle.bm_base.specs.Held.{Held, bytes_under}
use Rattle.bm_base.specs.declared.size.Size.{Size}
use Rattle.bm_words.specs.Words.{Inputs}
use Rattle.netlists.specs.Faults.{IsNetlistOrFault, IsOneFault, placeless}
use Rattle.netlists.specs.declared.fault.NetlistFault.{NetlistFault}
use Rattle.netlists.specs.declared.fault.NetlistFault.TheVariants as fault
use Rattle.vcd_header.specs.declared.fault.VcdFault.{VcdFault}
use Rattle.vcd_reader.specs.Rows.{Reading}
use Rattle.vlog_parse.specs.declared.parse_fault.ParseFault.TheVariants as parse
use Rattle.vlog_tree.specs.declared.design.Design.{Design}
use Rattle.vlog_tree.specs.Spelling.{IsOneDesign}
use Rattle.bm_inputs.specs.Files.{HasNetlist, HasNetlistFault, HasWaveform, HasWaveformFault, RefusesFiles, design_labels, given, registers_of}
use Rattle.bm_inputs.specs.Laws.{FilesExclude}
use Rattle.bm_inputs.specs.Lines.{netlist_status, refusal_status, waveform_status}
use Rattle.bm_inputs.specs.Waveforms.{IsWaveformFault}
use Rattle.bm_inputs.specs.declared.stop.InputRefusal.{InputRefusal}
use Rattle.bm_inputs.specs.declared.stop.InputRefusal.TheVariants.{Limit, Netlist, Waveform}

abbrev reading_or : Reading → Result Reading VcdFault → Reading
reading_or other (Ok reading) = reading
reading_or other (Err why) = other

abbrev fault_or : VcdFault → Result Reading VcdFault → VcdFault
fault_or other (Ok reading) = other
fault_or other (Err why) = why

-- The place of a fault makes no difference to its status.
placeless_status : (why : NetlistFault) → netlist_status (placeless why) ≡ netlist_status why
placeless_status (fault.Lex why) = refl
placeless_status (fault.Parse (parse.Outside at)) = refl
placeless_status (fault.Parse (parse.Number at)) = refl
placeless_status (fault.Parse (parse.TooDeep at)) = refl
placeless_status (fault.Parse (parse.Syntax at)) = refl
placeless_status (fault.Parse parse.Memory) = refl
placeless_status (fault.Rule why) = refl
placeless_status (fault.TooLarge what) = refl
placeless_status (fault.Loop key) = refl
placeless_status fault.Memory = refl

module _ (one_design : IsOneDesign) (netlist_or_fault : IsNetlistOrFault) (one_fault : IsOneFault) (inputs : Inputs) (held : Held) where
  same_design : (one other : Design) → HasNetlist inputs held one → HasNetlist inputs held other → one ≡ other
  same_design one other first second =
      one_design (bytes_under held inputs.netlist) one other first.is.sized.kept.text.spelled second.is.sized.kept.text.spelled

  same_reading : (design : Design) (one other : Reading) → HasWaveform inputs held design one
      → HasWaveform inputs held design other → one ≡ other
  same_reading design one other first second = ap (reading_or one) (sym first.text ∙ second.text)

  -- A netlist is not refused.
  no_netlist_fault : (why : NetlistFault) (design : Design) → HasNetlistFault inputs held why → HasNetlist inputs held design → ⊥
  no_netlist_fault why design refused netlist =
      netlist_or_fault (given inputs.names) (bytes_under held inputs.netlist) design why netlist.is refused.reason

  not_refused : (why : InputRefusal) (design : Design) (reading : Reading) → RefusesFiles inputs held why
      → HasNetlist inputs held design → HasWaveform inputs held design reading → ⊥
  not_refused (Limit what) design reading (inl (is, long)) netlist waveform =
      let short = netlist.short in omega (arith, long, short)
  not_refused (Limit what) design reading (inr (is, (other, netlist', long))) netlist waveform =
      let short = waveform.short in omega (arith, long, short)
  not_refused (Netlist why) design reading refused netlist waveform = no_netlist_fault why design refused netlist
  not_refused (Waveform why) design reading (other, netlist', refused) netlist waveform =
      let here : HasWaveform inputs held other reading =
      subst (λ design. HasWaveform inputs held design reading) (same_design design other netlist netlist') waveform in
      let both : Ok reading ≡ Err why = sym here.text ∙ refused.text in
      cc

  -- A waveform is refused for one reason.
  one_waveform_fault : (one other : VcdFault) → HasWaveformFault inputs held one → HasWaveformFault inputs held other
      → waveform_status one ≡ waveform_status other
  one_waveform_fault one other (design, netlist, first) (design', netlist', second) =
      let here : IsWaveformFault (design_labels inputs design) inputs.scope (registers_of inputs design) (bytes_under held inputs.waveform) other =
      subst
      (λ design. IsWaveformFault (design_labels inputs design) inputs.scope (registers_of inputs design) (bytes_under held inputs.waveform) other)
      (same_design design' design netlist' netlist) second in
      ap waveform_status (ap (fault_or one) (sym first.text ∙ here.text))

  -- A netlist that is refused is not too long, nor has it a waveform.
  not_long : (what : Size) (why : NetlistFault) → RefusesFiles inputs held (Limit what) → HasNetlistFault inputs held why → ⊥
  not_long what why (inl (is, long)) refused = let short = refused.short in omega (arith, long, short)
  not_long what why (inr (is, (design, netlist, long))) refused = no_netlist_fault why design refused netlist

  -- Nor is a waveform that is refused, and its netlist.
  not_long_waveform : (what : Size) (why : VcdFault) → RefusesFiles inputs held (Limit what) → HasWaveformFault inputs held why → ⊥
  not_long_waveform what why (inl (is, long)) (design, netlist, refused) = let short = netlist.short in omega (arith, long, short)
  not_long_waveform what why (inr (is, (design', netlist', long))) (design, netlist, refused) =
      let short = refused.short in omega (arith, long, short)

  same_status : (one other : InputRefusal) → RefusesFiles inputs held one → RefusesFiles inputs held other
      → refusal_status one ≡ refusal_status other
  same_status (Limit what) (Limit other) first second = refl
  same_status (Limit what) (Netlist why) first second = absurd (not_long what why first second)
  same_status (Limit what) (Waveform why) first second = absurd (not_long_waveform what why first second)
  same_status (Netlist why) (Limit what) first second = absurd (not_long what why second first)
  same_status (Netlist why) (Netlist other) first second =
      sym (placeless_status why)
      ∙ ap netlist_status (one_fault (given inputs.names) (bytes_under held inputs.netlist) why other first.reason second.reason)
      ∙ placeless_status other
  same_status (Netlist why) (Waveform other) first (design, netlist, refused) = absurd (no_netlist_fault why design first netlist)
  same_status (Waveform why) (Limit what) first second = absurd (not_long_waveform what why second first)
  same_status (Waveform why) (Netlist other) (design, netlist, refused) second = absurd (no_netlist_fault other design second netlist)
  same_status (Waveform why) (Waveform other) first second = one_waveform_fault why other first second

pub files_exclude : IsOneDesign → IsNetlistOrFault → IsOneFault → FilesExclude
files_exclude one_design netlist_or_fault one_fault = record {
  design = same_design one_design netlist_or_fault one_fault;
  reading = same_reading one_design netlist_or_fault one_fault;
  refused = not_refused one_design netlist_or_fault one_fault;
  statuses = same_status one_design netlist_or_fault one_fault;
}
