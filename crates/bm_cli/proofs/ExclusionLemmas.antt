-- The answers of a command exclude each other, but for those of one status.
use Rattle.std.proofs.Common.{◌≡◌, ℕ, Bool, List, refl, subst}
use Rattle.bm_base.specs.Held.{Held}
use Rattle.bm_check.specs.Verdicts.{IsVerdict}
use Rattle.bm_check.specs.declared.verdict.Reason.{Reason}
use Rattle.bm_check.specs.declared.verdict.Reason.TheVariants.{Cut, NotFirstAtLast}
use Rattle.bm_check.specs.declared.verdict.Verdict.TheVariants.{No}
use Rattle.bm_inputs.specs.Files.{HasInput, HasWaveform, RefusesFiles, machine_of}
use Rattle.bm_inputs.specs.Laws.{FilesExclude}
use Rattle.bm_inputs.specs.declared.stop.InputRefusal.{InputRefusal}
use Rattle.bm_words.specs.Words.{Inputs, Request}
use Rattle.cycle_cut.specs.Cuts.{IsAccepted}
use Rattle.trace_rows.specs.Machine.{Machine}
use Rattle.trace_rows.specs.Run.{Violates}
use Rattle.vcd_reader.specs.Rows.{Reading}
use Rattle.vlog_tree.specs.declared.design.Design.{Design}
use Rattle.bm_cli.specs.Answer.{status_of}
use Rattle.bm_cli.specs.Commands.Check.{Checks}
use Rattle.bm_cli.specs.Commands.Minimise.{Minimises}
use Rattle.bm_cli.specs.Verdict.{HasCounted, HasMinimised, HasReason}
use Rattle.bm_cli.specs.declared.answer.Accepted.{Accepted}
use Rattle.bm_cli.specs.declared.answer.Answer.{Answer}
use Rattle.bm_cli.specs.declared.answer.Summary.{Summary}
use Rattle.bm_cli.proofs.MachineLemmas.{violated_before}

-- An accepted trace has no reason against it.
no_reason : (machine : Machine) (rows : List (List Bool)) (reason : Reason) → IsAccepted machine rows → IsVerdict machine rows (No reason) → ⊥
no_reason machine rows NotFirstAtLast accepted none = none accepted.first_at_last
no_reason machine rows (Cut cycle) accepted least = accepted.no_cut cycle least.within least.violates

module _ (laws : FilesExclude) where
  -- Files that are refused are not both read.
  no_input : {P : Design → Reading → Type 0} → (inputs : Inputs) (held : Held) (why : InputRefusal)
      → RefusesFiles inputs held why → HasInput inputs held P → ⊥
  no_input inputs held why refused (design, reading, netlist, waveform, holds) =
      laws.refused inputs held why design reading refused netlist waveform

  -- What holds of the design and the waveform, and what does not.
  not_both : {P Q : Design → Reading → Type 0} → (inputs : Inputs) (held : Held)
      → ((design : Design) (reading : Reading) → P design reading → Q design reading → ⊥)
      → HasInput inputs held P → HasInput inputs held Q → ⊥
  not_both {P} {Q} inputs held against (design, reading, netlist, waveform, holds) (other, others, netlist', waveform', more) =
      let same : other ≡ design = laws.design inputs held other design netlist' netlist in
      let here : HasWaveform inputs held design others = subst (λ design. HasWaveform inputs held design others) same waveform' in
      let readings : others ≡ reading = laws.reading inputs held design others reading here waveform in
      against design reading holds (subst (Q design) readings (subst (λ design. Q design others) same more))

  -- A stimulus of which something is made violates.
  no_quiet : (request : Request) (held : Held) (text : List ℕ) (summary : Summary) → HasMinimised request.inputs held text summary
      → HasInput request.inputs held (λ design reading. Violates (machine_of request.inputs design) reading.trace.rows → ⊥) → ⊥
  no_quiet request held text summary made quiet =
      not_both request.inputs held
      (λ design reading is none. none (violated_before (machine_of request.inputs design) reading.trace.rows is.cycles is.cut_off)) made quiet

  no_objection : (inputs : Inputs) (held : Held) (numbers : Accepted) (reason : Reason) → HasCounted inputs held numbers
      → HasReason inputs held reason → ⊥
  no_objection inputs held numbers reason counted judged =
      not_both inputs held
      (λ design reading is against. no_reason (machine_of inputs design) reading.trace.rows reason is.0 against) counted judged

  -- ---- answers

  pub minimise_one_status : (request : Request) (held one_held other_held : Held) (one other : Answer)
      → Minimises request held one one_held → Minimises request held other other_held → status_of one ≡ status_of other
  minimise_one_status request held _ _ _ _ (Minimises.refused one first) (Minimises.refused other second) =
      laws.statuses request.inputs held one other first second
  minimise_one_status request held _ _ _ _ (Minimises.refused one first) (Minimises.no_violation second) =
      absurd (no_input request.inputs held one first second)
  minimise_one_status request held _ _ _ _ (Minimises.refused one first) (Minimises.minimised text summary second) =
      absurd (no_input request.inputs held one first second)
  minimise_one_status request held _ _ _ _ (Minimises.no_violation first) (Minimises.refused other second) =
      absurd (no_input request.inputs held other second first)
  minimise_one_status request held _ _ _ _ (Minimises.no_violation first) (Minimises.no_violation second) = refl
  minimise_one_status request held _ _ _ _ (Minimises.no_violation first) (Minimises.minimised text summary second) =
      absurd (no_quiet request held text summary second first)
  minimise_one_status request held _ _ _ _ (Minimises.minimised text summary first) (Minimises.refused other second) =
      absurd (no_input request.inputs held other second first)
  minimise_one_status request held _ _ _ _ (Minimises.minimised text summary first) (Minimises.no_violation second) =
      absurd (no_quiet request held text summary first second)
  minimise_one_status request held _ _ _ _ (Minimises.minimised text summary first) (Minimises.minimised t s second) = refl

  pub check_one_status : (inputs : Inputs) (held one_held other_held : Held) (one other : Answer)
      → Checks inputs held one one_held → Checks inputs held other other_held → status_of one ≡ status_of other
  check_one_status inputs held _ _ _ _ (Checks.refused one first) (Checks.refused other second) =
      laws.statuses inputs held one other first second
  check_one_status inputs held _ _ _ _ (Checks.refused one first) (Checks.judged reason second) =
      absurd (no_input inputs held one first second)
  check_one_status inputs held _ _ _ _ (Checks.refused one first) (Checks.accepted numbers second) =
      absurd (no_input inputs held one first second)
  check_one_status inputs held _ _ _ _ (Checks.judged reason first) (Checks.refused other second) =
      absurd (no_input inputs held other second first)
  check_one_status inputs held _ _ _ _ (Checks.judged reason first) (Checks.judged r second) = refl
  check_one_status inputs held _ _ _ _ (Checks.judged reason first) (Checks.accepted numbers second) =
      absurd (no_objection inputs held numbers reason second first)
  check_one_status inputs held _ _ _ _ (Checks.accepted numbers first) (Checks.refused other second) =
      absurd (no_input inputs held other second first)
  check_one_status inputs held _ _ _ _ (Checks.accepted numbers first) (Checks.judged reason second) =
      absurd (no_objection inputs held numbers reason first second)
  check_one_status inputs held _ _ _ _ (Checks.accepted numbers first) (Checks.accepted n second) = refl
