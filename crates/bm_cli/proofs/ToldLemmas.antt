-- What the steps of a command say of its end.
use Rattle.std.proofs.Common.{◌≡◌, inl, inr, ℕ, List, [], ◌∷◌, Bool, Option, Some, None, Result, Ok, Err, ap, length, refl, subst, sym, take, ◌∙◌}
use Rattle.std.specs.Option.{IfSome, option_map}
use Rattle.std.specs.Result.{IfErr, IfOk}
use Rattle.bm_base.specs.Counts.{FaultCounts, RisesOnlyAt, Rose, SameCounts, count_of}
use Rattle.bm_base.specs.Held.{Held, holding}
use Rattle.bm_check.specs.declared.verdict.Reason.{Reason}
use Rattle.bm_check.specs.declared.verdict.Verdict.TheVariants.{No, Yes}
use Rattle.bm_check.specs.Verdicts.{IsVerdict}
use Rattle.bm_files.specs.Files.{HoldsPrefix}
use Rattle.bm_files.proofs.FileLemmas.{bytes_under-holding}
use Rattle.bm_inputs.specs.Counts.{OthersStay}
use Rattle.bm_inputs.specs.Files.{RefusesFiles, design_labels, machine_of}
use Rattle.bm_inputs.specs.Reading.{ReadsInputs, StopsAtFiles}
use Rattle.bm_inputs.specs.declared.stop.InputStop.{InputStop}
use Rattle.bm_inputs.specs.declared.stop.InputStop.TheVariants as inputs
use Rattle.bm_inputs.proofs.ReadingLemmas.{input_told}
use Rattle.bm_words.specs.Words.{Command, Inputs, Request, check, minimise}
use Rattle.cycle_cut.specs.Cuts.{IsAccepted}
use Rattle.levelise.specs.Machine.{Level}
use Rattle.levelise.specs.Machine as net
use Rattle.machine_laws.specs.Runs.{SameHaveRuns}
use Rattle.trace_rows.specs.declared.labels.Labels.{Labels}
use Rattle.trace_rows.specs.Machine.{Machine}
use Rattle.trace_rows.specs.Run.{Violates}
use Rattle.vcd_reader.specs.Rows.{Reading}
use Rattle.bm_cli.specs.Commands.Check.{Checks}
use Rattle.bm_cli.specs.Commands.Minimise.{Minimises}
use Rattle.bm_cli.specs.Counted.{accepted_of}
use Rattle.bm_cli.specs.Ends.{CallCounts, Gives, IsOnTheWay, Stops}
use Rattle.bm_cli.specs.Minimised.{IsMinimised}
use Rattle.bm_cli.specs.Outside.{Tells}
use Rattle.bm_cli.specs.Stops.{IsJudged, StopsReducing, stop_of_inputs}
use Rattle.bm_cli.specs.Verdict.{HasCounted, HasMinimised, HasNoViolation, HasReason}
use Rattle.bm_cli.specs.declared.answer.Accepted.{Accepted}
use Rattle.bm_cli.specs.declared.answer.Answer.TheVariants.{Minimised, Accepted as Accepting}
use Rattle.bm_cli.specs.declared.answer.Refusal.TheVariants as why
use Rattle.bm_cli.specs.declared.answer.Stop.{Stop}
use Rattle.bm_cli.specs.declared.answer.Stop.TheVariants.{Refused, ReadFault, WriteFault, Memory}
use Rattle.bm_cli.specs.declared.answer.Summary.{Summary}
use Rattle.bm_cli.proofs.MachineLemmas.{same_minimised, same_verdict, same_violation}

-- ---- a shelf that holds what it held

pub stays : (P : Held → Type 0) (Q : Held → Held → Type 0) → ((held : Held) → P held → Q held held) → (held now : Option Held) → now ≡ held → IfSome held P → Tells Q held now
stays P Q so None now same holds = same
stays P Q so (Some held) now same holds = (held, same, so held holds)

pub unchanged : (command : Command) (held now : Option Held) → now ≡ held → Tells (IsOnTheWay command) held now
unchanged command None now same = same
unchanged command (Some held) now same = (held, same, inl refl)

-- ---- a stop at the files

pub minimise_stopped : (request : Request) (held now : Option Held) (counts : CallCounts) (stop : InputStop) → now ≡ held
    → StopsAtFiles request.inputs held counts.reads counts.reads_now stop → Stops (minimise request) held now counts (stop_of_inputs stop)
minimise_stopped request held now counts (inputs.Refused refusal) same stops =
    stays (λ held. RefusesFiles request.inputs held refusal) _ (λ held refused. Minimises.refused refusal refused) held now same stops
minimise_stopped request held now counts inputs.ReadFault same stops = (stops, same)
minimise_stopped request held now counts inputs.Memory same stops = unchanged (minimise request) held now same

pub check_stopped : (asked : Inputs) (held now : Option Held) (counts : CallCounts) (stop : InputStop) → now ≡ held
    → StopsAtFiles asked held counts.reads counts.reads_now stop → Stops (check asked) held now counts (stop_of_inputs stop)
check_stopped asked held now counts (inputs.Refused refusal) same stops =
    stays (λ held. RefusesFiles asked held refusal) _ (λ held refused. Checks.refused refusal refused) held now same stops
check_stopped asked held now counts inputs.ReadFault same stops = (stops, same)
check_stopped asked held now counts inputs.Memory same stops = unchanged (check asked) held now same

-- ---- what the machine of the netlist says is what that of the design says

module _ (law : SameHaveRuns) (asked : Inputs) (held : Option Held) (level : Level) (labels : Labels) (reading : Reading) (read : ReadsInputs asked held level labels reading) where
  abbrev rows : List (List Bool)
  rows = reading.trace.rows

  abbrev designed : Machine
  designed = machine_of asked read.netlist.read.design

  pub made_told : (text : List ℕ) (summary : Summary) → IsMinimised (net.machine level) labels reading text summary
      → IfSome held (λ held. HasMinimised asked held text summary)
  made_told text summary made =
      input_told asked level labels held reading
      (λ design reading. IsMinimised (machine_of asked design) (design_labels asked design) reading text summary) read
      (subst (λ labels. IsMinimised designed labels reading text summary) read.netlist.read.labels_are
      (same_minimised law (length level.net.power_up) level.net.inputs (net.machine level) designed read.netlist.read.same
      labels reading text summary read.netlist.read.wide read.wide made))

  pub quiet_told : (Violates (net.machine level) rows → ⊥) → IfSome held (HasNoViolation asked)
  quiet_told none =
      input_told asked level labels held reading (λ design reading. Violates (machine_of asked design) reading.trace.rows → ⊥) read
      (λ violates. none
      (same_violation law (length level.net.power_up) level.net.inputs (net.machine level) designed read.netlist.read.same rows read.wide violates))

  pub counted_told : (numbers : Accepted) → IsVerdict (net.machine level) rows (Yes numbers.cycles numbers.events)
      → IfSome held (λ held. HasCounted asked held numbers)
  counted_told numbers verdict =
      let here : IsVerdict designed rows (Yes numbers.cycles numbers.events) =
      same_verdict law (length level.net.power_up) level.net.inputs (net.machine level) designed read.netlist.read.same rows read.wide
      (Yes numbers.cycles numbers.events) verdict in
      input_told asked level labels held reading
      (λ design reading. IsAccepted (machine_of asked design) reading.trace.rows
      × (numbers ≡ accepted_of (machine_of asked design) reading.trace.rows)) read
      (here.0, λ j. record { cycles = here.1 j; events = here.2 j })

  pub reason_told : (reason : Reason) → IsVerdict (net.machine level) rows (No reason)
      → IfSome held (λ held. HasReason asked held reason)
  reason_told reason verdict =
      input_told asked level labels held reading (λ design reading. IsVerdict (machine_of asked design) reading.trace.rows (No reason)) read
      (same_verdict law (length level.net.power_up) level.net.inputs (net.machine level) designed read.netlist.read.same rows read.wide
      (No reason) verdict)

-- ---- `minimise`

-- Nothing was reduced, for want of memory or since there is no violation.
pub reducing_stopped : (law : SameHaveRuns) (request : Request) (held now : Option Held) (level : Level) (labels : Labels) (reading : Reading)
    → ReadsInputs request.inputs held level labels reading → (counts : CallCounts) (stop : Stop) → now ≡ held
    → StopsReducing (net.machine level) reading.trace.rows stop → Stops (minimise request) held now counts stop
reducing_stopped law request held now level labels reading read counts (Refused why.NoViolation) same none =
    stays (HasNoViolation request.inputs) _ (λ held holds. Minimises.no_violation holds) held now same
    (quiet_told law request.inputs held level labels reading read none)
reducing_stopped law request held now level labels reading read counts Memory same none = unchanged (minimise request) held now same
reducing_stopped law request held now level labels reading read counts (Refused (why.Inputs refusal)) same none = absurd none
reducing_stopped law request held now level labels reading read counts (Refused (why.Judged reason)) same none = absurd none
reducing_stopped law request held now level labels reading read counts ReadFault same none = absurd none
reducing_stopped law request held now level labels reading read counts WriteFault same none = absurd none

-- OUT was written on a shelf that holds what it held.
pub written : (request : Request) (held mid now : Option Held) (text : List ℕ) (summary : Summary) → IfSome held (λ held. HasMinimised request.inputs held text summary)
    → mid ≡ held → now ≡ option_map (holding request.out text) mid → Gives (minimise request) held now (Minimised summary)
written request None mid now text summary made same holds = holds ∙ ap (option_map (holding request.out text)) same
written request (Some held) mid now text summary made same holds =
    (holding request.out text held, holds ∙ ap (option_map (holding request.out text)) same, Minimises.minimised text summary made)

-- OUT was written in part, or not at all.
pub partly_written : (request : Request) (held mid now : Option Held) (text : List ℕ) (summary : Summary) → IfSome held (λ held. HasMinimised request.inputs held text summary)
    → mid ≡ held → HoldsPrefix request.out text mid now → Tells (IsOnTheWay (minimise request)) held now
partly_written request held mid now text summary made same (inl kept) = unchanged (minimise request) held now (kept ∙ same)
partly_written request None mid now text summary made same (inr (kept, holds)) = holds ∙ ap (option_map (holding request.out (take kept text))) same
partly_written request (Some held) mid now text summary made same (inr (kept, holds)) = (
  holding request.out (take kept text) held,
  holds ∙ ap (option_map (holding request.out (take kept text))) same,
  inr (
    Minimised summary,
    holding request.out text held,
    Minimises.minimised text summary made,
    inr (inl (kept, ap (λ bytes. holding request.out (take kept bytes) held) (sym (bytes_under-holding request.out text held)))),
  ),
)

-- ---- `check`

module _ (law : SameHaveRuns) (asked : Inputs) (held : Option Held) (level : Level) (labels : Labels) (reading : Reading) (read : ReadsInputs asked held level labels reading) where
  accepted_given : (now : Option Held) (numbers : Accepted) → now ≡ held → IsJudged (net.machine level) reading.trace.rows (Ok numbers)
      → Gives (check asked) held now (Accepting numbers)
  accepted_given now numbers same verdict =
      stays (λ held. HasCounted asked held numbers) _ (λ held counted. Checks.accepted numbers counted) held now same
      (counted_told law asked held level labels reading read numbers verdict)

  rejected_given : (now : Option Held) (counts : CallCounts) (stop : Stop) → now ≡ held → IsJudged (net.machine level) reading.trace.rows (Err stop)
      → Stops (check asked) held now counts stop
  rejected_given now counts (Refused (why.Judged reason)) same verdict =
      stays (λ held. HasReason asked held reason) _ (λ held judged. Checks.judged reason judged) held now same
      (reason_told law asked held level labels reading read reason verdict)
  rejected_given now counts Memory same verdict = unchanged (check asked) held now same
  rejected_given now counts (Refused (why.Inputs refusal)) same verdict = absurd verdict
  rejected_given now counts (Refused why.NoViolation) same verdict = absurd verdict
  rejected_given now counts ReadFault same verdict = absurd verdict
  rejected_given now counts WriteFault same verdict = absurd verdict

  pub judged_well : (now : Option Held) (result : Result Accepted Stop) → now ≡ held → IsJudged (net.machine level) reading.trace.rows result
      → IfOk result (λ numbers. Gives (check asked) held now (Accepting numbers))
  judged_well now (Ok numbers) same judged = accepted_given now numbers same judged
  judged_well now (Err stop) same judged = tt

  pub judged_ill : (now : Option Held) (counts : CallCounts) (result : Result Accepted Stop) → now ≡ held → IsJudged (net.machine level) reading.trace.rows result
      → IfErr result (Stops (check asked) held now counts)
  judged_ill now counts (Ok numbers) same judged = tt
  judged_ill now counts (Err stop) same judged = rejected_given now counts stop same judged

-- ---- counts

-- A count that the reading did not change has risen after it.
pub rose_later : (name : List ℕ) (old mid new : FaultCounts) → SameCounts old mid → Rose (count_of mid name) (count_of new name) → Rose (count_of old name) (count_of new name)
rose_later name old mid new same rose = subst (λ n. Rose n (count_of new name)) (same name) rose

pub others_kept : (names : List (List ℕ)) (old mid new : FaultCounts) → OthersStay names old mid → SameCounts mid new → OthersStay names old new
others_kept names old mid new others same q other = same q ∙ others q other

pub only_this : (name : List ℕ) (old mid new : FaultCounts) → SameCounts old mid → RisesOnlyAt name mid new → OthersStay (name ∷ []) old new
only_this name old mid new same rises q other = rises.others q (λ is. other (inl is)) ∙ same q

pub all_kept : (names : List (List ℕ)) (old new : FaultCounts) → SameCounts old new → OthersStay names old new
all_kept names old new same q other = same q
