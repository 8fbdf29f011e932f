-- From how a command ends and what is printed to what `run` keeps.
use Rattle.std.proofs.Common.{◌≡◌, ◌⊎◌, inl, inr, ℕ, List, true, false, Option, Some, None, Result, Ok, Err, ◌++◌, take, append-nil, refl, sym, ap, ◌∙◌, subst}
use Rattle.std.specs.Option.{IfSome, option_map}
use Rattle.std.proofs.lemmas.Bool.{false≢true}
use Rattle.bm_base.specs.Counts.{Rose}
use Rattle.bm_base.specs.Held.{Held, holding}
use Rattle.bm_base.specs.declared.status.Status.{Status}
use Rattle.bm_base.specs.declared.status.Status.TheVariants as status
use Rattle.netlists.specs.declared.fault.NetlistFault.{NetlistFault}
use Rattle.netlists.specs.declared.fault.NetlistFault.TheVariants as fault
use Rattle.vcd_header.specs.declared.fault.VcdFault.{VcdFault}
use Rattle.vcd_header.specs.declared.fault.VcdFault.TheVariants as vcd
use Rattle.bm_files.proofs.FileLemmas.{bytes_under-holding}
use Rattle.bm_inputs.specs.Counts.{OthersStay}
use Rattle.bm_inputs.specs.Lines as inputs
use Rattle.bm_inputs.specs.Lines.{netlist_status, read_fault_line, waveform_status}
use Rattle.bm_inputs.specs.declared.stop.InputRefusal.{InputRefusal}
use Rattle.bm_inputs.specs.declared.stop.InputRefusal.TheVariants.{Limit, Netlist, Waveform}
use Rattle.bm_words.specs.Words.{Command, Inputs, Request, check, minimise}
use Rattle.bm_cli.specs.Answer.{line_of, refusal_status, status_of}
use Rattle.bm_cli.specs.Commands.{Answers, HasOneStatus, reads_of, writes_of}
use Rattle.bm_cli.specs.Commands.Check.{Checks}
use Rattle.bm_cli.specs.Commands.Minimise.{Minimises}
use Rattle.bm_cli.specs.Ends.{CallCounts, Ends, Gives, IsOnTheWay}
use Rattle.bm_cli.specs.Headline.{IsDone, SaysYes}
use Rattle.bm_cli.specs.Keeps.{IsAnswered, IsOutOfMemory, IsUnprinted, IsUnread, IsUnwritten, Keeps, is_fault}
use Rattle.bm_cli.specs.Outside.{Outside, Tells}
use Rattle.bm_cli.specs.Prints.{GainsLine, Prints, PrintsEnd}
use Rattle.bm_cli.specs.declared.answer.Answer.{Answer}
use Rattle.bm_cli.specs.declared.answer.Answer.TheVariants.{Minimised, Accepted as Judged, Refused as Refusing}
use Rattle.bm_cli.specs.declared.answer.Refusal.{Refusal}
use Rattle.bm_cli.specs.declared.answer.Refusal.TheVariants as why
use Rattle.bm_cli.specs.declared.answer.Stop.{Stop}
use Rattle.bm_cli.specs.declared.answer.Stop.TheVariants.{Refused, ReadFault, WriteFault, Memory}
use Rattle.bm_cli.proofs.ToldLemmas.{unchanged}

-- The status of a refused waveform is one of two,
by_waveform_status : (P : Status → Type 0) (why : VcdFault) → P status.Limit → P status.Waveform → P (waveform_status why)
by_waveform_status P (vcd.Limit what) limit waveform = limit
by_waveform_status P (vcd.Token at) limit waveform = waveform
by_waveform_status P (vcd.Truncated at) limit waveform = waveform
by_waveform_status P (vcd.TimeBack at) limit waveform = waveform
by_waveform_status P (vcd.BadCode at) limit waveform = waveform
by_waveform_status P (vcd.TooWide at) limit waveform = waveform
by_waveform_status P vcd.NoScope limit waveform = waveform
by_waveform_status P (vcd.NoSignal name) limit waveform = waveform
by_waveform_status P vcd.NoTime limit waveform = waveform
by_waveform_status P vcd.Read limit waveform = waveform
by_waveform_status P vcd.Memory limit waveform = waveform

-- and so is that of a refused netlist.
by_netlist_status : (P : Status → Type 0) (why : NetlistFault) → P status.Limit → P status.Netlist → P (netlist_status why)
by_netlist_status P (fault.TooLarge what) limit netlist = limit
by_netlist_status P (fault.Lex why) limit netlist = netlist
by_netlist_status P (fault.Parse why) limit netlist = netlist
by_netlist_status P (fault.Rule why) limit netlist = netlist
by_netlist_status P (fault.Loop key) limit netlist = netlist
by_netlist_status P fault.Memory limit netlist = netlist

-- Refused files have one of three statuses.
by_input_status : (P : Status → Type 0) (why : InputRefusal) → P status.Limit → P status.Netlist → P status.Waveform
    → P (inputs.refusal_status why)
by_input_status P (Netlist why) limit netlist waveform = by_netlist_status P why limit netlist
by_input_status P (Limit what) limit netlist waveform = limit
by_input_status P (Waveform why) limit netlist waveform = by_waveform_status P why limit waveform

-- No answer has a fault's status.
refusal_no_fault : (refusal : Refusal) → is_fault (refusal_status refusal) ≡ false
refusal_no_fault (why.Inputs refusal) = by_input_status (λ s. is_fault s ≡ false) refusal refl refl refl
refusal_no_fault why.NoViolation = refl
refusal_no_fault (why.Judged reason) = refl

pub no_fault : (answer : Answer) → is_fault (status_of answer) ≡ false
no_fault (Minimised summary) = refl
no_fault (Judged numbers) = refl
no_fault (Refusing refusal) = refusal_no_fault refusal

-- Nothing printed is a prefix of any line.
nothing_gained : (taken : Option (List ℕ)) (line : List ℕ) → taken ≡ option_map (λ bytes. bytes ++ take 0 line) taken
nothing_gained None line = refl
nothing_gained (Some bytes) line = ap Some (sym (append-nil bytes))

-- What an answer says is on the way to it.
on_the_way : (command : Command) (held now : Held) (answer : Answer) → Answers command held answer now → IsOnTheWay command held now
on_the_way (minimise request) held _ _ (Minimises.refused refusal refused) = inl refl
on_the_way (minimise request) held _ _ (Minimises.no_violation none) = inl refl
on_the_way (minimise request) held _ _ (Minimises.minimised text summary made) =
    inr (Minimised summary, holding request.out text held, Minimises.minimised text summary made, inr (inr (ap (λ bytes. holding request.out bytes held) (sym (bytes_under-holding request.out text held)))))
on_the_way (check inputs) held _ _ (Checks.refused refusal refused) = inl refl
on_the_way (check inputs) held _ _ (Checks.judged reason against) = inl refl
on_the_way (check inputs) held _ _ (Checks.accepted numbers counted) = inl refl

pub told_on_the_way : (command : Command) (held after : Option Held) (answer : Answer) → Gives command held after answer → Tells (IsOnTheWay command) held after
told_on_the_way command None after answer gives = gives
told_on_the_way command (Some held) after answer (now, is, answers) = (now, is, on_the_way command held now answer answers)

-- How a call of `run` ended.
data Ended (command : Command) (before : Outside) (result : Status) (after : Outside) : Type 0 where
  answered : IsAnswered command before result after → Ended command before result after
  unread : result ≡ status.ReadFault → IsUnread command before after → GainsLine read_fault_line before.taken after.taken → Ended command before result after
  unwritten : result ≡ status.WriteFault → IsUnwritten command before after → Ended command before result after
  unprinted : result ≡ status.WriteFault → IsUnprinted command before after → Ended command before result after
  memory : result ≡ status.Memory → IsOutOfMemory command before after → Ended command before result after

module _ (command : Command) (before : Outside) (result : Status) (after : Outside) where
  abbrev counts : CallCounts
  counts = record { reads = before.reads; reads_now = after.reads; writes = before.writes; writes_now = after.writes }

  answer_ended : (answer : Answer) → Gives command before.held after.held answer
      → Prints (status_of answer) (line_of answer) result (Rose before.faults after.faults) before.taken after.taken → Ended command before result after
  answer_ended answer gives (inl (is, line)) = Ended.answered (record { answer = answer; status = is; line = line; holds = gives })
  answer_ended answer gives (inr (inl (is, rose, part))) = Ended.unprinted is (record { rose = rose; answer = inl (answer, gives, part) })
  answer_ended answer gives (inr (inr (is, part))) = Ended.memory is (record {
    holds = told_on_the_way command before.held after.held answer gives;
    line = line_of answer;
    known = inr (answer, refl);
    part = part;
  })

  ended : (outcome : Result Answer Stop) → Ends command before.held after.held counts outcome
      → PrintsEnd outcome result (Rose before.faults after.faults) before.taken after.taken → Ended command before result after
  ended (Ok answer) gives prints = answer_ended answer gives prints
  ended (Err (Refused refusal)) gives prints = answer_ended (Refusing refusal) gives prints
  ended (Err ReadFault) (rose, same) (inl (is, line)) = Ended.unread is (record { rose = rose; holds = same }) line
  ended (Err ReadFault) (rose, same) (inr (inl (is, cause, part))) = Ended.unprinted is (record { rose = cause; answer = inr (record { rose = rose; holds = same }, part) })
  ended (Err ReadFault) (rose, same) (inr (inr (is, part))) = Ended.memory is (record {
    holds = unchanged command before.held after.held same;
    line = read_fault_line;
    known = inl refl;
    part = part;
  })
  ended (Err WriteFault) (rose, holds) (is, same) = Ended.unwritten is (record { rose = rose; holds = holds; line = same })
  ended (Err Memory) holds (is, same) = Ended.memory is (record {
    holds = holds;
    line = read_fault_line;
    known = inl refl;
    part = (0, same ∙ nothing_gained before.taken read_fault_line);
  })

  -- a status that is a fault's is no answer's
  not_free : (s : Status) → is_fault s ≡ true → result ≡ s → is_fault result ≡ false → ⊥
  not_free s fault is free = false≢true (sym free ∙ ap is_fault is ∙ fault)

  answered_of : Ended command before result after → is_fault result ≡ false → IsAnswered command before result after
  answered_of (Ended.answered found) free = found
  answered_of (Ended.unread is failed line) free = absurd (not_free status.ReadFault refl is free)
  answered_of (Ended.unwritten is failed) free = absurd (not_free status.WriteFault refl is free)
  answered_of (Ended.unprinted is failed) free = absurd (not_free status.WriteFault refl is free)
  answered_of (Ended.memory is failed) free = absurd (not_free status.Memory refl is free)

  same_status : HasOneStatus command → (held whole : Held) (answer found : Answer) → before.held ≡ Some held → Answers command held answer whole
      → Gives command before.held after.held found → status_of found ≡ status_of answer
  same_status one held whole answer found told answers gives =
      let given : Gives command (Some held) after.held found = subst (λ h. Gives command h after.held found) told gives in
      one held given.0 whole found answer given.2 answers

  comes_of : HasOneStatus command → Ended command before result after → (held whole : Held) (answer : Answer) → before.held ≡ Some held
      → Answers command held answer whole → (result ≡ status_of answer) ⊎ (is_fault result ≡ true)
  comes_of one (Ended.answered found) held whole answer told answers = inl (found.status ∙ same_status one held whole answer found.answer told answers found.holds)
  comes_of one (Ended.unread is failed line) held whole answer told answers = inr (ap is_fault is)
  comes_of one (Ended.unwritten is failed) held whole answer told answers = inr (ap is_fault is)
  comes_of one (Ended.unprinted is failed) held whole answer told answers = inr (ap is_fault is)
  comes_of one (Ended.memory is failed) held whole answer told answers = inr (ap is_fault is)

  -- an answer's status is no fault's
  no_answer : (s : Status) → is_fault s ≡ true → (found : IsAnswered command before result after) → result ≡ s → ⊥
  no_answer s fault found is = not_free s fault is (ap is_fault found.status ∙ no_fault found.answer)

  unread_of : Ended command before result after → result ≡ status.ReadFault → IsUnread command before after × GainsLine read_fault_line before.taken after.taken
  unread_of (Ended.answered found) five = absurd (no_answer status.ReadFault refl found five)
  unread_of (Ended.unread is failed line) five = (failed, line)
  unread_of (Ended.unwritten is failed) five = absurd (let other : status.WriteFault ≡ status.ReadFault = sym is ∙ five in cc)
  unread_of (Ended.unprinted is failed) five = absurd (let other : status.WriteFault ≡ status.ReadFault = sym is ∙ five in cc)
  unread_of (Ended.memory is failed) five = absurd (let other : status.Memory ≡ status.ReadFault = sym is ∙ five in cc)

  unwritten_of : Ended command before result after → result ≡ status.WriteFault → IsUnwritten command before after ⊎ IsUnprinted command before after
  unwritten_of (Ended.answered found) six = absurd (no_answer status.WriteFault refl found six)
  unwritten_of (Ended.unread is failed line) six = absurd (let other : status.ReadFault ≡ status.WriteFault = sym is ∙ six in cc)
  unwritten_of (Ended.unwritten is failed) six = inl failed
  unwritten_of (Ended.unprinted is failed) six = inr failed
  unwritten_of (Ended.memory is failed) six = absurd (let other : status.Memory ≡ status.WriteFault = sym is ∙ six in cc)

  memory_of : Ended command before result after → result ≡ status.Memory → IsOutOfMemory command before after
  memory_of (Ended.answered found) eight = absurd (no_answer status.Memory refl found eight)
  memory_of (Ended.unread is failed line) eight = absurd (let other : status.ReadFault ≡ status.Memory = sym is ∙ eight in cc)
  memory_of (Ended.unwritten is failed) eight = absurd (let other : status.WriteFault ≡ status.Memory = sym is ∙ eight in cc)
  memory_of (Ended.unprinted is failed) eight = absurd (let other : status.WriteFault ≡ status.Memory = sym is ∙ eight in cc)
  memory_of (Ended.memory is failed) eight = failed

  pub kept : HasOneStatus command → (outcome : Result Answer Stop) → Ends command before.held after.held counts outcome
      → PrintsEnd outcome result (Rose before.faults after.faults) before.taken after.taken
      → OthersStay (reads_of command) before.reads after.reads → OthersStay (writes_of command) before.writes after.writes
      → Keeps command before result after
  kept one outcome ends prints reads writes =
      let how : Ended command before result after = ended outcome ends prints in
      record {
        answered = answered_of how;
        comes = comes_of one how;
        unread = unread_of how;
        unwritten = unwritten_of how;
        memory = memory_of how;
        reads = reads;
        writes = writes;
      }

-- ---- what 0 says

refusal_not_done : (refusal : Refusal) → refusal_status refusal ≡ status.Done → ⊥
refusal_not_done (why.Inputs refusal) zero =
    by_input_status (λ s. s ≡ status.Done → ⊥) refusal (λ is. cc) (λ is. cc) (λ is. cc) zero
refusal_not_done why.NoViolation zero = cc
refusal_not_done (why.Judged reason) zero = cc

done_when : (request : Request) (before after : Outside) (held now : Held) (answer : Answer) → Minimises request held answer now → status_of answer ≡ status.Done
    → GainsLine (line_of answer) before.taken after.taken → after.held ≡ Some now → IsDone request held before after
done_when request before after held _ _ (Minimises.refused refusal refused) zero line is =
    absurd (refusal_not_done (why.Inputs refusal) zero)
done_when request before after held _ _ (Minimises.no_violation none) zero line is = absurd (refusal_not_done why.NoViolation zero)
done_when request before after held _ _ (Minimises.minimised text summary made) zero line is =
    record { text = text; summary = summary; made = made; holds = is; line = line }

pub done_by : (request : Request) (before after : Outside) (held : Option Held) (answer : Answer) → Gives (minimise request) held after.held answer
    → status_of answer ≡ status.Done → GainsLine (line_of answer) before.taken after.taken → IfSome held (λ held. IsDone request held before after)
done_by request before after None answer gives zero line = tt
done_by request before after (Some held) answer (now, is, answers) zero line = done_when request before after held now answer answers zero line is

yes_when : (inputs : Inputs) (before after : Outside) (held now : Held) (answer : Answer) → Checks inputs held answer now → status_of answer ≡ status.Done
    → GainsLine (line_of answer) before.taken after.taken → before.held ≡ Some held → after.held ≡ Some now → SaysYes inputs held before after
yes_when inputs before after held _ _ (Checks.refused refusal refused) zero line was is =
    absurd (refusal_not_done (why.Inputs refusal) zero)
yes_when inputs before after held _ _ (Checks.judged reason against) zero line was is =
    absurd (refusal_not_done (why.Judged reason) zero)
yes_when inputs before after held _ _ (Checks.accepted numbers counted) zero line was is =
    record { numbers = numbers; accepted = counted; holds = is ∙ sym was; line = line }

pub yes_by : (inputs : Inputs) (before after : Outside) (held : Option Held) (answer : Answer) → before.held ≡ held → Gives (check inputs) held after.held answer
    → status_of answer ≡ status.Done → GainsLine (line_of answer) before.taken after.taken → IfSome held (λ held. SaysYes inputs held before after)
yes_by inputs before after None answer was gives zero line = tt
yes_by inputs before after (Some held) answer was (now, is, answers) zero line = yes_when inputs before after held now answer answers zero line was is

pub done_kept : (request : Request) (before : Outside) (result : Status) (after : Outside) → Keeps (minimise request) before result after → result ≡ status.Done
    → IfSome before.held (λ held. IsDone request held before after)
done_kept request before result after keeps zero =
    let found : IsAnswered (minimise request) before result after = keeps.answered (ap is_fault zero) in
    done_by request before after before.held found.answer found.holds (sym found.status ∙ zero) found.line

pub yes_kept : (inputs : Inputs) (before : Outside) (result : Status) (after : Outside) → Keeps (check inputs) before result after → result ≡ status.Done
    → IfSome before.held (λ held. SaysYes inputs held before after)
yes_kept inputs before result after keeps zero =
    let found : IsAnswered (check inputs) before result after = keeps.answered (ap is_fault zero) in
    yes_by inputs before after before.held found.answer refl found.holds (sym found.status ∙ zero) found.line

-- ---- the words

answer_no_words : (answer : Answer) → status_of answer ≡ status.Words → ⊥
answer_no_words (Minimised summary) two = cc
answer_no_words (Judged numbers) two = cc
answer_no_words (Refusing (why.Inputs refusal)) two =
    by_input_status (λ s. s ≡ status.Words → ⊥) refusal (λ is. cc) (λ is. cc) (λ is. cc) two
answer_no_words (Refusing why.NoViolation) two = cc
answer_no_words (Refusing (why.Judged reason)) two = cc

printed_no_words : (own : Status) (line : List ℕ) (result : Status) (cause : Type 0) (taken taken_now : Option (List ℕ))
    → (own ≡ status.Words → ⊥) → Prints own line result cause taken taken_now → result ≡ status.Words → ⊥
printed_no_words own line result cause taken taken_now other (inl (is, gains)) two = other (sym is ∙ two)
printed_no_words own line result cause taken taken_now other (inr (inl (is, rose, part))) two = let same : status.WriteFault ≡ status.Words = sym is ∙ two in cc
printed_no_words own line result cause taken taken_now other (inr (inr (is, part))) two = let same : status.Memory ≡ status.Words = sym is ∙ two in cc

-- Where something was asked for, the status is not that of words that ask for nothing.
pub no_words : (outcome : Result Answer Stop) (result : Status) (cause : Type 0) (taken taken_now : Option (List ℕ))
    → PrintsEnd outcome result cause taken taken_now → result ≡ status.Words → ⊥
no_words (Ok answer) result cause taken taken_now prints two =
    printed_no_words (status_of answer) (line_of answer) result cause taken taken_now (answer_no_words answer) prints two
no_words (Err (Refused refusal)) result cause taken taken_now prints two =
    printed_no_words (status_of (Refusing refusal)) (line_of (Refusing refusal)) result cause taken taken_now (answer_no_words (Refusing refusal)) prints two
no_words (Err ReadFault) result cause taken taken_now prints two =
    printed_no_words status.ReadFault read_fault_line result cause taken taken_now (λ same. cc) prints two
no_words (Err WriteFault) result cause taken taken_now (is, same) two = let other : status.WriteFault ≡ status.Words = sym is ∙ two in cc
no_words (Err Memory) result cause taken taken_now (is, same) two = let other : status.Memory ≡ status.Words = sym is ∙ two in cc

-- a law for each command
pub each_has_one : ((request : Request) → HasOneStatus (minimise request)) → ((inputs : Inputs) → HasOneStatus (check inputs)) → (command : Command) → HasOneStatus command
each_has_one one other (minimise request) = one request
each_has_one one other (check inputs) = other inputs
