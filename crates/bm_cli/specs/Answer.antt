-- The answers, their statuses and their lines.
use Rattle.std.specs.Prelude.{ℕ, List, ◌++◌, codes, decimal}
use Rattle.bm_base.specs.declared.status.Status.{Status}
use Rattle.bm_base.specs.declared.status.Status.TheVariants as status
use Rattle.bm_check.specs.declared.verdict.Reason.{Reason}
use Rattle.bm_check.specs.declared.verdict.Reason.TheVariants.{Cut, NotFirstAtLast}
use Rattle.bm_inputs.specs.Lines as inputs
use Rattle.bm_cli.specs.declared.answer.Accepted.{Accepted}
use Rattle.bm_cli.specs.declared.answer.Summary.{Summary}
use Rattle.bm_cli.specs.declared.answer.Refusal.{Refusal}
use Rattle.bm_cli.specs.declared.answer.Refusal.TheVariants.{Inputs, Judged, NoViolation}
use Rattle.bm_cli.specs.declared.answer.Answer.{Answer}
use Rattle.bm_cli.specs.declared.answer.Answer.TheVariants.{Accepted as Accepting, Minimised, Refused}

abbrev pub refusal_status : Refusal → Status
refusal_status (Inputs why) = inputs.refusal_status why
refusal_status NoViolation = status.No
refusal_status (Judged reason) = status.No

abbrev pub status_of : Answer → Status
status_of (Minimised summary) = status.Done
status_of (Accepting accepted) = status.Done
status_of (Refused refusal) = refusal_status refusal

abbrev pub summary_line : Summary → List ℕ
summary_line s = codes "minimised: cycles " ++ decimal s.cycles_before ++ codes " to " ++ decimal s.cycles
    ++ codes ", events " ++ decimal s.events_before ++ codes " to " ++ decimal s.events
    ++ codes ", windows 0 certified, 0 open, x " ++ decimal s.unknown ++ codes "\n"

abbrev pub accepted_line : Accepted → List ℕ
accepted_line a =
    codes "yes: cycles " ++ decimal a.cycles ++ codes ", events " ++ decimal a.events
    ++ codes ", windows 0 certified, 0 open\n"

-- the first reason against a trace, with the first cycle that can go
abbrev pub reason_line : Reason → List ℕ
reason_line NotFirstAtLast = codes "no: N1\n"
reason_line (Cut cycle) = codes "no: N2 cycle " ++ decimal cycle ++ codes "\n"

abbrev pub refusal_line : Refusal → List ℕ
refusal_line (Inputs why) = inputs.refusal_line why
refusal_line NoViolation = codes "no violation\n"
refusal_line (Judged reason) = reason_line reason

-- the line, with its newline
abbrev pub line_of : Answer → List ℕ
line_of (Minimised summary) = summary_line summary
line_of (Accepting accepted) = accepted_line accepted
line_of (Refused refusal) = refusal_line refusal

-- what is printed where the words ask for nothing
abbrev pub words_line : List ℕ
words_line = codes "words refused\n"
