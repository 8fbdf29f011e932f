-- What `check` answers.
use Rattle.bm_base.specs.Held.{Held}
use Rattle.bm_check.specs.declared.verdict.Reason.{Reason}
use Rattle.bm_inputs.specs.Files.{RefusesFiles}
use Rattle.bm_inputs.specs.declared.stop.InputRefusal.{InputRefusal}
use Rattle.bm_words.specs.Words.{Inputs}
use Rattle.bm_cli.specs.Verdict.{HasCounted, HasReason}
use Rattle.bm_cli.specs.declared.answer.Accepted.{Accepted}
use Rattle.bm_cli.specs.declared.answer.Answer.{Answer}
use Rattle.bm_cli.specs.declared.answer.Answer.TheVariants.{Accepted as Accepting, Refused}
use Rattle.bm_cli.specs.declared.answer.Refusal.TheVariants as why

-- On what a shelf holds, which stays as it is: NETLIST or TRACE is refused, or there is a reason against the trace and
-- this is the first, or the trace is accepted with these numbers.
pub data Checks (inputs : Inputs) (held : Held) : Answer → Held → Type 0 where
  refused : (refusal : InputRefusal) → RefusesFiles inputs held refusal → Checks inputs held (Refused (why.Inputs refusal)) held
  judged : (reason : Reason) → HasReason inputs held reason → Checks inputs held (Refused (why.Judged reason)) held
  accepted : (numbers : Accepted) → HasCounted inputs held numbers → Checks inputs held (Accepting numbers) held
