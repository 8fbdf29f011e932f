-- What `minimise` answers.
use Rattle.std.specs.Prelude.{ℕ, List}
use Rattle.bm_base.specs.Held.{Held, holding}
use Rattle.bm_inputs.specs.Files.{RefusesFiles}
use Rattle.bm_inputs.specs.declared.stop.InputRefusal.{InputRefusal}
use Rattle.bm_words.specs.Words.{Request}
use Rattle.bm_cli.specs.Verdict.{HasMinimised, HasNoViolation}
use Rattle.bm_cli.specs.declared.answer.Answer.{Answer}
use Rattle.bm_cli.specs.declared.answer.Answer.TheVariants.{Minimised, Refused}
use Rattle.bm_cli.specs.declared.answer.Refusal.TheVariants as why
use Rattle.bm_cli.specs.declared.answer.Summary.{Summary}

-- On what a shelf holds: NETLIST or STIM is refused, or no cycle violates, and the shelf stays as it is; or OUT then
-- holds the text that is made of them.
pub data Minimises (request : Request) (held : Held) : Answer → Held → Type 0 where
  refused : (refusal : InputRefusal) → RefusesFiles request.inputs held refusal
      → Minimises request held (Refused (why.Inputs refusal)) held
  no_violation : HasNoViolation request.inputs held → Minimises request held (Refused why.NoViolation) held
  minimised : (text : List ℕ) (summary : Summary) → HasMinimised request.inputs held text summary
      → Minimises request held (Minimised summary) (holding request.out text held)
