-- What 0 says, for each command in its own words.
use Rattle.std.specs.Prelude.{◌≡◌, ℕ, List, Some}
use Rattle.bm_base.specs.Held.{Held, holding}
use Rattle.bm_cli.specs.Answer.{accepted_line, summary_line}
use Rattle.bm_cli.specs.Outside.{Outside}
use Rattle.bm_cli.specs.Prints.{GainsLine}
use Rattle.bm_cli.specs.Verdict.{HasCounted, HasMinimised}
use Rattle.bm_words.specs.Words.{Inputs, Request}
use Rattle.bm_cli.specs.declared.answer.Accepted.{Accepted}
use Rattle.bm_cli.specs.declared.answer.Summary.{Summary}

-- OUT holds the text of the trace that was made, no other file has changed, and the line with its numbers is printed.
pub record IsDone (request : Request) (held : Held) (before after : Outside) : Type 0 where
  pub text : List ℕ
  pub summary : Summary
  pub made : HasMinimised request.inputs held text summary
  pub holds : after.held ≡ Some (holding request.out text held)
  pub line : GainsLine (summary_line summary) before.taken after.taken

-- The trace is accepted, and the line with its numbers is printed.
pub record SaysYes (inputs : Inputs) (held : Held) (before after : Outside) : Type 0 where
  pub numbers : Accepted
  pub accepted : HasCounted inputs held numbers
  pub holds : after.held ≡ before.held
  pub line : GainsLine (accepted_line numbers) before.taken after.taken
