-- What `minimise` wrote, `check` accepts.
use Rattle.std.specs.Prelude.{ℕ, ◌≤◌, List, None, length}
use Rattle.bm_base.specs.Held.{Held, holding}
use Rattle.bm_base.specs.Size.{limit_of}
use Rattle.bm_base.specs.declared.size.Size.TheVariants as size
use Rattle.bm_cli.specs.Verdict.{HasCounted, HasMinimised}
use Rattle.bm_cli.specs.declared.answer.Accepted.{Accepted}
use Rattle.bm_words.specs.Words.{Asks, Inputs, Request, minimise}
use Rattle.bm_cli.specs.declared.answer.Summary.{Summary}

-- what `check` reads, to judge what a request wrote
abbrev pub written_by : Request → Inputs
written_by request = record {
  netlist = request.inputs.netlist;
  waveform = request.out;
  names = request.inputs.names;
  scope = None;
}

-- The text of `minimise`, if it is no longer than a waveform may be, is accepted on the shelf that holds it under the
-- output's name.
abbrev pub IsAcceptedAgain : Type 0
IsAcceptedAgain = (words : List (List ℕ)) (request : Request) (held : Held) (text : List ℕ) (summary : Summary)
    → Asks words (minimise request) → HasMinimised request.inputs held text summary
    → length text ≤ limit_of size.Waveform
    → (numbers : Accepted) × HasCounted (written_by request) (holding request.out text held) numbers
