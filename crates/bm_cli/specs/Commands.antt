-- What each command answers, and the files that it reads and writes.
use Rattle.std.specs.Prelude.{◌≡◌, ℕ, List, [], ◌∷◌}
use Rattle.bm_base.specs.Held.{Held}
use Rattle.bm_cli.specs.Answer.{status_of}
use Rattle.bm_cli.specs.Commands.Check.{Checks}
use Rattle.bm_cli.specs.Commands.Minimise.{Minimises}
use Rattle.bm_inputs.specs.Files.{files_of}
use Rattle.bm_words.specs.Words.{Command, check, inputs_of, minimise}
use Rattle.bm_cli.specs.declared.answer.Answer.{Answer}
pub mod Check
pub mod Minimise

-- The command answers this on what a shelf holds, and then the shelf holds that.
abbrev pub Answers : Command → Held → Answer → Held → Type 0
Answers (minimise request) = Minimises request
Answers (check inputs) = Checks inputs

-- the names of the files that a command reads, in their order
abbrev pub reads_of : Command → List (List ℕ)
reads_of command = files_of (inputs_of command)

-- the names of the files that it writes, in their order
abbrev pub writes_of : Command → List (List ℕ)
writes_of (minimise request) = request.out ∷ []
writes_of (check inputs) = []

-- What the command answers on what a shelf holds has one status.
abbrev pub HasOneStatus : Command → Type 0
HasOneStatus command = (held one_held other_held : Held) (one other : Answer)
    → Answers command held one one_held → Answers command held other other_held → status_of one ≡ status_of other
