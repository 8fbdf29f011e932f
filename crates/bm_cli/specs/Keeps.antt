-- What `run` keeps for every command, from the outside before the call to the outside after it.
use Rattle.std.specs.Prelude.{◌≡◌, ◌⊎◌, ℕ, List, Bool, true, false, Some}
use Rattle.bm_base.specs.Counts.{Rose}
use Rattle.bm_base.specs.Held.{Held}
use Rattle.bm_base.specs.declared.status.Status.{Status}
use Rattle.bm_base.specs.declared.status.Status.TheVariants as status
use Rattle.bm_inputs.specs.Counts.{OthersStay}
use Rattle.bm_inputs.specs.Files.{FailsReading}
use Rattle.bm_inputs.specs.Lines.{read_fault_line}
use Rattle.bm_words.specs.Words.{Command, inputs_of}
use Rattle.bm_cli.specs.Answer.{line_of, status_of, words_line}
use Rattle.bm_cli.specs.Commands.{Answers, reads_of, writes_of}
use Rattle.bm_cli.specs.Ends.{Gives, IsOnTheWay}
use Rattle.bm_cli.specs.Outside.{Outside, SomeRose, Tells}
use Rattle.bm_cli.specs.Prints.{GainsLine, GainsPart, Prints}
use Rattle.bm_cli.specs.declared.answer.Answer.{Answer}

-- whether the status is no answer's: 5, 6 and 8
abbrev pub is_fault : Status → Bool
is_fault status.ReadFault = true
is_fault status.WriteFault = true
is_fault status.Memory = true
is_fault other = false

-- The status and the line are those of an answer of the command, and the shelf holds what it says.
pub record IsAnswered (command : Command) (before : Outside) (result : Status) (after : Outside) : Type 0 where
  pub answer : Answer
  pub status : result ≡ status_of answer
  pub line : GainsLine (line_of answer) before.taken after.taken
  pub holds : Gives command before.held after.held answer

-- A file could not be read, in the order in which they are; all files are as they were.
pub record IsUnread (command : Command) (before after : Outside) : Type 0 where
  pub rose : FailsReading (inputs_of command) before.held before.reads after.reads
  pub holds : after.held ≡ before.held

-- A file that is written failed: it is as it was or has a prefix of its text, those before it are whole, those after it
-- are as they were, and nothing is printed.
pub record IsUnwritten (command : Command) (before after : Outside) : Type 0 where
  pub rose : SomeRose (writes_of command) before.writes after.writes
  pub holds : Tells (IsOnTheWay command) before.held after.held
  pub line : after.taken ≡ before.taken

-- Only the printing failed: the shelf holds what the answer says, and a prefix of its line is printed. Or it was the
-- line of a failed read that could not be printed.
pub record IsUnprinted (command : Command) (before after : Outside) : Type 0 where
  pub rose : Rose before.faults after.faults
  pub answer : ((answer : Answer) × Gives command before.held after.held answer
      × GainsPart (line_of answer) before.taken after.taken)
      ⊎ (IsUnread command before after × GainsPart read_fault_line before.taken after.taken)

-- There was no memory: the files are as after a failed write, and a prefix of a line is printed, which may be nothing.
pub record IsOutOfMemory (command : Command) (before after : Outside) : Type 0 where
  pub holds : Tells (IsOnTheWay command) before.held after.held
  pub line : List ℕ
  pub known : (line ≡ read_fault_line) ⊎ ((answer : Answer) × (line ≡ line_of answer))
  pub part : GainsPart line before.taken after.taken

-- What comes of a command.
pub record Keeps (command : Command) (before : Outside) (result : Status) (after : Outside) : Type 0 where
  -- a status but 5, 6 and 8 is that of an answer
  pub answered : is_fault result ≡ false → IsAnswered command before result after
  -- where the command has an answer, its status comes, but for 5, 6 and 8
  pub comes : (held whole : Held) (answer : Answer) → before.held ≡ Some held → Answers command held answer whole
      → (result ≡ status_of answer) ⊎ (is_fault result ≡ true)
  -- 5 comes only of a file that it reads, and 6 of a file that it writes or of the sink
  pub unread : result ≡ status.ReadFault → IsUnread command before after
      × GainsLine read_fault_line before.taken after.taken
  pub unwritten : result ≡ status.WriteFault → IsUnwritten command before after ⊎ IsUnprinted command before after
  pub memory : result ≡ status.Memory → IsOutOfMemory command before after
  -- no count of a file changes that it neither reads nor writes
  pub reads : OthersStay (reads_of command) before.reads after.reads
  pub writes : OthersStay (writes_of command) before.writes after.writes

-- The words are refused: no file is touched, and the line that says so is printed, as far as the sink takes it.
pub record RefusesWords (before : Outside) (result : Status) (after : Outside) : Type 0 where
  pub held : after.held ≡ before.held
  pub reads : after.reads ≡ before.reads
  pub writes : after.writes ≡ before.writes
  pub prints : Prints status.Words words_line result (Rose before.faults after.faults) before.taken after.taken
