-- How a command ends, before it prints.
use Rattle.std.specs.Prelude.{◌≡◌, ◌⊎◌, ℕ, List, [], ◌∷◌, Option, Result, Ok, Err, take}
use Rattle.bm_base.specs.Counts.{FaultCounts}
use Rattle.bm_base.specs.Held.{Held, bytes_under, holding}
use Rattle.bm_cli.specs.Commands.{Answers, writes_of}
use Rattle.bm_cli.specs.Outside.{SomeRose, Tells}
use Rattle.bm_inputs.specs.Files.{FailsReading}
use Rattle.bm_words.specs.Words.{Command, inputs_of}
use Rattle.bm_cli.specs.declared.answer.Answer.{Answer}
use Rattle.bm_cli.specs.declared.answer.Answer.TheVariants.{Refused as Refusing}
use Rattle.bm_cli.specs.declared.answer.Stop.{Stop}
use Rattle.bm_cli.specs.declared.answer.Stop.TheVariants.{Refused, ReadFault, WriteFault, Memory}

-- On the way from what a shelf held to what it should hold, the files with these names are whole up to one; that one is
-- as it was or has a prefix of its text, and the later ones are as they were.
abbrev pub IsPartly : List (List ℕ) → Held → Held → Held → Type 0
IsPartly [] held whole now = now ≡ held
IsPartly (name ∷ names) held whole now =
    (now ≡ held)
    ⊎ (((kept : ℕ) × (now ≡ holding name (take kept (bytes_under whole name)) held))
    ⊎ IsPartly names (holding name (bytes_under whole name) held) whole now)

-- The shelf is as it was, or on the way to what some answer of the command says.
abbrev pub IsOnTheWay : Command → Held → Held → Type 0
IsOnTheWay command held now = (now ≡ held)
    ⊎ ((answer : Answer) × (whole : Held) × Answers command held answer whole
    × IsPartly (writes_of command) held whole now)

-- the counts of the files before and after
pub record CallCounts : Type 0 where
  pub reads : FaultCounts
  pub reads_now : FaultCounts
  pub writes : FaultCounts
  pub writes_now : FaultCounts

abbrev pub counted : FaultCounts → FaultCounts → FaultCounts → FaultCounts → CallCounts
counted reads reads_now writes writes_now =
    record { reads = reads; reads_now = reads_now; writes = writes; writes_now = writes_now }

-- It answers, and the shelf holds what the answer says.
abbrev pub Gives : Command → Option Held → Option Held → Answer → Type 0
Gives command held now answer = Tells (λ held now. Answers command held answer now) held now

-- It stops: with a refusal that is its answer, for a fault that the counts show, or for want of memory.
abbrev pub Stops : Command → Option Held → Option Held → CallCounts → Stop → Type 0
Stops command held now counts (Refused refusal) = Gives command held now (Refusing refusal)
Stops command held now counts ReadFault =
    FailsReading (inputs_of command) held counts.reads counts.reads_now × (now ≡ held)
Stops command held now counts WriteFault =
    SomeRose (writes_of command) counts.writes counts.writes_now × Tells (IsOnTheWay command) held now
Stops command held now counts Memory = Tells (IsOnTheWay command) held now

abbrev pub Ends : Command → Option Held → Option Held → CallCounts → Result Answer Stop → Type 0
Ends command held now counts (Ok answer) = Gives command held now answer
Ends command held now counts (Err stop) = Stops command held now counts stop
