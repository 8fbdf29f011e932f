-- The outside of a call, before it and after it.
use Rattle.std.specs.Prelude.{◌≡◌, ◌⊎◌, ℕ, List, [], ◌∷◌, Option, Some, None}
use Rattle.bm_base.specs.Counts.{FaultCounts, Rose, count_of}
use Rattle.bm_base.specs.Held.{Held}

-- the shelf's bytes and the sink's, where they tell them, and their counts of faults
pub record Outside : Type 0 where
  pub held : Option Held
  pub reads : FaultCounts
  pub writes : FaultCounts
  pub taken : Option (List ℕ)
  pub faults : ℕ

abbrev pub outside : Option Held → FaultCounts → FaultCounts → Option (List ℕ) → ℕ → Outside
outside held reads writes taken faults =
    record { held = held; reads = reads; writes = writes; taken = taken; faults = faults }

-- Where the shelf tells what it holds, it tells so afterwards, and this holds of the two.
abbrev pub Tells : (Held → Held → Type 0) → Option Held → Option Held → Type 0
Tells P None after = after ≡ None
Tells P (Some held) after = (now : Held) × (after ≡ Some now) × P held now

-- The count of one of these names has risen.
abbrev pub SomeRose : List (List ℕ) → FaultCounts → FaultCounts → Type 0
SomeRose [] old new = ⊥
SomeRose (name ∷ names) old new = Rose (count_of old name) (count_of new name) ⊎ SomeRose names old new
