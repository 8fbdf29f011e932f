-- Traces without one of their cycles.
use Rattle.std.specs.Prelude.{ℕ, ◌<◌, ◌≤◌, List, Bool, Option, Some, None, length}
use Rattle.trace_rows.specs.Cut.{cut}
use Rattle.trace_rows.specs.Machine.{Machine}
use Rattle.trace_rows.specs.Minimal.{NoCutViolates}
use Rattle.trace_rows.specs.Run.{IsFirstAtLast, Violates}

-- Without any one cycle from this place on and before that one, no cycle violates.
abbrev pub NoCutFrom : Machine → List (List Bool) → ℕ → ℕ → Type 0
NoCutFrom machine rows from to = (i : ℕ) → from ≤ i → i < to → Violates machine (cut rows i) → ⊥

-- What is found is the first cycle, from this place on, without which some cycle still violates.
abbrev pub IsFirstCut : Machine → List (List Bool) → ℕ → Option ℕ → Type 0
IsFirstCut machine rows from (Some i) =
    (from ≤ i) × (i < length rows) × Violates machine (cut rows i) × NoCutFrom machine rows from i
IsFirstCut machine rows from None = NoCutFrom machine rows from (length rows)

-- The trace violates first at its last cycle, and no deletion of a single cycle leaves one that violates.
pub record IsAccepted (machine : Machine) (rows : List (List Bool)) : Type 0 where
  pub first_at_last : IsFirstAtLast machine rows
  pub no_cut : NoCutViolates machine rows

-- The trace violates first at its last cycle, and this is its first cycle whose deletion leaves a trace that violates.
pub record HasLeastCut (machine : Machine) (rows : List (List Bool)) (i : ℕ) : Type 0 where
  pub first_at_last : IsFirstAtLast machine rows
  pub within : i < length rows
  pub violates : Violates machine (cut rows i)
  pub least : (j : ℕ) → j < i → Violates machine (cut rows j) → ⊥
