-- Machines that are the same have the same runs.
use Rattle.std.specs.Prelude.{◌≡◌, ◌↔◌, ℕ, ◌<◌, List, Bool, Some, length, slice_get}
use Rattle.machine_laws.specs.Machines.{AreSame}
use Rattle.trace_rows.specs.Cut.{cut}
use Rattle.trace_rows.specs.Machine.{Machine}
use Rattle.trace_rows.specs.Minimal.{IsDistinct, IsMinimal, IsTight, NoCutViolates}
use Rattle.trace_rows.specs.Run.{IsFirstAtLast, Violates, ViolatesAt, checks, state_after, state_at}

-- Each row has so many bits.
abbrev pub AreWide : ℕ → List (List Bool) → Type 0
AreWide inputs rows = (cycle : ℕ) (row : List Bool) → slice_get rows cycle ≡ Some row → length row ≡ inputs

pub record HaveSameRuns (registers inputs : ℕ) (one other : Machine) : Type 0 where
  -- the state after rows from a state
  pub after : (rows : List (List Bool)) → AreWide inputs rows → (state : List Bool) → length state ≡ registers
      → state_after one state rows ≡ state_after other state rows
  -- the state in which a cycle begins
  pub states : (rows : List (List Bool)) → AreWide inputs rows → (cycle : ℕ) → state_at one rows cycle ≡ state_at other rows cycle
  pub checks : (rows : List (List Bool)) → AreWide inputs rows → checks one rows ≡ checks other rows
  pub violates_at : (rows : List (List Bool)) → AreWide inputs rows → (cycle : ℕ) → ViolatesAt one rows cycle ↔ ViolatesAt other rows cycle
  pub violates : (rows : List (List Bool)) → AreWide inputs rows → Violates one rows ↔ Violates other rows
  pub first_at_last : (rows : List (List Bool)) → AreWide inputs rows → IsFirstAtLast one rows ↔ IsFirstAtLast other rows
  -- with no cycle, and no event, to spare
  pub cut : (rows : List (List Bool)) → AreWide inputs rows → (i : ℕ) → Violates one (cut rows i) ↔ Violates other (cut rows i)
  pub no_cut : (rows : List (List Bool)) → AreWide inputs rows → NoCutViolates one rows ↔ NoCutViolates other rows
  pub minimal : (rows : List (List Bool)) → AreWide inputs rows → IsMinimal one rows ↔ IsMinimal other rows
  -- with no state twice, and no shorter way
  pub distinct : (rows : List (List Bool)) → AreWide inputs rows → IsDistinct one rows ↔ IsDistinct other rows
  pub tight : (rows : List (List Bool)) → AreWide inputs rows → (a b : ℕ) → IsTight one rows a b ↔ IsTight other rows a b

abbrev pub SameHaveRuns : Type 0
SameHaveRuns =
    (registers inputs : ℕ) (one other : Machine) → AreSame registers inputs one other → HaveSameRuns registers inputs one other
