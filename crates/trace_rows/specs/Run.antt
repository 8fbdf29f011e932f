-- Runs of a machine and their violations.
use Rattle.std.specs.Prelude.{◌≡◌, ℕ, ◌+◌, ◌<◌, List, [], ◌∷◌, Bool, true, Some, length, slice_get, take}
use Rattle.trace_rows.specs.Machine.{Machine}

-- the state after these rows from a state
abbrev pub state_after : Machine → List Bool → List (List Bool) → List Bool
state_after machine state [] = state
state_after machine state (row ∷ rows) = state_after machine (machine.next state row) rows

-- the state in which a cycle begins
abbrev pub state_at : Machine → List (List Bool) → ℕ → List Bool
state_at machine rows cycle = state_after machine machine.start (take cycle rows)

-- The cycle is there, and the checker is 1 in it.
abbrev pub ViolatesAt : Machine → List (List Bool) → ℕ → Type 0
ViolatesAt machine rows cycle =
    (row : List Bool) × (slice_get rows cycle ≡ Some row) × (machine.bad (state_at machine rows cycle) row ≡ true)

-- Some cycle violates.
abbrev pub Violates : Machine → List (List Bool) → Type 0
Violates machine rows = (cycle : ℕ) × ViolatesAt machine rows cycle

-- The last cycle violates, and no earlier one does.
pub record IsFirstAtLast (machine : Machine) (rows : List (List Bool)) : Type 0 where
  pub last : ℕ
  pub is_last : length rows ≡ last + 1
  pub violates : ViolatesAt machine rows last
  pub first : (cycle : ℕ) → cycle < last → ViolatesAt machine rows cycle → ⊥

-- the checker's bit of each cycle from a state
abbrev pub checks_from : Machine → List Bool → List (List Bool) → List Bool
checks_from machine state [] = []
checks_from machine state (row ∷ rows) = machine.bad state row ∷ checks_from machine (machine.next state row) rows

-- the checker's bit of each cycle of a run
abbrev pub checks : Machine → List (List Bool) → List Bool
checks machine rows = checks_from machine machine.start rows
