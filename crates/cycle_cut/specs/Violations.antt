-- Where runs violate.
use Rattle.std.specs.Prelude.{◌≡◌, ℕ, ◌+◌, ◌-◌, ◌<◌, ◌≤◌, List, Bool, true, Option, Some, None, drop, length, slice_get}
use Rattle.std.specs.List.{list_any}
use Rattle.trace_rows.specs.Machine.{Machine}
use Rattle.trace_rows.specs.Run.{checks, checks_from}

-- whether some cycle violates in the run from a state over these rows
unfoldable pub violates_from : Machine → List Bool → List (List Bool) → Bool
violates_from machine state rows = list_any (λ bit. bit) (checks_from machine state rows)

-- The checker is 1 in no cycle before this place, and in the cycle at this place, if it is there.
pub record IsViolatedFrom (machine : Machine) (rows : List (List Bool)) (first : ℕ) : Type 0 where
  pub none : (cycle : ℕ) → cycle < first → slice_get (checks machine rows) cycle ≡ Some true → ⊥
  pub some : first < length rows → slice_get (checks machine rows) first ≡ Some true

-- The checker is 1 in no cycle from this place on, and in the one before it, if it is there.
pub record IsViolatedUpTo (machine : Machine) (rows : List (List Bool)) (end : ℕ) : Type 0 where
  pub none : (cycle : ℕ) → end ≤ cycle → slice_get (checks machine rows) cycle ≡ Some true → ⊥
  pub some : 0 < end → slice_get (checks machine rows) (end - 1) ≡ Some true

-- What it is to do the cycle at a place from a state: the answer is whether the rows from there on violate, and where
-- there is none, they do so exactly where the later ones do from the next state.
abbrev pub Turns : Machine → List (List Bool) → ℕ → List Bool → List Bool → Option Bool → Type 0
Turns machine rows place state next (Some answer) = violates_from machine state (drop place rows) ≡ answer
Turns machine rows place state next None =
    violates_from machine state (drop place rows) ≡ violates_from machine next (drop (place + 1) rows)
