-- Traces with no cycle and no event to spare, and windows with no shorter way through.
use Rattle.std.specs.Prelude.{◌≡◌, ◌≢◌, ℕ, ◌-◌, ◌<◌, List, Bool, All, length}
use Rattle.trace_rows.specs.Cut.{cut}
use Rattle.trace_rows.specs.Drop.{dropped}
use Rattle.trace_rows.specs.Events.{IsEvent}
use Rattle.trace_rows.specs.Machine.{Machine}
use Rattle.trace_rows.specs.Run.{Violates, state_after, state_at}

-- Without any one cycle no cycle violates.
abbrev pub NoCutViolates : Machine → List (List Bool) → Type 0
NoCutViolates machine rows = (i : ℕ) → i < length rows → Violates machine (cut rows i) → ⊥

-- Without any one event no cycle violates.
abbrev pub NoDropViolates : Machine → List (List Bool) → Type 0
NoDropViolates machine rows = (i b : ℕ) → IsEvent machine.base rows i b
    → Violates machine (dropped machine.base rows i b) → ⊥

pub record IsMinimal (machine : Machine) (rows : List (List Bool)) : Type 0 where
  pub no_cut : NoCutViolates machine rows
  pub no_drop : NoDropViolates machine rows

-- No two cycles begin in the same state. The state after the last cycle is not compared.
abbrev pub IsDistinct : Machine → List (List Bool) → Type 0
IsDistinct machine rows = (i j : ℕ) → i < j → j < length rows → state_at machine rows i ≢ state_at machine rows j

-- No shorter list of rows, none at all among them, leads from the state in which cycle a begins to that of cycle b.
abbrev pub IsTight : Machine → List (List Bool) → ℕ → ℕ → Type 0
IsTight machine rows a b = (others : List (List Bool)) → All (λ row. length row ≡ length machine.base) others
    → length others < b - a → state_after machine (state_at machine rows a) others ≢ state_at machine rows b
