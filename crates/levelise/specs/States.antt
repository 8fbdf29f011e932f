-- The states of a run.
use Rattle.std.specs.Prelude.{◌≡◌, ◌+◌, ℕ, List, Bool, length, map}
use Rattle.std.specs.List.{range_with_len}
use Rattle.trace_rows.specs.Machine.{Machine}
use Rattle.trace_rows.specs.Run.{state_at}
use Rattle.levelise.specs.Machine.{Level, machine}

-- the states in which the cycles begin, and the one after the last row
abbrev pub states_of : Machine → List (List Bool) → List (List Bool)
states_of machine rows = map (state_at machine rows) (range_with_len 0 (length rows + 1))

-- Each state of each run has a bit for each register.
abbrev pub AreStatesCounted : Level → Type 0
AreStatesCounted level =
    (rows : List (List Bool)) (cycle : ℕ)
    → length (state_at (machine level) rows cycle) ≡ length level.net.power_up
