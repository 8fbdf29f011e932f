-- A machine: a state that changes with each cycle, and a checker.
use Rattle.std.specs.Prelude.{List, Bool}

-- A state has one truth value for each register, and a row one for each input bit.
pub record Machine : Type 0 where
  -- the state in which the first cycle begins
  pub start : List Bool
  -- the state after a cycle, by its state and its row
  pub next : List Bool → List Bool → List Bool
  -- whether a cycle violates, by its state and its row
  pub bad : List Bool → List Bool → Bool
  -- the row before the first, which its events are counted from
  pub base : List Bool
