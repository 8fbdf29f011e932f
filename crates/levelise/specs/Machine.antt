-- The machine of a flat netlist: its first state, its next states and its checker.
use Rattle.std.specs.Prelude.{◌==◌, ◌&&◌, ◌<◌, ℕ, List, [], Bool, false, not, Option, Some, None, IfSome, fold, map, replicate, unwrap_or}
use Rattle.std.specs.List.{range_with_len}
use Rattle.trace_rows.specs.Machine.{Machine}
use Rattle.flat_net.specs.declared.setup.Reset.{Reset}
use Rattle.flat_net.specs.declared.setup.Setup.{Setup}
use Rattle.flat_net.specs.Nets.{Net}
use Rattle.flat_net.specs.Values.{edge_value_of}

-- The value, and 0 where there is none. A node of a net without loops always has one.
abbrev pub known : Option Bool → Bool
known value = unwrap_or value false

-- the state after a cycle with this state and this row
abbrev pub next : Net → List Bool → List Bool → List Bool
next net state row = map (λ edge. known (edge_value_of net state row edge)) net.next

-- The cycle with this state and this row violates.
abbrev pub bad : Net → List Bool → List Bool → Bool
bad net state row = known (edge_value_of net state row net.bad)

-- the row that has one input at a value, and 0 elsewhere
abbrev pub row_with : Net → ℕ → Bool → List Bool
row_with net bit value = map (λ place. (place == bit) && value) (range_with_len 0 net.inputs)

-- the rows of the reset cycles, in which the reset input is active
abbrev pub reset_rows : Net → ℕ → Option Reset → List (List Bool)
reset_rows net cycles (Some reset) = replicate cycles (row_with net reset.bit reset.active)
reset_rows net cycles None = []

-- the state that each run starts from
abbrev pub start : Net → Setup → List Bool
start net setup = fold (next net) net.power_up (reset_rows net setup.cycles setup.reset)

-- the row that events are counted from, in which the reset input is not active
abbrev pub base_row : Net → Option Reset → List Bool
base_row net (Some reset) = row_with net reset.bit (not reset.active)
base_row net None = map (λ place. false) (range_with_len 0 net.inputs)

-- a net, and how its runs begin
pub record Level : Type 0 where
  pub net : Net
  pub setup : Setup

-- the reset is one of the inputs
abbrev pub HasReset : Net → Setup → Type 0
HasReset net setup = IfSome setup.reset (λ (reset : Reset). reset.bit < net.inputs)

-- the machine of a net
abbrev pub machine : Level → Machine
machine level = record {
  start = start level.net level.setup;
  next = next level.net;
  bad = bad level.net;
  base = base_row level.net level.setup.reset;
}
