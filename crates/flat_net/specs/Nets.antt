-- What a flat netlist is: its nodes in their order, and which of them a cycle reads.
use Rattle.std.specs.Prelude.{ℕ, ◌<◌, ◌≡◌, List, ◌∷◌, ◌++◌, Bool, All, length, map}
use Rattle.std.specs.List.{range_with_len}
use Rattle.flat_net.specs.declared.edge.Edge.{Edge}
use Rattle.flat_net.specs.declared.node.Node.{Node}
use Rattle.flat_net.specs.declared.node.Node.TheVariants.{Zero, Input, Reg, Buf, And, Xor}

pub record Net : Type 0 where
  pub nodes : List Node
  -- one for each register, in their order: what it has after a cycle
  pub next : List Edge
  -- the checker
  pub bad : Edge
  -- how many inputs there are
  pub inputs : ℕ
  -- one for each register: what it has at power-up
  pub power_up : List Bool

-- Node 0 is `Zero`. Then the inputs stand, and then the registers.
abbrev pub sources : ℕ → ℕ → List Node
sources inputs registers = Zero ∷ map Input (range_with_len 0 inputs) ++ map Reg (range_with_len 0 registers)

-- the edge names one of so many nodes
abbrev pub IsWithin : ℕ → Edge → Type 0
IsWithin count edge = edge.node < count

-- a node after the registers, of a net with so many nodes
abbrev pub IsInner : ℕ → Node → Type 0
IsInner count (Buf edge) = IsWithin count edge
IsInner count (And left right) = IsWithin count left × IsWithin count right
IsInner count (Xor left right) = IsWithin count left × IsWithin count right
IsInner count other = ⊥

pub record IsNet (net : Net) : Type 0 where
  -- the nodes after the registers
  pub inner : List Node
  pub nodes : net.nodes ≡ sources net.inputs (length net.power_up) ++ inner
  pub inner_within : All (IsInner (length net.nodes)) inner
  pub next_count : length net.next ≡ length net.power_up
  pub next_within : All (IsWithin (length net.nodes)) net.next
  pub bad_within : IsWithin (length net.nodes) net.bad
  pub few : length net.nodes < 4294967296
