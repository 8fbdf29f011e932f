-- Values of nodes, found one after another.
use Rattle.std.specs.Prelude.{⊤, ◌≡◌, ◌<◌, ℕ, List, Bool, length, slice_get, slice_set}
use Rattle.flat_net.specs.declared.node.Node.{Node}
use Rattle.flat_net.specs.declared.node.Node.TheVariants.{Zero, Input, Reg, Buf, And, Xor}
use Rattle.flat_net.specs.Nets.{IsWithin, Net}
use Rattle.flat_net.specs.Values.{node_value, node_value_of}
use Rattle.levelise.specs.Machine.{known}
use Rattle.levelise.specs.declared.placed.Placed.{Placed}

-- All that a node reads is there, of so many inputs, registers and nodes.
abbrev pub CanRead : ℕ → ℕ → ℕ → Node → Type 0
CanRead inputs registers count Zero = ⊤
CanRead inputs registers count (Input place) = place < inputs
CanRead inputs registers count (Reg place) = place < registers
CanRead inputs registers count (Buf edge) = IsWithin count edge
CanRead inputs registers count (And left right) = IsWithin count left × IsWithin count right
CanRead inputs registers count (Xor left right) = IsWithin count left × IsWithin count right

-- the node has its place, and can be read
pub record IsPlaced (inputs registers count : ℕ) (placed : Placed) : Type 0 where
  pub number : placed.number < count
  pub reads : CanRead inputs registers count placed.node

-- the values of nodes with that of one node more
abbrev pub with_value : List Bool → List Bool → List Bool → Placed → List Bool
with_value state row work placed = slice_set work placed.number (known (node_value state row (slice_get work) placed.node))

-- These are the values of all nodes in a state under a row.
pub record HasValues (net : Net) (state row work : List Bool) : Type 0 where
  pub count : length work ≡ length net.nodes
  pub value : (node : ℕ) → node < length net.nodes → slice_get work node ≡ node_value_of net state row node
