-- Nodes that read themselves, through `Buf`, `And` and `Xor`.
use Rattle.std.specs.Prelude.{◌≡◌, ◌⊎◌, ◌<◌, ℕ, zero, suc, List, Bool, Some, None, length, slice_get}
use Rattle.flat_net.specs.declared.node.Node.{Node}
use Rattle.flat_net.specs.declared.node.Node.TheVariants.{And, Buf, Xor}
use Rattle.flat_net.specs.Nets.{IsNet, Net}
use Rattle.flat_net.specs.Values.{node_value_of, within}

-- A node of this kind reads the node with a number. A register reads none: it has its value from the cycle before.
abbrev pub HasEdgeTo : Node → ℕ → Type 0
HasEdgeTo (Buf edge) next = edge.node ≡ next
HasEdgeTo (And left right) next = (left.node ≡ next) ⊎ (right.node ≡ next)
HasEdgeTo (Xor left right) next = (left.node ≡ next) ⊎ (right.node ≡ next)
HasEdgeTo other next = ⊥

-- the node with a number reads another
pub record Reads (nodes : List Node) (from next : ℕ) : Type 0 where
  pub node : Node
  pub there : slice_get nodes from ≡ Some node
  pub edge : HasEdgeTo node next

-- So many readings, one after the other, lead from a node to another.
abbrev pub Leads : List Node → ℕ → ℕ → ℕ → Type 0
Leads nodes zero from to = from ≡ to
Leads nodes (suc count) from to = (next : ℕ) × (Reads nodes from next × Leads nodes count next to)

abbrev pub ReadsItself : List Node → ℕ → Type 0
ReadsItself nodes node = (count : ℕ) × Leads nodes (suc count) node node

pub record Loops : Type 0 where
  -- A node that reads itself has no value.
  pub none : (nodes : List Node) (state row : List Bool) (steps node : ℕ) → ReadsItself nodes node →
      within nodes state row steps node ≡ None
  -- Where a node of a net has no value, some node reads itself.
  pub loop : (net : Net) → IsNet net → (state row : List Bool) → length state ≡ length net.power_up → length row ≡ net.inputs →
      (node : ℕ) → node < length net.nodes → node_value_of net state row node ≡ None →
      (other : ℕ) × ReadsItself net.nodes other
