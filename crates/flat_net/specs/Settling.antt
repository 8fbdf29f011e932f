-- More steps take no value back, and more steps than there are nodes give no more values.
use Rattle.std.specs.Prelude.{◌≡◌, ℕ, ◌≤◌, List, Bool, length, option_and_then, slice_get}
use Rattle.flat_net.specs.declared.node.Node.{Node}
use Rattle.flat_net.specs.Orders.{IsBelow}
use Rattle.flat_net.specs.Values.{node_value, within}

pub record Settles : Type 0 where
  -- a value stays with more steps
  pub grows : (nodes : List Node) (state row : List Bool) (fewer steps node : ℕ) → fewer ≤ steps →
      IsBelow (within nodes state row fewer node) (within nodes state row steps node)
  -- as many steps as there are nodes suffice
  pub settled : (nodes : List Node) (state row : List Bool) (steps node : ℕ) → length nodes ≤ steps →
      within nodes state row steps node ≡ within nodes state row (length nodes) node
  -- the values then solve the equations of the nodes
  pub fixed : (nodes : List Node) (state row : List Bool) (node : ℕ) →
      within nodes state row (length nodes) node
      ≡ option_and_then (node_value state row (within nodes state row (length nodes))) (slice_get nodes node)
