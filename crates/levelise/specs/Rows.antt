-- The nodes of a net in an order, each with its number.
use Rattle.std.specs.Prelude.{◌≡◌, ℕ, List, map, slice_index_or}
use Rattle.flat_net.specs.declared.node.Node.{Node}
use Rattle.flat_net.specs.declared.node.Node.TheVariants.{Zero}
use Rattle.levelise.specs.declared.placed.Placed.{Placed}
use Rattle.net_order.specs.Orders.{IsOrder}

-- the node with a number
abbrev pub placed_at : List Node → ℕ → Placed
placed_at nodes number = record { number = number; node = slice_index_or nodes number Zero }

-- the nodes in this order
abbrev pub placed_by : List Node → List ℕ → List Placed
placed_by nodes order = map (placed_at nodes) order

-- The row has all nodes, each after all that it reads.
pub record IsRow (nodes : List Node) (row : List Placed) : Type 0 where
  pub order : List ℕ
  pub is_order : IsOrder nodes order
  pub row_is : row ≡ placed_by nodes order
