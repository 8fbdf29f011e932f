-- The values of nodes in a state under a row.
use Rattle.std.specs.Prelude.{ℕ, zero, suc, List, Bool, false, ◌&&◌, Option, Some, None, length, option_and_then, option_map, slice_get}
use Rattle.std.specs.Bool.{xor}
use Rattle.flat_net.specs.declared.edge.Edge.{Edge}
use Rattle.flat_net.specs.declared.node.Node.{Node}
use Rattle.flat_net.specs.declared.node.Node.TheVariants.{Zero, Input, Reg, Buf, And, Xor}
use Rattle.flat_net.specs.Nets.{Net}

-- the value of each node that has one
abbrev pub Reading : Type 0
Reading = ℕ → Option Bool

abbrev pub edge_value : Reading → Edge → Option Bool
edge_value read edge = option_map (xor edge.neg) (read edge.node)

-- a value of two, where there are both
abbrev pub of_both : (Bool → Bool → Bool) → Option Bool → Option Bool → Option Bool
of_both f (Some x) (Some y) = Some (f x y)
of_both f first second = None

-- what a node has, by what the nodes have that it reads
abbrev pub node_value : List Bool → List Bool → Reading → Node → Option Bool
node_value state row read Zero = Some false
node_value state row read (Input place) = slice_get row place
node_value state row read (Reg place) = slice_get state place
node_value state row read (Buf edge) = edge_value read edge
node_value state row read (And left right) = of_both ◌&&◌ (edge_value read left) (edge_value read right)
node_value state row read (Xor left right) = of_both xor (edge_value read left) (edge_value read right)

-- the values of nodes, each within so many steps
abbrev pub within : List Node → List Bool → List Bool → ℕ → Reading
within nodes state row zero node = None
within nodes state row (suc steps) node =
    option_and_then (node_value state row (within nodes state row steps)) (slice_get nodes node)

-- The value of a node, within as many steps as there are nodes. It has none where these do not suffice: where it reads
-- itself, or a node that does.
abbrev pub node_value_of : Net → List Bool → List Bool → Reading
node_value_of net state row = within net.nodes state row (length net.nodes)

abbrev pub edge_value_of : Net → List Bool → List Bool → Edge → Option Bool
edge_value_of net state row = edge_value (node_value_of net state row)
