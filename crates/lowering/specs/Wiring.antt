-- Where the bits of a name stand among the nodes.
use Rattle.std.specs.Prelude.{⊤, ℕ, ◌+◌, ◌≤◌, List, [], Option, Some, None}
use Rattle.bm_base.specs.declared.size.Size.TheVariants.{Nodes}
use Rattle.bm_base.specs.Size.{limit_of}
use Rattle.flat_net.specs.declared.edge.Edge.{Edge}
use Rattle.flat_net.specs.Edges.{plain, zero_edge}
use Rattle.vlog_tree.specs.Meaning.Ranges.{Bits}
use Rattle.lowering.specs.declared.scope.Wire.{Wire}
use Rattle.lowering.specs.declared.scope.Wire.TheVariants.{From, Zero}
use Rattle.lowering.specs.Expressions.{Wires, wired}

-- the edge of a bit
abbrev pub edge_in : Wire → ℕ → Edge
edge_in Zero bit = zero_edge
edge_in (From first) bit = plain (first + bit)

-- So many bits stand within the limit on nodes.
abbrev pub IsWithin : Wire → ℕ → Type 0
IsWithin Zero count = ⊤
IsWithin (From first) count = first + count ≤ limit_of Nodes

-- the edges of bits, and none where there are none
abbrev pub edges_of : Wires → Option Bits → List Edge
edges_of wires (Some bits) = wired wires bits
edges_of wires None = []
