-- What stands for bits in a flat netlist: nodes that are added to it, and an edge for each bit.
use Rattle.std.specs.Prelude.{ℕ, ◌+◌, ◌-◌, List, [], ◌∷◌, ◌++◌, flat_map, length, map, replicate}
use Rattle.std.specs.List.{range_with_len}
use Rattle.flat_net.specs.declared.edge.Edge.{Edge}
use Rattle.flat_net.specs.declared.node.Node.{Node}
use Rattle.flat_net.specs.Edges.{negated, plain, zero_edge}

pub record Lowered : Type 0 where
  -- the nodes that are added, in their order
  pub nodes : List Node
  -- one for each bit, the least first
  pub edges : List Edge

abbrev pub lowered : List Node → List Edge → Lowered
lowered nodes edges = record { nodes = nodes; edges = edges }

-- by the number that the first added node has
abbrev pub Lowering : Type 0
Lowering = ℕ → Lowered

-- edges that are there already
abbrev pub given : List Edge → Lowering
given edges next = lowered [] edges

-- the edges of so many nodes in a row
abbrev pub numbered : ℕ → ℕ → List Edge
numbered next count = map plain (range_with_len next count)

-- ---- one after another

abbrev pub followed : Lowered → Lowered → Lowered
followed first rest = lowered (first.nodes ++ rest.nodes) rest.edges

-- the number of the next node after these
abbrev pub after : ℕ → Lowered → ℕ
after next first = next + length first.nodes

-- one, and then what is made of its edges
abbrev pub and_then : Lowering → (List Edge → Lowering) → Lowering
and_then first rest next = followed (first next) (rest (first next).edges (after next (first next)))

-- two, and then what is made of both
abbrev pub and_then_both : Lowering → Lowering → (List Edge → List Edge → Lowering) → Lowering
and_then_both first second rest = and_then first (λ left. and_then second (λ right. rest left right))

-- each with the nodes of those before it
abbrev pub in_turn : List Lowering → ℕ → List Lowered
in_turn [] next = []
in_turn (first ∷ others) next = first next ∷ in_turn others (after next (first next))

abbrev pub nodes_of : List Lowered → List Node
nodes_of parts = flat_map (λ part. part.nodes) parts

-- ---- what is made of edges

abbrev pub with_edges : (List Edge → List Edge) → Lowering → Lowering
with_edges change lowering next = lowered (lowering next).nodes (change (lowering next).edges)

-- each bit negated
abbrev pub inverted : Lowering → Lowering
inverted = with_edges (map negated)

-- zeros above the edges, up to a width
abbrev pub extended : ℕ → List Edge → List Edge
extended width edges = edges ++ replicate (width - length edges) zero_edge

abbrev pub widened : ℕ → Lowering → Lowering
widened width = with_edges (extended width)
