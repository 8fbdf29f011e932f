-- Edges: a node, or its negation.
use Rattle.std.specs.Prelude.{ℕ, Bool, true, false, not}
use Rattle.flat_net.specs.declared.edge.Edge.{Edge}

-- the edge that has a node's value
abbrev pub plain : ℕ → Edge
plain node = record { node = node; neg = false }

abbrev pub negated : Edge → Edge
negated edge = record { node = edge.node; neg = not edge.neg }

-- Node 0 is `Zero`: the edge zero is node 0, the edge one its negation.
abbrev pub zero_edge : Edge
zero_edge = plain 0

abbrev pub one_edge : Edge
one_edge = record { node = 0; neg = true }

abbrev pub constant : Bool → Edge
constant value = record { node = 0; neg = value }
