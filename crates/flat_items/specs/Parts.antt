-- The parts of items.
use Rattle.std.specs.Prelude.{ℕ, List, map}
use Rattle.std.specs.List.{range_with_len}
use Rattle.flat_net.specs.declared.edge.Edge.{Edge}
use Rattle.lowering.specs.Expressions.{Wires, expression, only}
use Rattle.lowering.specs.Lowered.{Lowered, Lowering, in_turn, lowered, nodes_of}
use Rattle.vlog_tree.specs.declared.design.Module.{Module}
use Rattle.vlog_tree.specs.declared.expr.Expr.{Expr}
use Rattle.vlog_tree.specs.Meaning.Keys.{bit_count}
use Rattle.vlog_tree.specs.Meaning.Uses.{Text}

-- the inputs of a gate one after another, each evaluated at one bit
abbrev pub inputs_in_turn : Module → Wires → List Expr → ℕ → List Lowered
inputs_in_turn m wires ins = in_turn (map (λ input. expression m wires input 1) ins)

-- and their edges
abbrev pub inputs_of : Module → Wires → List Expr → Lowering
inputs_of m wires ins next =
    lowered (nodes_of (inputs_in_turn m wires ins next)) (map (λ input. only input.edges) (inputs_in_turn m wires ins next))

-- the edges of the bits of a name
abbrev pub name_edges : Module → Wires → Text → List Edge
name_edges m wires name = map (wires name) (range_with_len 0 (bit_count m name))
