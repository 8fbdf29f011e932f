-- The edges of the names of one instance.
use Rattle.std.specs.Prelude.{⊤, ℕ, ◌+◌, ◌≤◌, Option, None, Some, length}
use Rattle.bm_base.specs.Size.{limit_of}
use Rattle.bm_base.specs.declared.size.Size.TheVariants.{Nodes}
use Rattle.lowering.specs.declared.scope.Wire.{Wire}
use Rattle.lowering.specs.declared.scope.Wire.TheVariants as wire
use Rattle.numbering.specs.declared.place.Place.{Place}
use Rattle.numbering.specs.declared.place.Place.TheVariants as place
use Rattle.flat_net.specs.declared.edge.Edge.{Edge}
use Rattle.flat_net.specs.Edges.{plain, zero_edge}
use Rattle.lowering.specs.Expressions.{Wires}
use Rattle.vlog_tree.specs.Meaning.Lefts.{bit_of, number_in}
use Rattle.numbering.specs.Places.{IsApart, Placing, placed_driven, placed_inputs, placed_registers}

-- where the bits of a module stand, the bits of the instances before, and the counts of the inputs and of all registers
pub record Framed : Type 0 where
  pub placing : Placing
  pub first_register : ℕ
  pub first_driven : ℕ
  pub inputs : ℕ
  pub registers : ℕ

abbrev pub framed : Placing → ℕ → ℕ → ℕ → ℕ → Framed
framed places first_register first_driven inputs registers = record {
  placing = places;
  first_register = first_register;
  first_driven = first_driven;
  inputs = inputs;
  registers = registers;
}

-- All bits of the instance stand within the limit on nodes, and none of its names is both a register and an input.
pub record AreInside (it : Framed) : Type 0 where
  pub apart : IsApart it.placing.definition
  pub inputs_inside : 1 + length (placed_inputs it.placing) ≤ limit_of Nodes
  pub registers_inside : 1 + it.inputs + it.first_register + length (placed_registers it.placing) ≤ limit_of Nodes
  pub driven_inside : 1 + it.inputs + it.registers + it.first_driven + length (placed_driven it.placing) ≤ limit_of Nodes

-- The place is far below the greatest number.
abbrev pub IsSmall : Place → Type 0
IsSmall place.Clock = ⊤
IsSmall (place.Input first) = first ≤ limit_of Nodes
IsSmall (place.Register first) = first ≤ limit_of Nodes
IsSmall (place.Driven first) = first ≤ limit_of Nodes

abbrev pub wire_of : Framed → Place → Wire
wire_of it place.Clock = wire.Zero
wire_of it (place.Input first) = wire.From (1 + first)
wire_of it (place.Register first) = wire.From (1 + it.inputs + it.first_register + first)
wire_of it (place.Driven first) = wire.From (1 + it.inputs + it.registers + it.first_driven + first)

-- the edge of a bit by its numbers among the inputs, the registers and the driven bits
abbrev pub edge_by : Framed → Option ℕ → Option ℕ → Option ℕ → Edge
edge_by it (Some input) register driven = plain (1 + input)
edge_by it None (Some register) driven = plain (1 + it.inputs + (it.first_register + register))
edge_by it None None (Some driven) = plain (1 + it.inputs + it.registers + (it.first_driven + driven))
edge_by it None None None = zero_edge

abbrev pub wires_of : Framed → Wires
wires_of it name bit =
    edge_by it (number_in (placed_inputs it.placing) (bit_of name bit))
    (number_in (placed_registers it.placing) (bit_of name bit))
    (number_in (placed_driven it.placing) (bit_of name bit))
