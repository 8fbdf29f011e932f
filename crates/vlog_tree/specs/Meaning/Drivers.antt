-- What drives a bit of a module: continuous assignments, gates and the output ports of instances (IEEE 1364-2005,
-- clauses 6.1, 7.1 and 12.3.9.2).
use Rattle.std.specs.Prelude.{ℕ, List, Option, filter, filter_map, flat_map, length, option_and_then, option_map}
use Rattle.std.specs.Option.{option_to_list}
use Rattle.vlog_tree.specs.declared.design.Design.{Design}
use Rattle.vlog_tree.specs.declared.design.Module.{Module}
use Rattle.vlog_tree.specs.declared.expr.Expr.{Expr}
use Rattle.vlog_tree.specs.declared.item.GateKind.{GateKind}
use Rattle.vlog_tree.specs.declared.item.Item.{Item}
use Rattle.vlog_tree.specs.declared.item.Item.TheVariants.{Assign, Gate}
use Rattle.vlog_tree.specs.declared.left.Left.{Left}
use Rattle.vlog_tree.specs.Meaning.Instances.{Child, Connection, child_of, connections}
use Rattle.vlog_tree.specs.Meaning.Lefts.{Bit, left_bits, number_in, target_bits}
use Rattle.vlog_tree.specs.Meaning.Names.{is_output}
use Rattle.vlog_tree.specs.Meaning.Uses.{Text}

-- what gives a bit its value
pub data Driver : Type 0 where
  -- an expression that is assigned to so many bits: its bit with this number
  expression : Expr → ℕ → ℕ → Driver
  -- a gate, by its inputs
  gate : GateKind → List Expr → Driver
  -- an output port of a child: its bit with this number
  port : Child → Text → ℕ → Driver

abbrev pub assign_driver : Module → Bit → Left → Expr → Option Driver
assign_driver m bit left right =
    option_map (expression right (length (left_bits m left))) (number_in (left_bits m left) bit)

abbrev pub gate_driver : Module → Bit → GateKind → List Expr → Left → Option Driver
gate_driver m bit kind ins out = option_map (λ number. gate kind ins) (number_in (left_bits m out) bit)

abbrev pub port_driver : Module → Bit → Child → Connection → Option Driver
port_driver m bit child connection =
    option_and_then (λ bits. option_map (port child connection.port) (number_in bits bit))
    (target_bits m connection.expression)

-- the connections to output ports
abbrev pub outputs_of : Child → List Connection
outputs_of child = filter (λ connection. is_output child.definition connection.port) (connections child)

abbrev pub child_drivers : Module → Bit → Child → List Driver
child_drivers m bit child = filter_map (port_driver m bit child) (outputs_of child)

-- what an item does to drive a bit
abbrev pub item_drivers : Design → Module → Bit → Item → List Driver
item_drivers design m bit (Assign at left right) = option_to_list (assign_driver m bit left right)
item_drivers design m bit (Gate at kind name outs ins) = filter_map (gate_driver m bit kind ins) outs
item_drivers design m bit other = flat_map (child_drivers m bit) (option_to_list (child_of design other))

-- all that drives a bit of a module, in source order
abbrev pub drivers : Design → Module → Bit → List Driver
drivers design m bit = flat_map (item_drivers design m bit) m.items
