-- The flat netlist of a design.
use Rattle.std.specs.Prelude.{List, [], ◌∷◌, ◌++◌, cond, flat_map, length, map}
use Rattle.flat_net.specs.declared.edge.Edge.{Edge}
use Rattle.flat_net.specs.declared.node.Node.{Node}
use Rattle.flat_net.specs.declared.node.Node.TheVariants.{Buf}
use Rattle.flat_net.specs.Edges.{zero_edge}
use Rattle.flat_net.specs.Nets.{Net, sources}
use Rattle.vlog_tree.specs.declared.key.Key.{Key}
use Rattle.vlog_tree.specs.Meaning.Instances.{Instance, instances}
use Rattle.vlog_tree.specs.Meaning.Keys.{input_keys, register_keys, same_key}
use Rattle.vlog_tree.specs.Meaning.Lefts.{Bit}
use Rattle.vlog_tree.specs.Meaning.Names.{is_input}
use Rattle.vlog_tree.specs.Meaning.Setting.{Setting}
use Rattle.vlog_tree.specs.Meaning.Step.{check_key, power_up}
use Rattle.vlog_tree.specs.Meaning.Uses.{Text}
use Rattle.flat_design.specs.Instances.{Whole, whole_from}
use Rattle.flat_design.specs.Items.{Drive}
use Rattle.numbering.specs.Bits.{driven_bits}
use Rattle.numbering.specs.Numbering.{edge_of, first_of_expressions, is_top, key_in}

-- the edge that a bit is given first, and zero where it is given none
abbrev pub given_to : List Drive → Key → Edge
given_to [] key = zero_edge
given_to (drive ∷ others) key = cond (same_key drive.0 key) drive.1 (given_to others key)

-- what gives the bits of a name their values: what is connected, where it is an input port, else what drives it
abbrev pub drives_of : Whole → Instance → Text → List Drive
drives_of whole instance name = cond (is_input instance.definition name) whole.ports whole.drives

-- the node of a bit that is driven
abbrev pub driven_node : Whole → Instance → Bit → Node
driven_node whole instance bit = Buf (given_to (drives_of whole instance bit.name) (key_in instance.path bit))

abbrev pub driven_nodes_in : Whole → Instance → List Node
driven_nodes_in whole instance = map (driven_node whole instance) (driven_bits (is_top instance) instance.definition)

abbrev pub driven_nodes : Setting → Whole → List Node
driven_nodes setting whole = flat_map (driven_nodes_in whole) (instances setting)

-- what the items of all instances give
abbrev pub whole_of : Setting → Whole
whole_of setting = whole_from setting (first_of_expressions setting) (instances setting)

abbrev pub flat : Setting → Net
flat setting = record {
  nodes = sources (length (input_keys setting)) (length (register_keys setting))
      ++ (driven_nodes setting (whole_of setting) ++ (whole_of setting).nodes);
  next = (whole_of setting).next;
  bad = edge_of setting (check_key setting);
  inputs = length (input_keys setting);
  power_up = power_up setting;
}
