-- The nodes of a flat netlist, by what all instances give.
use Rattle.std.proofs.Common.{◌≡◌, ◌+◌, List, [], ◌∷◌, ◌++◌, arith, flat_map, length, map, refl, ◌∙◌}
use Rattle.std.proofs.lemmas.List.{length-append, map-append}
use Rattle.drives.specs.Given.{given_bit, given_in, given_so_far}
use Rattle.drives.proofs.GivenLemmas.{given_is}
use Rattle.flat_design.specs.Flat.{driven_node, driven_nodes, driven_nodes_in, drives_of, flat, whole_of}
use Rattle.flat_design.specs.Instances.{Whole}
use Rattle.flat_design.proofs.StandNodes.{driven_count, source_count}
use Rattle.flat_net.specs.declared.node.Node.{Node}
use Rattle.flat_net.specs.declared.node.Node.TheVariants.{Buf}
use Rattle.flat_net.specs.Nets.{sources}
use Rattle.numbering.specs.Bits.{driven_bits}
use Rattle.numbering.specs.Numbering.{driven_keys, first_of_expressions, is_top, key_in}
use Rattle.vlog_tree.specs.Meaning.Instances.{Instance, instances}
use Rattle.vlog_tree.specs.Meaning.Keys.{input_keys, register_keys}
use Rattle.vlog_tree.specs.Meaning.Lefts.{Bit}
use Rattle.vlog_tree.specs.Meaning.Setting.{Setting}
use Rattle.flatten.specs.Gathered.{node_given}

-- ---- driven bits

module _ (whole : Whole) where
  own_nodes : (instance : Instance) (bits : List Bit)
      → map node_given (map (given_bit whole.drives whole.ports instance) bits) ≡ map (driven_node whole instance) bits
  own_nodes instance [] = refl
  own_nodes instance (bit ∷ bits) = λ j.
      Buf (given_is (drives_of whole instance bit.name) (key_in instance.path bit) j) ∷ own_nodes instance bits j

  nodes_are : (list : List Instance)
      → map node_given (flat_map (given_in whole.drives whole.ports) list) ≡ flat_map (driven_nodes_in whole) list
  nodes_are [] = refl
  nodes_are (instance ∷ list) =
      map-append node_given (given_in whole.drives whole.ports instance) (flat_map (given_in whole.drives whole.ports) list)
      ∙ (λ j. own_nodes instance (driven_bits (is_top instance) instance.definition) j ++ nodes_are list j)

  pub driven_are : (setting : Setting)
      → map node_given (given_so_far setting whole.drives whole.ports) ≡ driven_nodes setting whole
  driven_are setting = nodes_are (instances setting)

-- ---- counts

-- The nodes of expressions stand last.
pub node_count : (setting : Setting)
    → length (flat setting).nodes ≡ first_of_expressions setting + length (whole_of setting).nodes
node_count setting =
    let whole : Whole = whole_of setting in
    let first : List Node = sources (length (input_keys setting)) (length (register_keys setting)) in
    let driven : List Node = driven_nodes setting whole in
    let all : length (first ++ (driven ++ whole.nodes)) ≡ length first + length (driven ++ whole.nodes) =
    length-append first (driven ++ whole.nodes) in
    let rest : length (driven ++ whole.nodes) ≡ length driven + length whole.nodes = length-append driven whole.nodes in
    let count : length first ≡ 1 + length (input_keys setting) + length (register_keys setting) =
    source_count (length (input_keys setting)) (length (register_keys setting)) in
    let bits : length driven ≡ length (driven_keys setting) = driven_count setting whole in
    let keys : length (input_keys setting ++ (register_keys setting ++ driven_keys setting))
    ≡ length (input_keys setting) + length (register_keys setting ++ driven_keys setting) =
    length-append (input_keys setting) (register_keys setting ++ driven_keys setting) in
    let others : length (register_keys setting ++ driven_keys setting) ≡ length (register_keys setting) + length (driven_keys setting) =
    length-append (register_keys setting) (driven_keys setting) in
    omega (arith, all, rest, count, bits, keys, others)
