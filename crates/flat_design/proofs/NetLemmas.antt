-- The flat netlist of a design is a net.
use Rattle.std.specs.Prelude.{ℕ, ◌+◌, ◌<◌, ◌≤◌, List, [], ◌∷◌, ◌++◌, Bool, true, false, Option, None, Some, cond, flat_map, length, map, option_map, position, unwrap_or}
use Rattle.std.proofs.Common.{◌≡◌, refl, ap, arith, sym, ◌∙◌}
use Rattle.std.proofs.lemmas.List.{length-append, length-map}
use Rattle.std.proofs.lemmas.List.Quantifiers.{position-Some}
use Rattle.flat_net.specs.declared.edge.Edge.{Edge}
use Rattle.flat_net.specs.declared.node.Node.{Node}
use Rattle.flat_net.specs.Edges.{plain, zero_edge}
use Rattle.flat_net.specs.Nets.{IsInner, IsWithin, sources}
use Rattle.vlog_tree.specs.declared.key.Key.{Key}
use Rattle.vlog_tree.specs.Meaning.Instances.{Instance, Path, instances}
use Rattle.vlog_tree.specs.Meaning.Keys.{input_keys, key_of, register_keys, same_key}
use Rattle.vlog_tree.specs.Meaning.Lefts.{Bit}
use Rattle.vlog_tree.specs.Meaning.Names.{is_input}
use Rattle.vlog_tree.specs.Meaning.Setting.{Setting}
use Rattle.vlog_tree.specs.Meaning.Step.{check_key, power_up, power_up_bit}
use Rattle.vlog_tree.specs.Meaning.Uses.{Text}
use Rattle.numbering.specs.Bits.{driven_bits, register_bits}
use Rattle.numbering.specs.Numbering.{driven_keys, edge_of, first_of_expressions, is_top, key_in, keyed, keys_with_nodes, wires_in}
use Rattle.numbering.proofs.NumberEdgeLemmas.{numbers_bits}
use Rattle.numbering.proofs.NumberKeyLemmas.{key_count, keys_in}
use Rattle.flat_design.specs.Flat.{driven_node, driven_nodes, driven_nodes_in, drives_of, flat, given_to, whole_of}
use Rattle.flat_design.specs.Instances.{Whole, instance_given, own_edges, whole_from}
use Rattle.flat_design.specs.Items.{Drive, Given}
use Rattle.flat_design.specs.Net.{FlatIsNet}
use Rattle.flat_design.proofs.InsideItems.{AreDrivesWithin, GivesWithin, items_inside}
use Rattle.flat_design.proofs.InsideLists.{all_of_each, each-append, each-flat, each-map}
use Rattle.flat_design.proofs.InsideLowered.{AreInner, AreWithin, HasRoom, room_first, room_rest}
use Rattle.flat_design.proofs.StandNodes.{driven_count, source_count}

-- ---- counts

-- The nodes of expressions stand last.
node_count : (setting : Setting) → length (flat setting).nodes ≡ first_of_expressions setting + length (whole_of setting).nodes
node_count setting =
    let whole : Whole = whole_of setting in
    let first : List Node = sources (length (input_keys setting)) (length (register_keys setting)) in
    let driven : List Node = driven_nodes setting whole in
    let all : length (first ++ (driven ++ whole.nodes)) ≡ length first + length (driven ++ whole.nodes) =
    length-append first (driven ++ whole.nodes) in
    let rest : length (driven ++ whole.nodes) ≡ length driven + length whole.nodes = length-append driven whole.nodes in
    let count : length first ≡ 1 + length (input_keys setting) + length (register_keys setting) =
    source_count (length (input_keys setting)) (length (register_keys setting)) in
    let bits : length driven ≡ length (driven_keys setting) = driven_count setting whole in
    let keys : length (input_keys setting ++ (register_keys setting ++ driven_keys setting))
    ≡ length (input_keys setting) + length (register_keys setting ++ driven_keys setting) =
    length-append (input_keys setting) (register_keys setting ++ driven_keys setting) in
    let others : length (register_keys setting ++ driven_keys setting) ≡ length (register_keys setting) + length (driven_keys setting) =
    length-append (register_keys setting) (driven_keys setting) in
    omega (arith, all, rest, count, bits, keys, others)

abbrev registers_in : Instance → List Bit
registers_in instance = register_bits instance.definition

next_from : (setting : Setting) (list : List Instance) (next : ℕ)
    → length (whole_from setting next list).next ≡ length (flat_map (keys_in registers_in) list)
next_from setting [] next = refl
next_from setting (instance ∷ others) next =
    let one : Given = instance_given setting instance next in
    let bits : List Bit = register_bits instance.definition in
    let rest : Whole = whole_from setting (next + length one.nodes) others in
    let left : length (map one.registers bits ++ rest.next) ≡ length (map one.registers bits) + length rest.next =
    length-append (map one.registers bits) rest.next in
    let right : length (keyed instance.path bits ++ flat_map (keys_in registers_in) others)
    ≡ length (keyed instance.path bits) + length (flat_map (keys_in registers_in) others) =
    length-append (keyed instance.path bits) (flat_map (keys_in registers_in) others) in
    let edges : length (map one.registers bits) ≡ length bits = length-map bits one.registers in
    let keys : length (keyed instance.path bits) ≡ length bits = length-map bits (key_in instance.path) in
    let after : length rest.next ≡ length (flat_map (keys_in registers_in) others) =
    next_from setting others (next + length one.nodes) in
    omega (arith, left, right, edges, keys, after)

power_count : (setting : Setting) → length (power_up setting) ≡ length (register_keys setting)
power_count setting = length-map (register_keys setting) (power_up_bit setting)

registers_next : (setting : Setting) → length (whole_of setting).next ≡ length (power_up setting)
registers_next setting =
    next_from setting (instances setting) (first_of_expressions setting)
    ∙ key_count registers_in (instances setting)
    ∙ sym (numbers_bits.register_count setting)
    ∙ sym (power_count setting)

-- ---- edges

module _ (setting : Setting) (bound : ℕ) (bits_within : first_of_expressions setting ≤ bound) where
  positive : 0 < bound
  positive = omega (arith, bits_within)

  edge_at : (key : Key) (found : Option ℕ) → position (same_key key) (keys_with_nodes setting) ≡ found
      → IsWithin bound (unwrap_or (option_map (λ place. plain (1 + place)) found) zero_edge)
  edge_at key None at = positive
  edge_at key (Some place) at =
      let inside : place < length (keys_with_nodes setting) =
      (position-Some (same_key key) (keys_with_nodes setting) place key at).0 in
      omega (arith, inside, bits_within)

  edge_within : (key : Key) → IsWithin bound (edge_of setting key)
  edge_within key = edge_at key (position (same_key key) (keys_with_nodes setting)) refl

  named : (path : Path) (name : Text) (bit : ℕ) → IsWithin bound (wires_in setting path name bit)
  named path name bit = edge_within (key_of path name bit)

  -- ---- what all instances give

  record IsWholeWithin (whole : Whole) : Type 0 where
    nodes : AreInner bound whole.nodes
    drives : AreDrivesWithin bound positive whole.drives
    ports : AreDrivesWithin bound positive whole.ports
    next : AreWithin bound whole.next

  whole_inside : (list : List Instance) (next : ℕ) → HasRoom bound next (whole_from setting next list).nodes
      → IsWholeWithin (whole_from setting next list)
  whole_inside [] next room = record { nodes = tt; drives = tt; ports = tt; next = tt }
  whole_inside (instance ∷ others) next room =
      let one : Given = instance_given setting instance next in
      let rest : Whole = whole_from setting (next + length one.nodes) others in
      let here : GivesWithin bound positive one =
      items_inside bound positive setting named instance instance.definition.items (own_edges setting instance)
      (λ bit. named instance.path bit.name bit.place) next (room_first bound next one.nodes rest.nodes room) in
      let there : IsWholeWithin rest =
      whole_inside others (next + length one.nodes) (room_rest bound next one.nodes rest.nodes room) in
      record {
        nodes = each-append (IsInner bound) one.nodes rest.nodes here.nodes there.nodes;
        drives = each-append (λ (drive : Drive). IsWithin bound drive.1) one.drives rest.drives here.drives there.drives;
        ports = each-append (λ (drive : Drive). IsWithin bound drive.1) one.ports rest.ports here.ports there.ports;
        next =
            each-append (IsWithin bound) (map one.registers (register_bits instance.definition)) rest.next
            (each-map (IsWithin bound) one.registers here.registers (register_bits instance.definition)) there.next;
      }

  -- ---- driven bits

  either_within : (b : Bool) (left right : Edge) → IsWithin bound left → IsWithin bound right → IsWithin bound (cond b left right)
  either_within true left right h k = h
  either_within false left right h k = k

  given_within : (drives : List Drive) → AreDrivesWithin bound positive drives → (key : Key) → IsWithin bound (given_to drives key)
  given_within [] h key = positive
  given_within (drive ∷ others) h key =
      either_within (same_key drive.0 key) drive.1 (given_to others key) h.0 (given_within others h.1 key)

  drives_within : (whole : Whole) → IsWholeWithin whole → (b : Bool)
      → AreDrivesWithin bound positive (cond b whole.ports whole.drives)
  drives_within whole h true = h.ports
  drives_within whole h false = h.drives

  driven_inside : (whole : Whole) → IsWholeWithin whole → AreInner bound (driven_nodes setting whole)
  driven_inside whole h =
      each-flat (IsInner bound) (driven_nodes_in whole)
      (λ instance. each-map (IsInner bound) (driven_node whole instance)
      (λ bit. given_within (drives_of whole instance bit.name) (drives_within whole h (is_input instance.definition bit.name))
      (key_in instance.path bit))
      (driven_bits (is_top instance) instance.definition))
      (instances setting)

-- ---- the net

pub flat_is_net : FlatIsNet
flat_is_net setting few =
    let bound : ℕ = length (flat setting).nodes in
    let whole : Whole = whole_of setting in
    let count : bound ≡ first_of_expressions setting + length whole.nodes = node_count setting in
    let bits_within : first_of_expressions setting ≤ bound = omega (arith, count) in
    let within : IsWholeWithin setting bound bits_within whole =
    whole_inside setting bound bits_within (instances setting) (first_of_expressions setting) (omega (arith, count)) in
    record {
      inner = driven_nodes setting whole ++ whole.nodes;
      nodes =
          ap (λ registers. sources (length (input_keys setting)) registers ++ (driven_nodes setting whole ++ whole.nodes))
          (sym (power_count setting));
      inner_within =
          all_of_each (IsInner bound) (driven_nodes setting whole ++ whole.nodes)
          (each-append (IsInner bound) (driven_nodes setting whole) whole.nodes (driven_inside setting bound bits_within whole within)
          within.nodes);
      next_count = registers_next setting;
      next_within = all_of_each (IsWithin bound) whole.next within.next;
      bad_within = edge_within setting bound bits_within (check_key setting);
      few = few;
    }
