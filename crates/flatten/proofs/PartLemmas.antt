-- The parts of a flat netlist.
use Rattle.std.proofs.Common.{◌≡◌, ℕ, ◌<◌, ◌≤◌, List, ◌++◌, Bool, Option, Some, ap, arith, length, map, slice_get, subst, sym, ◌∙◌}
use Rattle.std.proofs.lemmas.Option.{slice_get_within}
use Rattle.bm_base.specs.Size.{limit_of}
use Rattle.bm_base.specs.declared.size.Size.TheVariants as size
use Rattle.flat_design.specs.Flat.{flat, whole_of}
use Rattle.flat_design.proofs.NetLemmas.{flat_is_net}
use Rattle.flat_net.specs.declared.edge.Edge.{Edge}
use Rattle.flat_net.specs.declared.node.Node.{Node}
use Rattle.flat_net.specs.Nets.{IsNet, Net, sources}
use Rattle.frames.specs.Framed.{Framed, wires_of}
use Rattle.frames.specs.Numbered.{Numbered, setting_with}
use Rattle.lowering.specs.Limits.{Added}
use Rattle.lowering.specs.Wiring.{IsWithin, edge_in}
use Rattle.lowering.specs.declared.scope.Wire.{Wire}
use Rattle.numbering.specs.Numbering.{edge_of, wires_in}
use Rattle.numbering.proofs.NumberKeyLemmas.{top_first, top_of}
use Rattle.vlog_tree.specs.declared.design.Module.{Module}
use Rattle.vlog_tree.specs.Meaning.Instances.{Instance, instances}
use Rattle.vlog_tree.specs.Meaning.Keys.{bit_count, input_keys, register_keys}
use Rattle.vlog_tree.specs.Meaning.Setting.{Setting}
use Rattle.vlog_tree.specs.Meaning.Step.{check_key, power_up}
use Rattle.vlog_tree.specs.Meaning.Uses.{Text}
use Rattle.flatten.specs.Gathered.{IsWhole, node_given}
use Rattle.flatten.specs.Ready.{IsReadyBy, setting_by}
use Rattle.flatten.proofs.NodeLemmas.{driven_are}

abbrev pub net_with : List Node → List Edge → Edge → ℕ → List Bool → Net
net_with nodes next bad inputs state = record { nodes = nodes; next = next; bad = bad; inputs = inputs; power_up = state }

module _ (it : Numbered) (check : Text) where
  abbrev setting : Setting
  setting = setting_with it

  -- ---- the net

  module _ (added : Added) (driven edges : List (Option Edge)) (next : List Edge) (whole : IsWhole setting added driven next)
      (same : edges ≡ driven) (inputs registers : ℕ) (inputs_are : inputs ≡ length (input_keys setting))
      (registers_are : registers ≡ length (register_keys setting)) (nodes : List Node)
      (nodes_are : nodes ≡ sources inputs registers ++ (map node_given edges ++ added.nodes)) where
    all_nodes : nodes ≡ (flat setting).nodes
    all_nodes =
        nodes_are
        ∙ (λ j. sources (inputs_are j) (registers_are j) ++ (map node_given ((same ∙ whole.driven) j) ++ whole.nodes j))
        ∙ ap (λ driven. sources (length (input_keys setting)) (length (register_keys setting)) ++ (driven ++ (whole_of setting).nodes))
        (driven_are (whole_of setting) setting)

    module _ (bad : Edge) (bad_is : bad ≡ edge_of setting (check_key (setting_by it check))) (state : List Bool)
        (state_is : state ≡ power_up setting) where
      pub net_is : net_with nodes next bad inputs state ≡ flat (setting_by it check)
      net_is = λ j. net_with (all_nodes j) (whole.next j) (bad_is j) (inputs_are j) (state_is j)

      pub is_net : length (flat setting).nodes ≤ limit_of size.Nodes → IsNet (net_with nodes next bad inputs state)
      is_net small = subst IsNet (sym net_is) (flat_is_net (setting_by it check) (omega (arith, small)))

  -- ---- the checker

  module _ (ready : IsReadyBy it check) where
    top_there : slice_get (instances setting) 0 ≡ Some (top_of ready.ready.top.0)
    top_there = top_first setting ready.ready.top.0 ready.ready.top.1

    pub some_instance : 0 < length (instances setting)
    some_instance = slice_get_within (instances setting) 0 (top_of ready.ready.top.0) top_there

    module _ (frame : Framed)
        (definition : (instance : Instance) → slice_get (instances setting) 0 ≡ Some instance
        → frame.placing.definition ≡ instance.definition) where
      pub one_bit : bit_count frame.placing.definition check ≡ 1
      one_bit =
          ap (λ (m : Module). bit_count m check) (definition (top_of ready.ready.top.0) top_there)
          ∙ ready.check_bit ready.ready.top.0 ready.ready.top.1

      pub bit_within : (wire : Wire) → IsWithin wire (bit_count frame.placing.definition check) → IsWithin wire 1
      bit_within wire within = subst (IsWithin wire) one_bit within

      pub check_edge : ((instance : Instance) → slice_get (instances setting) 0 ≡ Some instance → (name : Text) (bit : ℕ)
          → wires_of frame name bit ≡ wires_in setting instance.path name bit)
          → (wire : Wire)
          → ((bit : ℕ) → bit < bit_count frame.placing.definition check → wires_of frame check bit ≡ edge_in wire bit)
          → (edge : Edge) → edge ≡ edge_in wire 0 → edge ≡ edge_of setting (check_key (setting_by it check))
      check_edge wires wire edges edge is =
          let one = one_bit in
          is ∙ sym (edges 0 (omega (arith, one))) ∙ wires (top_of ready.ready.top.0) top_there check 0
