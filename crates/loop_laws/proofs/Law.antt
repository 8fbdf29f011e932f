-- A design is loop-free exactly where no node of its flat netlist reads itself.
use Rattle.std.proofs.Common.{◌≡◌, ℕ, zero, suc, ◌<◌, List, Bool, true, false, Option, Some, None, refl, sym, ◌∙◌, ap, subst, arith, is_some, length, map, option_map, slice_get, slice_index_or}
use Rattle.std.specs.Bool.{xor}
use Rattle.std.specs.Option.{IsSome}
use Rattle.std.proofs.lemmas.Bool.{false≢true}
use Rattle.std.proofs.lemmas.List.{length-map}
use Rattle.std.proofs.lemmas.Option.{get_or_from_slice_get, none-some, slice_get-get_or, slice_get_within}
use Rattle.flat_net.specs.declared.edge.Edge.{Edge}
use Rattle.flat_net.specs.Values.{edge_value_of, node_value_of}
use Rattle.flat_net.proofs.Rounds.{place_by_test}
use Rattle.lowering.specs.Meaning.{IsAbove, IsBelow}
use Rattle.lowering.proofs.RelationLemmas.{above_kept, below_kept}
use Rattle.vlog_tree.specs.declared.key.Key.{Key}
use Rattle.vlog_tree.specs.Meaning.Keys.{all_keys, input_keys, is_key, register_keys, same_key}
use Rattle.vlog_tree.specs.Meaning.Setting.{Setting}
use Rattle.vlog_tree.specs.Meaning.Step.{next, power_up_bit}
use Rattle.vlog_tree.specs.Meaning.Value.{IsLoopFree, value}
use Rattle.numbering.specs.Numbering.{edge_of, key_at}
use Rattle.design_laws.proofs.Members.{any_by}
use Rattle.net_loops.proofs.LoopLemmas.{loop, none}
use Rattle.flat_design.specs.Flat.{flat}
use Rattle.flat_design.specs.Means.{MeansDrives}
use Rattle.flat_design.specs.Next.{HasNext}
use Rattle.flat_design.specs.Values.{HasValues}
use Rattle.flat_design.proofs.MeansLemmas.{drives_mean, ports_mean}
use Rattle.flat_design.proofs.NetLemmas.{flat_is_net}
use Rattle.flat_design.proofs.NextLemmas.{flat_has_next}
use Rattle.flat_design.proofs.StandBits.{IsBitOf, bit_is_key, key_is_bit, node_is_bit}
use Rattle.flat_design.proofs.StandLists.{key_itself, keys_equal}
use Rattle.flat_design.proofs.StandValues.{bit_value, flat_has_values}
use Rattle.flat_design.proofs.Stands.{IsClocked}
use Rattle.loop_laws.specs.Loops.{IsClockedDesign, IsFreeOfLoops, LoopsAreOfNodes}
use Rattle.loop_laws.proofs.Nodes.{Stands, edge_within, least_key, some_key}

means : MeansDrives
means = record {
  drives_up = drives_mean IsBelow below_kept;
  drives_down = drives_mean IsAbove above_kept;
  ports_up = ports_mean IsBelow below_kept;
  ports_down = ports_mean IsAbove above_kept;
}

-- ---- values that are there

there : (found : Option Bool) → (found ≡ None → ⊥) → IsSome found
there None none = absurd (none refl)
there (Some value) none = refl

value_of : (found : Option Bool) → IsSome found → (value : Bool) × (found ≡ Some value)
value_of None is = absurd (false≢true is)
value_of (Some value) is = (value, refl)

edge_there : (edge : Edge) (found : Option Bool) → IsSome found → IsSome (option_map (xor edge.neg) found)
edge_there edge None is = absurd (false≢true is)
edge_there edge (Some value) is = refl

module _ (setting : Setting) where
  -- ---- without loops

  module _ (few : length (flat setting).nodes < 4294967296) (no_loops : IsFreeOfLoops setting)
      (state row : List Bool) (states : length state ≡ length (register_keys setting))
      (rows : length row ≡ length (input_keys setting)) where
    node_there : (node : ℕ) → node < length (flat setting).nodes → IsSome (node_value_of (flat setting) state row node)
    node_there node within =
        there (node_value_of (flat setting) state row node) (λ gone.
        let found = loop (flat setting) (flat_is_net setting few) state row
        (states ∙ sym (length-map (register_keys setting) (power_up_bit setting))) rows node within gone in
        no_loops found.0 found.1)

    value_there : (edge : Edge) → edge.node < length (flat setting).nodes → IsSome (edge_value_of (flat setting) state row edge)
    value_there edge within = edge_there edge (node_value_of (flat setting) state row edge.node) (node_there edge.node within)

    next_there : (place : ℕ) (edge : Edge) → slice_get (flat setting).next place ≡ Some edge
        → IsSome (edge_value_of (flat setting) state row edge)
    next_there place edge at =
        value_there edge
        (subst (λ (one : Edge). one.node < length (flat setting).nodes) (get_or_from_slice_get (flat setting).next place edge edge at)
        ((flat_is_net setting few).next_within place edge (slice_get_within (flat setting).next place edge at)))

  -- ---- in a loop-free design

  -- Each key has a value.
  known_there : IsLoopFree setting → (state row : List Bool) → length state ≡ length (register_keys setting)
      → length row ≡ length (input_keys setting) → (key : Key) → is_key setting key ≡ true → IsSome (value setting state row key)
  known_there free state row states rows key known =
      let place = place_by_test same_key keys_equal (all_keys setting) key known in
      subst (λ key. IsSome (value setting state row key)) (get_or_from_slice_get (all_keys setting) place.0 key key place.1)
      (free state row states rows place.0 key (slice_get_within (all_keys setting) place.0 key place.1))

  -- ---- the bits of the design

  module _ (is : IsClockedDesign setting) where
    clocked : IsClocked setting
    clocked = record { m = is.top; top = is.is_top; apart = is.apart; clock = is.clock }

    key_known : (key : Key) → IsBitOf setting key → is_key setting key ≡ true
    key_known key one =
        ap (is_key setting) one.named
        ∙ bit_is_key setting one.i one.instance (record { distinct = is.sound.distinct; there = one.there }) one.bit one.within

    node_bit : (node : ℕ) (key : Key) → key_at setting node ≡ Some key → IsBitOf setting key
    node_bit zero key at = absurd (none-some key at)
    node_bit (suc place) key at = node_is_bit setting is.top is.is_top place key at

    no_node : IsLoopFree setting → (found : Stands setting) → ⊥
    no_node free found =
        let state : List Bool = map (λ key. false) (register_keys setting) in
        let row : List Bool = map (λ key. false) (input_keys setting) in
        let states : length state ≡ length (register_keys setting) = length-map (register_keys setting) (λ key. false) in
        let rows : length row ≡ length (input_keys setting) = length-map (input_keys setting) (λ key. false) in
        let values : HasValues setting (flat setting) =
        flat_has_values means setting is.sound is.grammar is.top is.is_top is.apart is.clock in
        let gone : value setting state row found.key ≡ None =
        sym (values.values state row states rows found.node found.key found.at)
        ∙ none (flat setting).nodes state row (length (flat setting).nodes) found.node found.loop.0 found.loop.1 in
        let known : IsSome (value setting state row found.key) =
        known_there free state row states rows found.key (key_known found.key (node_bit found.node found.key found.at)) in
        false≢true (sym (ap is_some gone) ∙ known)

    free_of_loops : IsLoopFree setting → IsFreeOfLoops setting
    free_of_loops free node loops = no_node free (some_key setting (suc node) node (omega arith) loops)

    -- Where no node reads itself, each key has a value.
    all_there : length (flat setting).nodes < 4294967296 → IsFreeOfLoops setting → IsLoopFree setting
    all_there few no_loops state row states rows place other within =
        let key : Key = slice_index_or (all_keys setting) place other in
        let known : is_key setting key ≡ true =
        any_by (same_key key) (all_keys setting) key (place, slice_get-get_or (all_keys setting) place other within) (key_itself key) in
        subst (λ found. IsSome found)
        (sym (bit_value means setting is.sound is.grammar clocked state row (record { state_count = states; row_count = rows }) key
        (key_is_bit setting key known)))
        (value_there few no_loops state row states rows (edge_of setting key) (edge_within setting key))

    -- The next edges have the bits of the next state.
    steps_to : length (flat setting).nodes < 4294967296 → IsLoopFree setting → (state row : List Bool)
        → length state ≡ length (register_keys setting) → length row ≡ length (input_keys setting)
        → (place : ℕ) (edge : Edge) → slice_get (flat setting).next place ≡ Some edge
        → edge_value_of (flat setting) state row edge ≡ slice_get (next setting state row) place
    steps_to few free state row states rows place edge at =
        let bit = value_of (edge_value_of (flat setting) state row edge)
        (next_there few (free_of_loops free) state row states rows place edge at) in
        let after : HasNext setting (flat setting) =
        flat_has_next means setting is.sound is.grammar is.top is.is_top is.apart is.clock in
        bit.1 ∙ sym (after.next state row states rows (known_there free state row states rows) place edge at bit.0 bit.1)

pub loops_are : LoopsAreOfNodes
loops_are = record {
  free = free_of_loops;
  loops = all_there;
  least = least_key;
  valued = node_there;
  next = next_there;
  known = known_there;
  steps = steps_to;
}
