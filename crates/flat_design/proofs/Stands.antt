-- Each bit of an instance stands at a node that has what the bit has.
use Rattle.std.proofs.Common.{◌≡◌, ℕ, ◌+◌, ◌<◌, Bool, true, false, not, ◌&&◌, ◌||◌, List, [], Option, Some, None, refl, sym, ◌∙◌, ap, subst, arith, bytes_eq, cond, get_or, length, slice_get}
use Rattle.std.specs.List.{position}
use Rattle.std.specs.Option.{option_and_then, option_or}
use Rattle.std.proofs.lemmas.Bool.{false≢true}
use Rattle.std.proofs.lemmas.Option.{slice_get-get_or, slice_get_within}
use Rattle.std.proofs.lemmas.Slice.Eq.{bytes_eq-Decides}
use Rattle.flat_net.specs.Edges.{plain}
use Rattle.flat_net.specs.Values.{Reading, edge_value, node_value}
use Rattle.flat_net.specs.declared.node.Node.{Node}
use Rattle.flat_net.specs.declared.node.Node.TheVariants.{Input, Reg, Zero}
use Rattle.lowering.specs.Meaning.{Relation}
use Rattle.vlog_tree.specs.declared.design.Module.{Module}
use Rattle.vlog_tree.specs.declared.key.Key.{Key}
use Rattle.vlog_tree.specs.Meaning.Drivers.{drivers}
use Rattle.vlog_tree.specs.Meaning.Instances.{Instance, instances, module_at, top_module}
use Rattle.vlog_tree.specs.Meaning.Keys.{bit_count, input_keys, is_key, register_keys, same_key}
use Rattle.vlog_tree.specs.Meaning.Lefts.{Bit, number_in, same_bit}
use Rattle.vlog_tree.specs.Meaning.Names.{is_input, is_register}
use Rattle.vlog_tree.specs.Meaning.Setting.{Setting}
use Rattle.vlog_tree.specs.Meaning.Value.{driven_bit, entry, inner_bit, is_clock, outer_bit, value_by}
use Rattle.vlog_tree.specs.Meaning.Value as meaning
use Rattle.numbering.specs.Bits.{driven_bits, input_bits, is_driven, register_bits}
use Rattle.numbering.specs.Frames.{driven_before, registers_before}
use Rattle.numbering.specs.Numbering.{edge_of, is_top, key_in}
use Rattle.numbering.specs.Numbers.{IsPlaced}
use Rattle.numbering.specs.Places.{IsApart}
use Rattle.numbering.proofs.NumberBitLemmas.{paths_decide}
use Rattle.numbering.proofs.NumberEdgeLemmas.{numbers_bits}
use Rattle.numbering.proofs.NumberKeyLemmas.{no_input_of, only_top, top_of}
use Rattle.design_laws.specs.Sound.{IsSound}
use Rattle.flat_design.specs.Flat.{driven_node, flat, given_to, whole_of}
use Rattle.flat_design.specs.Means.{DrivesMean, IsRead, PortsMean}
use Rattle.flat_design.proofs.StandBits.{IsBitOf, among_driven, among_inputs, among_registers, bit_is_key, no_clock, no_driven, no_input, no_register}
use Rattle.flat_design.proofs.StandLists.{bits_equal, entry_at, keys_equal, placed_at}
use Rattle.flat_design.proofs.StandNodes.{driven_at, input_node, register_node, zero_node}

-- A bit stands at a node: where bits and nodes are read alike, the bit has what the node has.
pub record Stands (rel : Relation) (setting : Setting) (state row : List Bool) (reading : meaning.Reading) (read : Reading)
    (key : Key) : Type 0 where
  pub number : ℕ
  pub node : Node
  pub edge : edge_of setting key ≡ plain number
  pub there : slice_get (flat setting).nodes number ≡ Some node
  pub means : rel (value_by setting state row reading key) (node_value state row read node)

-- The clock is an input of the top, and no register is an input of it.
pub record IsClocked (setting : Setting) : Type 0 where
  pub m : Module
  pub top : top_module setting ≡ Some m
  pub apart : IsApart m
  pub clock : is_input m setting.clock ≡ true

-- a state and a row with an entry for each key
pub record HasEntries (setting : Setting) (state row : List Bool) : Type 0 where
  pub state_count : length state ≡ length (register_keys setting)
  pub row_count : length row ≡ length (input_keys setting)

entry_there : (values : List Bool) (place : ℕ) → place < length values → slice_get values place ≡ Some (get_or values place false)
entry_there values place within = slice_get-get_or values place false within

key_within : (keys : List Key) (key : Key) (place : ℕ) → position (same_key key) keys ≡ Some place → place < length keys
key_within keys key place at = slice_get_within keys place key (placed_at same_key keys_equal keys key place at)

module _ (setting : Setting) (sound : IsSound setting) (clocked : IsClocked setting)
    (state row : List Bool) (entries : HasEntries setting state row)
    (i : ℕ) (instance : Instance) (there : slice_get (instances setting) i ≡ Some instance)
    (bit : Bit) (within : bit.place < bit_count instance.definition bit.name) where
  abbrev key : Key
  key = key_in instance.path bit

  placed : IsPlaced setting i instance
  placed = record { distinct = sound.distinct; there = there }

  top_is : is_top instance ≡ true → instance ≡ top_of clocked.m
  top_is is = only_top setting clocked.m clocked.top i instance placed ((paths_decide instance.path []).0 is)

  -- ---- the value of the bit, by its entries

  abbrev inner : meaning.Reading → Option Bool
  inner reading = option_and_then (inner_bit setting reading key) (module_at setting key.path)

  value_at : (reading : meaning.Reading) (stored given : Option Bool) (clock : Bool) → entry (register_keys setting) state key ≡ stored
      → entry (input_keys setting) row key ≡ given → is_clock setting key ≡ clock
      → value_by setting state row reading key ≡ option_or stored (option_or given (cond clock (Some false) (inner reading)))
  value_at reading stored given clock one two three =
      let is : is_key setting key ≡ true = bit_is_key setting i instance placed bit within in
      λ j. cond (is j) (option_or (one j) (option_or (two j) (cond (three j) (Some false) (inner reading)))) None

  no_stored : is_register instance.definition bit.name ≡ false → entry (register_keys setting) state key ≡ None
  no_stored is =
      entry_at (register_keys setting) state key None
      (numbers_bits.no_register_place setting i instance placed bit (no_register instance.definition bit is))

  -- ---- its kinds

  module _ (rel : Relation) (self : (a : Option Bool) → rel a a) (reading : meaning.Reading) (read : Reading) where
    related : (a b : Option Bool) → a ≡ b → rel a b
    related a b e = subst (rel a) e (self a)

    stands_register : is_register instance.definition bit.name ≡ true → Stands rel setting state row reading read key
    stands_register is =
        let found : (o : ℕ) × (number_in (register_bits instance.definition) bit ≡ Some o) =
        among_registers instance.definition bit within is in
        let place : ℕ = registers_before (instances setting) i + found.0 in
        let at : position (same_key key) (register_keys setting) ≡ Some place =
        numbers_bits.register_place setting i instance placed bit found.0 found.1 in
        let below : place < length (register_keys setting) = key_within (register_keys setting) key place at in
        let stored : slice_get state place ≡ Some (get_or state place false) =
        entry_there state place (omega (arith, below, entries.state_count)) in
        record {
          number = 1 + length (input_keys setting) + place;
          node = Reg place;
          edge = numbers_bits.register_edge setting clocked.m clocked.top clocked.apart i instance placed bit found.0 found.1;
          there = register_node setting place below;
          means =
              related (value_by setting state row reading key) (slice_get state place)
              (value_at reading (Some (get_or state place false)) (entry (input_keys setting) row key) (is_clock setting key)
              (entry_at (register_keys setting) state key (Some place) at ∙ stored) refl refl
              ∙ sym stored);
        }

    module _ (free : is_register instance.definition bit.name ≡ false) where
      stands_clock : is_top instance ≡ true → is_input instance.definition bit.name ≡ true
          → bytes_eq bit.name setting.clock ≡ true → Stands rel setting state row reading read key
      stands_clock is input same =
          let undriven : is_driven (is_top instance) instance.definition bit.name ≡ false =
          (λ j. not (free j || (is j && input j))) in
          record {
            number = 0;
            node = Zero;
            edge =
                numbers_bits.no_edge setting i instance placed bit (no_register instance.definition bit free)
                (no_driven instance.definition bit (is_top instance) undriven)
                (λ _. no_clock instance.definition bit setting.clock same);
            there = zero_node setting;
            means =
                related (value_by setting state row reading key) (Some false)
                (value_at reading None None true (no_stored free)
                (entry_at (input_keys setting) row key None
                (no_input_of setting i instance placed bit (λ _. no_clock instance.definition bit setting.clock same)))
                (λ j. is j && same j));
          }

      stands_input : is_top instance ≡ true → is_input instance.definition bit.name ≡ true
          → bytes_eq bit.name setting.clock ≡ false → Stands rel setting state row reading read key
      stands_input is input other =
          let found : (o : ℕ) × (number_in (input_bits setting.clock instance.definition) bit ≡ Some o) =
          among_inputs instance.definition bit within setting.clock input other in
          let same : instance ≡ top_of clocked.m = top_is is in
          let number : number_in (input_bits setting.clock clocked.m) bit ≡ Some found.0 =
          ap (λ (one : Instance). number_in (input_bits setting.clock one.definition) bit) (sym same) ∙ found.1 in
          let at : position (same_key key) (input_keys setting) ≡ Some found.0 =
          ap (λ (one : Instance). position (same_key (key_in one.path bit)) (input_keys setting)) same
          ∙ numbers_bits.input_place setting clocked.m clocked.top bit
          ∙ number in
          let below : found.0 < length (input_keys setting) = key_within (input_keys setting) key found.0 at in
          let given : slice_get row found.0 ≡ Some (get_or row found.0 false) =
          entry_there row found.0 (omega (arith, below, entries.row_count)) in
          record {
            number = 1 + found.0;
            node = Input found.0;
            edge =
                ap (λ (one : Instance). edge_of setting (key_in one.path bit)) same
                ∙ numbers_bits.input_edge setting clocked.m clocked.top bit found.0 number;
            there = input_node setting found.0 below;
            means =
                related (value_by setting state row reading key) (slice_get row found.0)
                (value_at reading None (Some (get_or row found.0 false)) (is_clock setting key) (no_stored free)
                (entry_at (input_keys setting) row key (Some found.0) at ∙ given) refl
                ∙ sym given);
          }

      module _ (unfed : is_top instance ≡ true → is_input instance.definition bit.name ≡ false) where
        no_clock_key : is_clock setting key ≡ false
        no_clock_key = by (is_top instance) (bytes_eq bit.name setting.clock) refl refl
          where
            by : (t c : Bool) → is_top instance ≡ t → bytes_eq bit.name setting.clock ≡ c
                → (is_top instance && bytes_eq bit.name setting.clock) ≡ false
            by false c top_is_not clock_is = ap (λ b. b && bytes_eq bit.name setting.clock) top_is_not
            by true false is_there clock_is_not = λ j. is_there j && clock_is_not j
            by true true is_there clock_is =
                let same : instance ≡ top_of clocked.m = top_is is_there in
                let name : bit.name ≡ setting.clock = (bytes_eq-Decides bit.name setting.clock).0 clock_is in
                absurd (false≢true (sym (unfed is_there)
                ∙ ap (λ (one : Instance). is_input one.definition bit.name) same
                ∙ ap (is_input clocked.m) name
                ∙ clocked.clock))

        value_is : value_by setting state row reading key ≡ inner_bit setting reading key instance.definition
        value_is =
            value_at reading None None false (no_stored free)
            (entry_at (input_keys setting) row key None
            (no_input_of setting i instance placed bit (λ is. no_input instance.definition bit setting.clock (unfed is))))
            no_clock_key
            ∙ ap (option_and_then (inner_bit setting reading key)) (sound.leads i instance there)

        module _ (drives : DrivesMean rel) (ports : PortsMean rel) (is_read : IsRead rel setting reading read state row) where
          inner_means : (b : Bool) → is_input instance.definition bit.name ≡ b
              → rel (cond b (outer_bit setting reading key)
              (driven_bit reading instance.path instance.definition (drivers setting.design instance.definition bit)))
              (edge_value read (given_to (cond b (whole_of setting).ports (whole_of setting).drives) key))
          inner_means true is =
              ports setting reading read state row is_read i instance there
              (λ empty. false≢true (sym (unfed ((paths_decide instance.path []).1 empty)) ∙ is)) bit.name is bit.place within
          inner_means false is = drives setting reading read state row is_read i instance there bit

          stands_driven : is_driven (is_top instance) instance.definition bit.name ≡ true
              → Stands rel setting state row reading read key
          stands_driven is =
              let found : (o : ℕ) × (number_in (driven_bits (is_top instance) instance.definition) bit ≡ Some o) =
              among_driven instance.definition bit within (is_top instance) is in
              record {
                number = 1 + length (input_keys setting) + length (register_keys setting) + (driven_before (instances setting) i + found.0);
                node = driven_node (whole_of setting) instance bit;
                edge = numbers_bits.driven_edge setting i instance placed bit found.0 found.1;
                there =
                    driven_at setting i instance there bit found.0
                    (placed_at same_bit bits_equal (driven_bits (is_top instance) instance.definition) bit found.0 found.1);
                means =
                    subst (λ a. rel a (node_value state row read (driven_node (whole_of setting) instance bit))) (sym value_is)
                    (inner_means (is_input instance.definition bit.name) refl);
              }

    -- ---- each bit

    module _ (drives : DrivesMean rel) (ports : PortsMean rel) (is_read : IsRead rel setting reading read state row) where
      stands : Stands rel setting state row reading read key
      stands =
          by (is_register instance.definition bit.name) refl (is_top instance) refl (is_input instance.definition bit.name) refl
          (bytes_eq bit.name setting.clock) refl
        where
          by : (r : Bool) → is_register instance.definition bit.name ≡ r → (t : Bool) → is_top instance ≡ t
              → (n : Bool) → is_input instance.definition bit.name ≡ n → (c : Bool) → bytes_eq bit.name setting.clock ≡ c
              → Stands rel setting state row reading read key
          by true r_is t t_is n n_is c c_is = stands_register r_is
          by false r_is true t_is true n_is true c_is = stands_clock r_is t_is n_is c_is
          by false r_is true t_is true n_is false c_is = stands_input r_is t_is n_is c_is
          by false r_is true t_is false n_is c c_is =
              stands_driven r_is (λ _. n_is) drives ports is_read (λ j. not (r_is j || (t_is j && n_is j)))
          by false r_is false t_is n n_is c c_is =
              stands_driven r_is (λ top. absurd (false≢true (sym t_is ∙ top))) drives ports is_read
              (λ j. not (r_is j || (t_is j && is_input instance.definition bit.name)))

-- The key of a bit stands at a node.
pub key_stands : (rel : Relation) → ((a : Option Bool) → rel a a) → DrivesMean rel → PortsMean rel
    → (setting : Setting) → IsClocked setting → (reading : meaning.Reading) (read : Reading) (state row : List Bool)
    → HasEntries setting state row → IsRead rel setting reading read state row
    → (bit_key : Key) → IsBitOf setting bit_key → Stands rel setting state row reading read bit_key
key_stands rel self drives ports setting clocked reading read state row entries is_read bit_key is =
    subst (Stands rel setting state row reading read) (sym is.named)
    (stands setting is_read.sound clocked state row entries is.i is.instance is.there is.bit is.within
    rel self reading read drives ports is_read)
