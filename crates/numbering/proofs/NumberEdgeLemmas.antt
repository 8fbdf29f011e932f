-- The edges of bits, by their places among the inputs, the registers and the driven bits.
use Rattle.std.proofs.Common.{◌≡◌, ℕ, ◌+◌, Bool, true, false, not, ◌&&◌, ◌||◌, List, [], ◌++◌, Option, Some, None, refl, sym, ◌∙◌, ap, arith, bytes_eq, filter, flat_map, length, option_map, slice_get, inl, inr, unwrap_or}
use Rattle.std.specs.List.{list_all, position, position_from}
use Rattle.std.specs.Option.{option_or}
use Rattle.std.proofs.lemmas.Bool.{false≢true}
use Rattle.std.proofs.lemmas.List.{length-map}
use Rattle.std.proofs.lemmas.Option.{none-some}
use Rattle.flat_net.specs.declared.edge.Edge.{Edge}
use Rattle.flat_net.specs.Edges.{plain, zero_edge}
use Rattle.vlog_tree.specs.declared.design.Module.{Module}
use Rattle.vlog_tree.specs.declared.key.Key.{Key}
use Rattle.vlog_tree.specs.Meaning.Instances.{Instance, instances, top_module}
use Rattle.vlog_tree.specs.Meaning.Keys.{input_keys, register_keys, same_key}
use Rattle.vlog_tree.specs.Meaning.Lefts.{Bit, number_in}
use Rattle.vlog_tree.specs.Meaning.Names.{inputs, is_input, is_register, names, registers}
use Rattle.vlog_tree.specs.Meaning.Setting.{Setting}
use Rattle.vlog_tree.specs.Meaning.Uses.{Text}
use Rattle.numbering.specs.Bits.{bits_of, driven_bits, driven_names, input_bits, is_driven, register_bits}
use Rattle.numbering.specs.Frames.{driven_before, registers_before}
use Rattle.numbering.specs.Numbering.{driven_keys, edge_of, is_top, key_in, keys_with_nodes}
use Rattle.numbering.specs.Numbers.{AreDistinct, IsPlaced, NumbersBits, place_of}
use Rattle.numbering.specs.Places.{IsApart}
use Rattle.numbering.proofs.NumberBitLemmas.{AreOnce, all_kept, bit_place, failed_place, firsts_once, once_kept, passes_kept, paths_decide}
use Rattle.numbering.proofs.NumberKeyLemmas.{IsKeyOf, all_keyed, inputs_are, key_at_place, key_count, key_place, keyed_place, keys_in, no_input, no_input_of, only_top, top_of}
use Rattle.numbering.proofs.NumberListLemmas.{append_cases, from_append, from_start, map_at, shifted}

-- ---- a place among three lists

place_append : {X : Type 0} (test : X → Bool) (xs ys : List X)
    → position test (xs ++ ys) ≡ option_or (position test xs) (option_map (λ n. length xs + n) (position test ys))
place_append test xs ys =
    from_start test (xs ++ ys)
    ∙ from_append test 0 xs ys
    ∙ ap (λ o. option_or o (position_from test (0 + length xs) ys)) (sym (from_start test xs))
    ∙ ap (option_or (position test xs))
    (shifted test (length xs) 0 (0 + length xs) ys (omega arith) ∙ ap (option_map (λ n. length xs + n)) (sym (from_start test ys)))

module _ (setting : Setting) (key : Key) where
  abbrev edge_at : Option ℕ → Edge
  edge_at place = unwrap_or (option_map (λ place. plain (1 + place)) place) zero_edge

  abbrev among : Option ℕ → Option ℕ → Option ℕ → Option ℕ
  among input register driven =
      option_or input (option_map (λ n. length (input_keys setting) + n)
      (option_or register (option_map (λ n. length (register_keys setting) + n) driven)))

  edge_among : (input register driven : Option ℕ) → place_of (input_keys setting) key ≡ input
      → place_of (register_keys setting) key ≡ register
      → place_of (driven_keys setting) key ≡ driven → edge_of setting key ≡ edge_at (among input register driven)
  edge_among input register driven one two three =
      ap edge_at (place_append (same_key key) (input_keys setting) (register_keys setting ++ driven_keys setting)
      ∙ ap (λ place. option_or (place_of (input_keys setting) key) (option_map (λ n. length (input_keys setting) + n) place))
      (place_append (same_key key) (register_keys setting) (driven_keys setting))
      ∙ (λ j. among (one j) (two j) (three j)))

  edge_of_input : (place : ℕ) → place_of (input_keys setting) key ≡ Some place → edge_of setting key ≡ plain (1 + place)
  edge_of_input place one =
      edge_among (Some place) (place_of (register_keys setting) key) (place_of (driven_keys setting) key) one refl refl

  edge_of_register : (place : ℕ) → place_of (input_keys setting) key ≡ None → place_of (register_keys setting) key ≡ Some place
      → edge_of setting key ≡ plain (1 + length (input_keys setting) + place)
  edge_of_register place one two =
      edge_among None (Some place) (place_of (driven_keys setting) key) one two refl
      ∙ ap plain {x = 1 + (length (input_keys setting) + place)} {y = 1 + length (input_keys setting) + place} (omega arith)

  edge_of_driven : (place : ℕ) → place_of (input_keys setting) key ≡ None → place_of (register_keys setting) key ≡ None
      → place_of (driven_keys setting) key ≡ Some place
      → edge_of setting key ≡ plain (1 + length (input_keys setting) + length (register_keys setting) + place)
  edge_of_driven place one two three =
      edge_among None None (Some place) one two three
      ∙ ap plain {x = 1 + (length (input_keys setting) + (length (register_keys setting) + place))}
      {y = 1 + length (input_keys setting) + length (register_keys setting) + place} (omega arith)

  edge_of_none : place_of (input_keys setting) key ≡ None → place_of (register_keys setting) key ≡ None
      → place_of (driven_keys setting) key ≡ None
      → edge_of setting key ≡ zero_edge
  edge_of_none one two three = edge_among None None None one two three

-- ---- the lists of a module

names_once : (m : Module) → AreOnce (names m)
names_once m = firsts_once _

-- a bit that stands there has a name that passes
passed : (m : Module) (bit : Bit) (test : Text → Bool) (names : List Text) (place : ℕ) → list_all test names ≡ true
    → number_in (bits_of m names) bit ≡ Some place → test bit.name ≡ true
passed m bit test names place all at = by (test bit.name) refl
  where
    by : (b : Bool) → test bit.name ≡ b → b ≡ true
    by true is = refl
    by false is = absurd (none-some place (sym (failed_place m bit test names all is) ∙ at))

is_input_bit : (m : Module) (clock : Text) (bit : Bit) → is_input m bit.name ≡ false → number_in (input_bits clock m) bit ≡ None
is_input_bit m clock bit is =
    failed_place m bit (is_input m) (filter (λ name. not (bytes_eq name clock)) (inputs m))
    (all_kept (is_input m) (λ name. not (bytes_eq name clock)) (inputs m) (passes_kept (is_input m) (names m))) is

is_register_bit : (m : Module) (bit : Bit) → is_register m bit.name ≡ false → number_in (register_bits m) bit ≡ None
is_register_bit m bit is = failed_place m bit (is_register m) (registers m) (passes_kept (is_register m) (names m)) is

register_named : (m : Module) (bit : Bit) (o : ℕ) → number_in (register_bits m) bit ≡ Some o → is_register m bit.name ≡ true
register_named m bit o at = passed m bit (is_register m) (registers m) o (passes_kept (is_register m) (names m)) at

neither : (register input top : Bool) → not (register || (top && input)) ≡ true → (register ≡ false) × (top ≡ true → input ≡ false)
neither true input top h = absurd (false≢true h)
neither false true true h = absurd (false≢true h)
neither false false top h = (refl, λ e. refl)
neither false true false h = (refl, λ e. absurd (false≢true e))

driven_named : (is_top : Bool) (m : Module) (bit : Bit) (o : ℕ) → number_in (driven_bits is_top m) bit ≡ Some o
    → (is_register m bit.name ≡ false) × (is_top ≡ true → is_input m bit.name ≡ false)
driven_named is_top m bit o at =
    neither (is_register m bit.name) (is_input m bit.name) is_top
    (passed m bit (is_driven is_top m) (driven_names is_top m) o (passes_kept (is_driven is_top m) (names m)) at)

-- each bit of these stands once
register_there : (m : Module) (bit : Bit) (o : ℕ) → slice_get (register_bits m) o ≡ Some bit → number_in (register_bits m) bit ≡ Some o
register_there m bit o at = bit_place m bit (registers m) (once_kept (is_register m) (names m) (names_once m)) o at

driven_there : (is_top : Bool) (m : Module) (bit : Bit) (o : ℕ) → slice_get (driven_bits is_top m) o ≡ Some bit
    → number_in (driven_bits is_top m) bit ≡ Some o
driven_there is_top m bit o at = bit_place m bit (driven_names is_top m) (once_kept (is_driven is_top m) (names m) (names_once m)) o at

input_there : (clock : Text) (m : Module) (bit : Bit) (o : ℕ) → slice_get (input_bits clock m) o ≡ Some bit
    → number_in (input_bits clock m) bit ≡ Some o
input_there clock m bit o at =
    bit_place m bit (filter (λ name. not (bytes_eq name clock)) (inputs m))
    (once_kept (λ name. not (bytes_eq name clock)) (inputs m) (once_kept (is_input m) (names m) (names_once m))) o at

-- ---- places

abbrev registers_in : Instance → List Bit
registers_in instance = register_bits instance.definition

abbrev driven_in : Instance → List Bit
driven_in instance = driven_bits (is_top instance) instance.definition

registers_are : (setting : Setting) → register_keys setting ≡ flat_map (keys_in registers_in) (instances setting)
registers_are setting = all_keyed registers (instances setting)

module _ (setting : Setting) (i : ℕ) (instance : Instance) (placed : IsPlaced setting i instance) (bit : Bit) where
  among_registers : place_of (register_keys setting) (key_in instance.path bit)
      ≡ option_map (λ o. registers_before (instances setting) i + o) (number_in (register_bits instance.definition) bit)
  among_registers =
      ap (λ keys. place_of keys (key_in instance.path bit)) (registers_are setting)
      ∙ key_place registers_in (instances setting) placed.distinct i instance placed.there bit

  among_driven : place_of (driven_keys setting) (key_in instance.path bit)
      ≡ option_map (λ o. driven_before (instances setting) i + o) (number_in (driven_bits (is_top instance) instance.definition) bit)
  among_driven = key_place driven_in (instances setting) placed.distinct i instance placed.there bit

  no_register : number_in (register_bits instance.definition) bit ≡ None
      → place_of (register_keys setting) (key_in instance.path bit) ≡ None
  no_register none = among_registers ∙ ap (option_map (λ o. registers_before (instances setting) i + o)) none

  no_driven : number_in (driven_bits (is_top instance) instance.definition) bit ≡ None
      → place_of (driven_keys setting) (key_in instance.path bit) ≡ None
  no_driven none = among_driven ∙ ap (option_map (λ o. driven_before (instances setting) i + o)) none

  register_edge : (m : Module) → top_module setting ≡ Some m → IsApart m → (o : ℕ)
      → number_in (register_bits instance.definition) bit ≡ Some o
      → edge_of setting (key_in instance.path bit) ≡ plain (1 + length (input_keys setting) + (registers_before (instances setting) i + o))
  register_edge m top apart o at =
      edge_of_register setting (key_in instance.path bit) (registers_before (instances setting) i + o)
      (no_input_of setting i instance placed bit (λ is. is_input_bit instance.definition setting.clock bit (no_input_name is)))
      (among_registers ∙ ap (option_map (λ o. registers_before (instances setting) i + o)) at)
    where
      no_input_name : is_top instance ≡ true → is_input instance.definition bit.name ≡ false
      no_input_name is =
          let same : instance ≡ top_of m = only_top setting m top i instance placed ((paths_decide instance.path []).0 is) in
          ap (λ (one : Instance). is_input one.definition bit.name) same
          ∙ apart bit.name (ap (λ (one : Instance). is_register one.definition bit.name) (sym same)
          ∙ register_named instance.definition bit o at)

  driven_edge : (o : ℕ) → number_in (driven_bits (is_top instance) instance.definition) bit ≡ Some o
      → edge_of setting (key_in instance.path bit)
      ≡ plain (1 + length (input_keys setting) + length (register_keys setting) + (driven_before (instances setting) i + o))
  driven_edge o at =
      let named : (is_register instance.definition bit.name ≡ false) ×
      (is_top instance ≡ true → is_input instance.definition bit.name ≡ false) =
      driven_named (is_top instance) instance.definition bit o at in
      edge_of_driven setting (key_in instance.path bit) (driven_before (instances setting) i + o)
      (no_input_of setting i instance placed bit (λ is. is_input_bit instance.definition setting.clock bit (named.1 is)))
      (no_register (is_register_bit instance.definition bit named.0))
      (among_driven ∙ ap (option_map (λ o. driven_before (instances setting) i + o)) at)

  no_edge : number_in (register_bits instance.definition) bit ≡ None
      → number_in (driven_bits (is_top instance) instance.definition) bit ≡ None
      → (is_top instance ≡ true → number_in (input_bits setting.clock instance.definition) bit ≡ None)
      → edge_of setting (key_in instance.path bit) ≡ zero_edge
  no_edge register driven input =
      edge_of_none setting (key_in instance.path bit) (no_input_of setting i instance placed bit input) (no_register register)
      (no_driven driven)

module _ (setting : Setting) (m : Module) (top : top_module setting ≡ Some m) where
  among_inputs : (bit : Bit) → place_of (input_keys setting) (key_in [] bit) ≡ number_in (input_bits setting.clock m) bit
  among_inputs bit = ap (λ keys. place_of keys (key_in [] bit)) (inputs_are setting m top) ∙ keyed_place [] bit (input_bits setting.clock m)

  input_edge : (bit : Bit) (o : ℕ) → number_in (input_bits setting.clock m) bit ≡ Some o → edge_of setting (key_in [] bit) ≡ plain (1 + o)
  input_edge bit o at = edge_of_input setting (key_in [] bit) o (among_inputs bit ∙ at)

  input_count : length (input_keys setting) ≡ length (input_bits setting.clock m)
  input_count = ap length (inputs_are setting m top) ∙ length-map (input_bits setting.clock m) (key_in [])

  -- ---- the way back

  input_back : (place : ℕ) (key : Key) → slice_get (input_keys setting) place ≡ Some key → edge_of setting key ≡ plain (1 + place)
  input_back place key at =
      let found : (bit : Bit) × (slice_get (input_bits setting.clock m) place ≡ Some bit) × (key ≡ key_in [] bit) =
      map_at (key_in []) (input_bits setting.clock m) place key (ap (λ keys. slice_get keys place) (sym (inputs_are setting m top)) ∙ at) in
      ap (edge_of setting) found.2 ∙ input_edge found.0 place (input_there setting.clock m found.0 place found.1)

  module _ (distinct : AreDistinct (instances setting)) (apart : IsApart m) where
    register_back : (place : ℕ) (key : Key) → slice_get (register_keys setting) place ≡ Some key
        → edge_of setting key ≡ plain (1 + length (input_keys setting) + place)
    register_back place key at =
        let found : IsKeyOf registers_in (instances setting) place key =
        key_at_place registers_in (instances setting) place key (ap (λ keys. slice_get keys place) (sym (registers_are setting)) ∙ at) in
        ap (edge_of setting) found.named
        ∙ register_edge setting found.i found.instance
        (record { distinct = distinct; there = found.there }) found.bit m top apart found.rest
        (register_there found.instance.definition found.bit found.rest found.here)
        ∙ ap (λ n. plain (1 + length (input_keys setting) + n)) (sym found.is)

    driven_back : (place : ℕ) (key : Key) → slice_get (driven_keys setting) place ≡ Some key
        → edge_of setting key ≡ plain (1 + length (input_keys setting) + length (register_keys setting) + place)
    driven_back place key at =
        let found : IsKeyOf driven_in (instances setting) place key = key_at_place driven_in (instances setting) place key at in
        ap (edge_of setting) found.named
        ∙ driven_edge setting found.i found.instance (record { distinct = distinct; there = found.there }) found.bit found.rest
        (driven_there (is_top found.instance) found.instance.definition found.bit found.rest found.here)
        ∙ ap (λ n. plain (1 + length (input_keys setting) + length (register_keys setting) + n)) (sym found.is)

    key_back : (place : ℕ) (key : Key) → slice_get (keys_with_nodes setting) place ≡ Some key → edge_of setting key ≡ plain (1 + place)
    key_back place key at = elim (append_cases (input_keys setting) (register_keys setting ++ driven_keys setting) place key at) [
      | inl input ↦ input_back place key input
      | inr behind ↦ elim (append_cases (register_keys setting) (driven_keys setting) behind.0 key behind.2) [
        | inl register ↦ register_back behind.0 key register
            ∙ ap plain (let e : place ≡ length (input_keys setting) + behind.0 = behind.1 in omega arith)
        | inr last ↦ driven_back last.0 key last.2 ∙ ap plain (
            let e : place ≡ length (input_keys setting) + behind.0 = behind.1 in
            let f : behind.0 ≡ length (register_keys setting) + last.0 = last.1 in omega arith)
      ]
    ]

-- ---- all

pub numbers_bits : NumbersBits
numbers_bits = record {
  register_place = λ setting i instance placed bit o at.
      among_registers setting i instance placed bit ∙ ap (option_map (λ o. registers_before (instances setting) i + o)) at;
  no_register_place = no_register;
  driven_place = λ setting i instance placed bit o at.
      among_driven setting i instance placed bit ∙ ap (option_map (λ o. driven_before (instances setting) i + o)) at;
  no_driven_place = no_driven;
  input_place = among_inputs;
  no_input_place = no_input;
  register_edge = λ setting m top apart i instance placed bit o at. register_edge setting i instance placed bit m top apart o at;
  driven_edge = driven_edge;
  input_edge = input_edge;
  no_edge = no_edge;
  register_count = λ setting. ap length (registers_are setting) ∙ key_count registers_in (instances setting);
  driven_count = λ setting. key_count driven_in (instances setting);
  input_count = input_count;
  key_place = λ setting m top apart distinct place key within at. key_back setting m top distinct apart place key at;
}
