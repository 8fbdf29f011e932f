-- The keys of a kind, by instance.
use Rattle.std.proofs.Common.{◌≡◌, ℕ, zero, suc, ◌+◌, ◌-◌, ◌<◌, ◌≤◌, ◌==◌, Bool, true, not, List, [], ◌∷◌, ◌++◌, Option, None, Some, is_some, refl, sym, ◌∙◌, ap, arith, add-one, bytes_eq, flat_map, length, map, option_map, slice_get, sum, take}
use Rattle.std.proofs.lemmas.Bool.{false_from_ne_true, false≢true}
use Rattle.std.proofs.lemmas.Bool.Decides.{Decides-eqb}
use Rattle.std.proofs.lemmas.Option.{same_Some, slice_get-map, slice_get_past, slice_get_within}
use Rattle.design_laws.specs.Sound.{IsSound}
use Rattle.numbering.specs.Bits.{bits_of, driven_bits, input_bits, register_bits}
use Rattle.numbering.specs.Numbering.{driven_keys, is_top, key_in, keys_with_nodes}
use Rattle.numbering.proofs.NumberBitLemmas.{paths_decide}
use Rattle.numbering.proofs.NumberKeyLemmas.{all_keyed, bits_before, inputs_are, keys_in, top_first, top_of}
use Rattle.numbering.proofs.NumberListLemmas.{before as before_in}
use Rattle.vlog_tree.specs.declared.design.Module.{Module}
use Rattle.vlog_tree.specs.declared.key.Key.{Key}
use Rattle.vlog_tree.specs.Meaning.Instances.{Instance, instances, top_module}
use Rattle.vlog_tree.specs.Meaning.Keys.{input_keys, register_keys}
use Rattle.vlog_tree.specs.Meaning.Lefts.{Bit}
use Rattle.vlog_tree.specs.Meaning.Names.{is_input, names, registers}
use Rattle.vlog_tree.specs.Meaning.Setting.{Setting}
use Rattle.vlog_tree.specs.Meaning.Uses.{Text}
use Rattle.keys.specs.declared.kind.Kind.{Kind}
use Rattle.keys.specs.declared.kind.Kind.TheVariants as kind
use Rattle.keys.specs.Kinds.{before, bits_by, bits_in, keys_by}
use Rattle.keys.proofs.PlaceLemmas.{filter_both, flat_there, get_left, get_right}

pub some_there : {X : Type 0} (xs : List X) (i : ℕ) → i < length xs → (x : X) × (slice_get xs i ≡ Some x)
some_there [] i within = absurd (omega arith)
some_there (x ∷ xs) zero within = (x, refl)
some_there (x ∷ xs) (suc i) within = some_there xs i (omega arith)

-- ---- the keys of an instance that has the number

module _ (bits : Instance → List Bit) (list : List Instance) (place : ℕ) (instance : Instance) (at : slice_get list place ≡ Some instance)
    (number : ℕ) where
  abbrev counted : ℕ → ℕ
  counted i = sum (map (λ instance. length (bits instance)) (take i list))

  held_by : counted place ≤ number → number < counted (place + 1)
      → slice_get (flat_map (keys_in bits) list) number
      ≡ option_map (key_in instance.path) (slice_get (bits instance) (number - counted place))
  held_by first last =
      let one : counted place ≡ before_in (keys_in bits) list place = bits_before bits list place in
      let two : counted (place + 1) ≡ before_in (keys_in bits) list (suc place) =
      bits_before bits list (place + 1) ∙ ap (before_in (keys_in bits) list) (add-one place) in
      flat_there (keys_in bits) list place instance number at (omega arith) (omega arith)
      ∙ ap (slice_get (keys_in bits instance)) {x = number - before_in (keys_in bits) list place} {y = number - counted place} (omega arith)
      ∙ slice_get-map (key_in instance.path) (bits instance) (number - counted place)

module _ (setting : Setting) where
  pub key_held : (one : Kind) (place : ℕ) (instance : Instance) → slice_get (instances setting) place ≡ Some instance → (number : ℕ)
      → before one (instances setting) place ≤ number → number < before one (instances setting) (place + 1)
      → slice_get (keys_by one setting) number
      ≡ option_map (key_in instance.path) (slice_get (bits_in setting.clock one instance) (number - before one (instances setting) place))
  key_held kind.Input place instance at number first last = absurd (omega arith)
  key_held kind.Register place instance at number first last =
      ap (λ keys. slice_get keys number) (all_keyed registers (instances setting))
      ∙ held_by (λ instance. register_bits instance.definition) (instances setting) place instance at number first last
  key_held kind.Driven place instance at number first last =
      held_by (λ instance. driven_bits (is_top instance) instance.definition) (instances setting) place instance at number first last

  module _ (sound : IsSound setting) where
    top_there : (found : Option Module) → is_some found ≡ true → (m : Module) × (found ≡ Some m)
    top_there None there = absurd (false≢true there)
    top_there (Some m) there = (m, refl)

    top : (m : Module) × (top_module setting ≡ Some m)
    top = top_there (top_module setting) sound.top

    first : slice_get (instances setting) 0 ≡ Some (top_of top.0)
    first = top_first setting top.0 top.1

    pub first_within : 0 < length (instances setting)
    first_within = slice_get_within (instances setting) 0 (top_of top.0) first

    -- The instance at a place is the top where it is the first.
    pub top_by_place : (place : ℕ) (instance : Instance) → slice_get (instances setting) place ≡ Some instance
        → is_top instance ≡ (place == 0)
    top_by_place zero instance at =
        (paths_decide instance.path []).1
        (ap (λ (instance : Instance). instance.path) (same_Some instance (top_of top.0) (sym at ∙ first)))
    top_by_place (suc place) instance at =
        false_from_ne_true (is_top instance) (λ is. absurd (
        let same : suc place ≡ 0 = sound.distinct (suc place) 0 instance (top_of top.0) at first ((paths_decide instance.path []).0 is) in
        omega (arith, same)))
        ∙ sym
        (false_from_ne_true (suc place == 0)
        (λ is. let same : suc place ≡ 0 = (Decides-eqb (suc place) 0).0 is in omega (arith, same)))

    -- The bits of the module are those of the instance.
    pub bits_same : (place : ℕ) (instance : Instance) → slice_get (instances setting) place ≡ Some instance → (one : Kind) (number : ℕ)
        → (is_first : Bool) → is_first ≡ (place == 0) → (clock : Text) → clock ≡ setting.clock → (m : Module) → m ≡ instance.definition
        → slice_get (bits_by one is_first clock m) number ≡ slice_get (bits_in setting.clock one instance) number
    bits_same place instance at one number is_first first_is clock clock_is m m_is =
        λ j. slice_get (bits_by one ((first_is ∙ sym (top_by_place place instance at)) j) (clock_is j) (m_is j)) number

    -- The inputs are those of the first instance.
    pub input_held : (instance : Instance) → slice_get (instances setting) 0 ≡ Some instance → (number : ℕ)
        → slice_get (input_keys setting) number
        ≡ option_map (key_in instance.path) (slice_get (bits_in setting.clock kind.Input instance) number)
    input_held instance at number =
        let m = top.0 in
        ap (λ keys. slice_get keys number) (inputs_are setting m top.1)
        ∙ slice_get-map (key_in []) (input_bits setting.clock m) number
        ∙ ap (λ names. option_map (key_in []) (slice_get (bits_of m names) number))
        (filter_both (λ name. not (bytes_eq name setting.clock)) (is_input m) (names m))
        ∙ ap (λ (instance : Instance). option_map (key_in instance.path) (slice_get (bits_in setting.clock kind.Input instance) number))
        (same_Some (top_of m) instance (sym first ∙ at))

  -- ---- all keys

  module _ (number : ℕ) where
    abbrev behind : List Key
    behind = register_keys setting ++ driven_keys setting

    pub among_inputs : number < length (input_keys setting)
        → slice_get (input_keys setting) number ≡ slice_get (keys_with_nodes setting) number
    among_inputs within = sym (get_left (input_keys setting) behind number within)

    module _ (register : ℕ) (is : number ≡ length (input_keys setting) + register) where
      pub among_registers : register < length (register_keys setting)
          → slice_get (register_keys setting) register ≡ slice_get (keys_with_nodes setting) number
      among_registers within =
          sym (get_right (input_keys setting) behind number register is
          ∙ get_left (register_keys setting) (driven_keys setting) register within)

      pub among_driven : (driven : ℕ) → register ≡ length (register_keys setting) + driven
          → slice_get (driven_keys setting) driven ≡ slice_get (keys_with_nodes setting) number
      among_driven driven last =
          sym (get_right (input_keys setting) behind number register is
          ∙ get_right (register_keys setting) (driven_keys setting) register driven last)

      pub among_none : (driven : ℕ) → register ≡ length (register_keys setting) + driven → length (driven_keys setting) ≤ driven
          → None ≡ slice_get (keys_with_nodes setting) number
      among_none driven last past = sym (slice_get_past (driven_keys setting) driven past) ∙ among_driven driven last
