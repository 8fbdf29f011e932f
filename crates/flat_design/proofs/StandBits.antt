-- The bits of instances: that they are keys, and where they stand among the bits of a kind.
use Rattle.std.proofs.Common.{◌≡◌, ℕ, zero, suc, ◌+◌, ◌<◌, Bool, true, false, not, ◌&&◌, ◌||◌, ◌==◌, List, [], ◌∷◌, ◌++◌, Option, Some, None, refl, sym, ◌∙◌, ap, subst, arith, bytes_eq, cond, filter, flat_map, inl, inr, is_some, map, option_map, slice_get}
use Rattle.std.specs.List.{cons_option, filter_map, list_any, range_with_len}
use Rattle.std.specs.Map.{lookup}
use Rattle.std.specs.Option.{unwrap_or}
use Rattle.std.proofs.lemmas.Bool.{and_from, false≢true}
use Rattle.std.proofs.lemmas.Bool.Decides.{Decides-eqb}
use Rattle.std.proofs.lemmas.List.Folds.{list_any-append}
use Rattle.std.proofs.lemmas.Slice.Eq.{bytes_eq-Decides}
use Rattle.bm_base.specs.declared.range.Range.{Range}
use Rattle.flat_net.proofs.Rounds.{place_by_test}
use Rattle.nets.specs.Nets.{Net, net_of}
use Rattle.nets.proofs.NameLemmas.{named_where_ranged}
use Rattle.vlog_tree.specs.declared.design.Module.{Module}
use Rattle.vlog_tree.specs.declared.key.Key.{Key}
use Rattle.vlog_tree.specs.Meaning.Instances.{Instance, instances, top_module}
use Rattle.vlog_tree.specs.Meaning.Keys.{all_keys, bit_count, input_keys, is_key, register_keys, same_key}
use Rattle.vlog_tree.specs.Meaning.Lefts.{Bit, bit_of, number_in, same_bit}
use Rattle.vlog_tree.specs.Meaning.Names.{inputs, is_input, is_register, names, registers}
use Rattle.vlog_tree.specs.Meaning.Ranges.{range_of, span}
use Rattle.vlog_tree.specs.Meaning.Setting.{Setting}
use Rattle.vlog_tree.specs.Meaning.Uses.{Text}
use Rattle.numbering.specs.Bits.{bits_of, driven_bits, driven_names, input_bits, is_driven, name_bits, register_bits}
use Rattle.numbering.specs.Numbering.{driven_keys, is_top, key_in, keys_with_nodes}
use Rattle.numbering.specs.Numbers.{IsPlaced}
use Rattle.numbering.proofs.NumberBitLemmas.{all_kept, failed_place, passes_kept}
use Rattle.numbering.proofs.NumberKeyLemmas.{IsKeyOf, all_keyed, inputs_are, key_at_place, key_place, keys_in, top_first, top_of}
use Rattle.numbering.proofs.NumberListLemmas.{IsIn, append_cases, flat_member, map_at, range_at}
use Rattle.flat_design.proofs.StandLists.{any_placed, found_place, keys_equal, or_left, or_right}

-- ---- the names of a module

-- what the table has of a name is of one of the names
told_named : (m : Module) (name : Text) (others : List Text)
    → is_some (lookup (bytes_eq name) (filter_map (λ other. option_map (λ net. (other, net)) (net_of m other)) others)) ≡ true
    → list_any (bytes_eq name) others ≡ true
told_named m name [] told = absurd (false≢true told)
told_named m name (other ∷ others) told = by (bytes_eq name other) refl (net_of m other) (told_named m name others) told
  where
    by : (b : Bool) → bytes_eq name other ≡ b → (known : Option Net)
        → (is_some (lookup (bytes_eq name) (filter_map (λ other. option_map (λ net. (other, net)) (net_of m other)) others)) ≡ true
        → list_any (bytes_eq name) others ≡ true)
        → is_some (lookup (bytes_eq name) (cons_option (option_map (λ net. (other, net)) known)
        (filter_map (λ other. option_map (λ net. (other, net)) (net_of m other)) others))) ≡ true
        → (b || list_any (bytes_eq name) others) ≡ true
    by true is known more told = refl
    by false is None more told = more told
    by false is (Some net) more told =
        more (sym (ap (λ b. is_some (cond b (Some net) (lookup (bytes_eq name)
        (filter_map (λ other. option_map (λ net. (other, net)) (net_of m other)) others)))) is) ∙ told)

-- A name with bits is one of the module's names.
pub bit_named : (m : Module) (name : Text) (bit : ℕ) → bit < bit_count m name → list_any (bytes_eq name) (names m) ≡ true
bit_named m name bit within =
    told_named m name (names m) (named_where_ranged m name ∙ by (range_of m name) refl within)
  where
    by : (range : Option Range) → range_of m name ≡ range → bit < bit_count m name → is_some range ≡ true
    by None is within =
        let none : bit_count m name ≡ 0 = ap (λ range. unwrap_or (option_map span range) 0) is in
        absurd (omega (arith, none, within))
    by (Some range) is within = refl

any_kept : (keep : Text → Bool) (name : Text) (names : List Text) → keep name ≡ true → list_any (bytes_eq name) names ≡ true
    → list_any (bytes_eq name) (filter keep names) ≡ true
any_kept keep name [] kept any = absurd (false≢true any)
any_kept keep name (other ∷ others) kept any = by (bytes_eq name other) refl any (any_kept keep name others kept)
  where
    ahead : (k : Bool) → list_any (bytes_eq name) (filter keep others) ≡ true
        → list_any (bytes_eq name) (cond k (other ∷ filter keep others) (filter keep others)) ≡ true
    ahead true rest = or_right (bytes_eq name other) (list_any (bytes_eq name) (filter keep others)) rest
    ahead false rest = rest

    by : (b : Bool) → bytes_eq name other ≡ b → (b || list_any (bytes_eq name) others) ≡ true
        → (list_any (bytes_eq name) others ≡ true → list_any (bytes_eq name) (filter keep others) ≡ true)
        → list_any (bytes_eq name) (filter keep (other ∷ others)) ≡ true
    by true is any rest =
        let same : name ≡ other = (bytes_eq-Decides name other).0 is in
        ap (λ k. list_any (bytes_eq name) (cond k (other ∷ filter keep others) (filter keep others))) (ap keep (sym same) ∙ kept)
        ∙ or_left (bytes_eq name other) (list_any (bytes_eq name) (filter keep others)) is
    by false is any rest = ahead (keep other) (rest any)

-- ---- the bits of a module

any_bit : (name : Text) (bit low count rest : ℕ) → bit ≡ low + rest → rest < count
    → list_any (same_bit (bit_of name bit)) (map (bit_of name) (range_with_len low count)) ≡ true
any_bit name bit low zero rest e within = absurd (omega (arith, within))
any_bit name bit low (suc count) zero e within =
    or_left (bytes_eq name name && (bit == low))
    (list_any (same_bit (bit_of name bit)) (map (bit_of name) (range_with_len (low + 1) count)))
    (and_from (bytes_eq name name) (bit == low) ((bytes_eq-Decides name name).1 refl) ((Decides-eqb bit low).1 (omega (arith, e))))
any_bit name bit low (suc count) (suc rest) e within =
    or_right (bytes_eq name name && (bit == low))
    (list_any (same_bit (bit_of name bit)) (map (bit_of name) (range_with_len (low + 1) count)))
    (any_bit name bit (low + 1) count rest (omega (arith, e)) (omega (arith, within)))

any_of_names : (m : Module) (name : Text) (bit : ℕ) → bit < bit_count m name → (names : List Text)
    → list_any (bytes_eq name) names ≡ true → list_any (same_bit (bit_of name bit)) (bits_of m names) ≡ true
any_of_names m name bit within [] any = absurd (false≢true any)
any_of_names m name bit within (other ∷ others) any =
    list_any-append (same_bit (bit_of name bit)) (name_bits m other) (bits_of m others)
    ∙ by (bytes_eq name other) refl any (any_of_names m name bit within others)
  where
    here : bytes_eq name other ≡ true → list_any (same_bit (bit_of name bit)) (name_bits m other) ≡ true
    here is =
        subst (λ text. list_any (same_bit (bit_of name bit)) (name_bits m text) ≡ true) ((bytes_eq-Decides name other).0 is)
        (any_bit name bit 0 (bit_count m name) bit (omega arith) within)

    by : (b : Bool) → bytes_eq name other ≡ b → (b || list_any (bytes_eq name) others) ≡ true
        → (list_any (bytes_eq name) others ≡ true → list_any (same_bit (bit_of name bit)) (bits_of m others) ≡ true)
        → (list_any (same_bit (bit_of name bit)) (name_bits m other) || list_any (same_bit (bit_of name bit)) (bits_of m others)) ≡ true
    by true is any rest =
        or_left (list_any (same_bit (bit_of name bit)) (name_bits m other))
        (list_any (same_bit (bit_of name bit)) (bits_of m others)) (here is)
    by false is any rest =
        or_right (list_any (same_bit (bit_of name bit)) (name_bits m other))
        (list_any (same_bit (bit_of name bit)) (bits_of m others)) (rest any)

-- A bit of names has the place of one of their bits.
pub bit_within : (m : Module) (names : List Text) (o : ℕ) (bit : Bit) → slice_get (bits_of m names) o ≡ Some bit
    → bit.place < bit_count m bit.name
bit_within m names o bit at =
    let found : IsIn (name_bits m) names o bit = flat_member (name_bits m) names o bit at in
    let placed : (k : ℕ) × (slice_get (range_with_len 0 (bit_count m found.member)) found.rest ≡ Some k)
    × (bit ≡ bit_of found.member k) =
    map_at (bit_of found.member) (range_with_len 0 (bit_count m found.member)) found.rest bit found.here in
    let is : (placed.0 ≡ 0 + found.rest) × (found.rest < bit_count m found.member) =
    range_at 0 (bit_count m found.member) found.rest placed.0 placed.1 in
    let below : placed.0 < bit_count m found.member = omega (arith, is.0, is.1) in
    subst (λ (one : Bit). one.place < bit_count m one.name) (sym placed.2) below

module _ (m : Module) (bit : Bit) where
  module _ (within : bit.place < bit_count m bit.name) where
    -- The bits of all names have it,
    pub among_all : (o : ℕ) × (number_in (bits_of m (names m)) bit ≡ Some o)
    among_all =
        found_place (same_bit bit) (bits_of m (names m))
        (any_of_names m bit.name bit.place within (names m) (bit_named m bit.name bit.place within))

    -- and the bits of the kind of its name.
    pub among_registers : is_register m bit.name ≡ true → (o : ℕ) × (number_in (register_bits m) bit ≡ Some o)
    among_registers is =
        found_place (same_bit bit) (register_bits m)
        (any_of_names m bit.name bit.place within (registers m)
        (any_kept (is_register m) bit.name (names m) is (bit_named m bit.name bit.place within)))

    pub among_driven : (top : Bool) → is_driven top m bit.name ≡ true → (o : ℕ) × (number_in (driven_bits top m) bit ≡ Some o)
    among_driven top is =
        found_place (same_bit bit) (driven_bits top m)
        (any_of_names m bit.name bit.place within (driven_names top m)
        (any_kept (is_driven top m) bit.name (names m) is (bit_named m bit.name bit.place within)))

    pub among_inputs : (clock : Text) → is_input m bit.name ≡ true → bytes_eq bit.name clock ≡ false
        → (o : ℕ) × (number_in (input_bits clock m) bit ≡ Some o)
    among_inputs clock is other =
        found_place (same_bit bit) (input_bits clock m)
        (any_of_names m bit.name bit.place within (filter (λ name. not (bytes_eq name clock)) (inputs m))
        (any_kept (λ name. not (bytes_eq name clock)) bit.name (inputs m) (ap not other)
        (any_kept (is_input m) bit.name (names m) is (bit_named m bit.name bit.place within))))

  -- A bit of another kind is not there.
  pub no_register : is_register m bit.name ≡ false → number_in (register_bits m) bit ≡ None
  no_register is = failed_place m bit (is_register m) (registers m) (passes_kept (is_register m) (names m)) is

  pub no_driven : (top : Bool) → is_driven top m bit.name ≡ false → number_in (driven_bits top m) bit ≡ None
  no_driven top is = failed_place m bit (is_driven top m) (driven_names top m) (passes_kept (is_driven top m) (names m)) is

  pub no_input : (clock : Text) → is_input m bit.name ≡ false → number_in (input_bits clock m) bit ≡ None
  no_input clock is =
      failed_place m bit (is_input m) (filter (λ name. not (bytes_eq name clock)) (inputs m))
      (all_kept (is_input m) (λ name. not (bytes_eq name clock)) (inputs m) (passes_kept (is_input m) (names m))) is

  pub no_clock : (clock : Text) → bytes_eq bit.name clock ≡ true → number_in (input_bits clock m) bit ≡ None
  no_clock clock is =
      failed_place m bit (λ name. not (bytes_eq name clock)) (filter (λ name. not (bytes_eq name clock)) (inputs m))
      (passes_kept (λ name. not (bytes_eq name clock)) (inputs m)) (ap not is)

-- ---- the bits of instances

-- the key is a bit of an instance
pub record IsBitOf (setting : Setting) (key : Key) : Type 0 where
  pub i : ℕ
  pub instance : Instance
  pub there : slice_get (instances setting) i ≡ Some instance
  pub bit : Bit
  pub within : bit.place < bit_count instance.definition bit.name
  pub named : key ≡ key_in instance.path bit

abbrev all_bits : Instance → List Bit
all_bits instance = bits_of instance.definition (names instance.definition)

abbrev bits_of_registers : Instance → List Bit
bits_of_registers instance = register_bits instance.definition

abbrev bits_driven : Instance → List Bit
bits_driven instance = driven_bits (is_top instance) instance.definition

pub bit_is_key : (setting : Setting) (i : ℕ) (instance : Instance) → IsPlaced setting i instance → (bit : Bit)
    → bit.place < bit_count instance.definition bit.name → is_key setting (key_in instance.path bit) ≡ true
bit_is_key setting i instance placed bit within =
    let found : (o : ℕ) × (number_in (all_bits instance) bit ≡ Some o) = among_all instance.definition bit within in
    ap (list_any (same_key (key_in instance.path bit))) (all_keyed names (instances setting))
    ∙ (let place = key_place all_bits (instances setting) placed.distinct i instance placed.there bit in
    any_placed (same_key (key_in instance.path bit)) (flat_map (keys_in all_bits) (instances setting)) _
    (place ∙ ap (option_map _) found.1))

pub key_is_bit : (setting : Setting) (key : Key) → is_key setting key ≡ true → IsBitOf setting key
key_is_bit setting key is =
    let place : (place : ℕ) × (slice_get (all_keys setting) place ≡ Some key) =
    place_by_test same_key keys_equal (all_keys setting) key is in
    let found : IsKeyOf all_bits (instances setting) place.0 key =
    key_at_place all_bits (instances setting) place.0 key
    (ap (λ keys. slice_get keys place.0) (sym (all_keyed names (instances setting))) ∙ place.1) in
    record {
      i = found.i;
      instance = found.instance;
      there = found.there;
      bit = found.bit;
      within = bit_within found.instance.definition (names found.instance.definition) found.rest found.bit found.here;
      named = found.named;
    }

module _ (setting : Setting) (m : Module) (top : top_module setting ≡ Some m) (place : ℕ) (key : Key) where
  input_is_bit : slice_get (input_keys setting) place ≡ Some key → IsBitOf setting key
  input_is_bit at =
      let found : (bit : Bit) × (slice_get (input_bits setting.clock m) place ≡ Some bit) × (key ≡ key_in [] bit) =
      map_at (key_in []) (input_bits setting.clock m) place key
      (ap (λ keys. slice_get keys place) (sym (inputs_are setting m top)) ∙ at) in
      record {
        i = 0;
        instance = top_of m;
        there = top_first setting m top;
        bit = found.0;
        within = bit_within m (filter (λ name. not (bytes_eq name setting.clock)) (inputs m)) place found.0 found.1;
        named = found.2;
      }

  register_is_bit : slice_get (register_keys setting) place ≡ Some key → IsBitOf setting key
  register_is_bit at =
      let found : IsKeyOf bits_of_registers (instances setting) place key =
      key_at_place bits_of_registers (instances setting) place key
      (ap (λ keys. slice_get keys place) (sym (all_keyed registers (instances setting))) ∙ at) in
      record {
        i = found.i;
        instance = found.instance;
        there = found.there;
        bit = found.bit;
        within = bit_within found.instance.definition (registers found.instance.definition) found.rest found.bit found.here;
        named = found.named;
      }

  driven_is_bit : slice_get (driven_keys setting) place ≡ Some key → IsBitOf setting key
  driven_is_bit at =
      let found : IsKeyOf bits_driven (instances setting) place key = key_at_place bits_driven (instances setting) place key at in
      record {
        i = found.i;
        instance = found.instance;
        there = found.there;
        bit = found.bit;
        within =
            bit_within found.instance.definition (driven_names (is_top found.instance) found.instance.definition)
            found.rest found.bit found.here;
        named = found.named;
      }

-- What a node stands for is a bit of an instance.
pub node_is_bit : (setting : Setting) (m : Module) → top_module setting ≡ Some m → (place : ℕ) (key : Key)
    → slice_get (keys_with_nodes setting) place ≡ Some key → IsBitOf setting key
node_is_bit setting m top place key at =
    elim (append_cases (input_keys setting) (register_keys setting ++ driven_keys setting) place key at) [
      | inl input ↦ input_is_bit setting m top place key input
      | inr after ↦ elim (append_cases (register_keys setting) (driven_keys setting) after.0 key after.2) [
        | inl register ↦ register_is_bit setting m top after.0 key register
        | inr last ↦ driven_is_bit setting m top last.0 key last.2
      ]
    ]
