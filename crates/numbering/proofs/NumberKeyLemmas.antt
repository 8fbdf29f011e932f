-- The places of keys, by instance.
use Rattle.std.proofs.Common.{◌≡◌, ℕ, suc, ◌+◌, Bool, true, false, ◌&&◌, List, [], ◌∷◌, ◌++◌, Option, Some, None, append-nil, refl, sym, ◌∙◌, ap, arith, flat_map, length, map, option_map, option_to_list, slice_get, sum, take}
use Rattle.std.specs.List.{position, position_from, range_with_len}
use Rattle.std.proofs.lemmas.List.{length-map, map-append}
use Rattle.std.proofs.lemmas.Option.{same_Some}
use Rattle.vlog_tree.specs.declared.design.Design.{Design}
use Rattle.vlog_tree.specs.declared.design.Module.{Module}
use Rattle.vlog_tree.specs.declared.key.Key.{Key}
use Rattle.vlog_tree.specs.Meaning.Instances.{Instance, Path, down_from, greatest_depth, instances, same_path, top_module}
use Rattle.vlog_tree.specs.Meaning.Keys.{bit_count, input_keys, input_names, key_of, keys_of, name_keys, same_key}
use Rattle.vlog_tree.specs.Meaning.Lefts.{Bit, bit_of, same_bit}
use Rattle.vlog_tree.specs.Meaning.Setting.{Setting}
use Rattle.vlog_tree.specs.Meaning.Uses.{Text}
use Rattle.numbering.specs.Bits.{bits_of, input_bits, name_bits}
use Rattle.numbering.specs.Numbering.{is_top, key_in, keyed}
use Rattle.numbering.specs.Numbers.{AreDistinct, IsPlaced}
use Rattle.numbering.proofs.NumberBitLemmas.{other_path, path_itself, paths_decide}
use Rattle.numbering.proofs.NumberListLemmas.{IsIn, before, count_all, flat_member, flat_place, from_map, from_never, from_start, map_at, mapped_alike, sum_before}

-- ---- the keys of one instance

-- the place of a key among those of one path
own_place : (path other : Path) (bit : Bit) (bits : List Bit) (b : Bool) → same_path path other ≡ b
    → position_from (same_key (key_in path bit)) 0 (keyed other bits) ≡ position_from (λ one. b && same_bit bit one) 0 bits
own_place path other bit bits b is =
    from_map (same_key (key_in path bit)) (key_in other) 0 bits
    ∙ ap (λ c. position_from (λ one. c && same_bit bit one) 0 bits) is

pub keyed_place : (path : Path) (bit : Bit) (bits : List Bit)
    → position (same_key (key_in path bit)) (keyed path bits) ≡ position (same_bit bit) bits
keyed_place path bit bits =
    from_start (same_key (key_in path bit)) (keyed path bits)
    ∙ own_place path path bit bits true (path_itself path)
    ∙ sym (from_start (same_bit bit) bits)

pub other_keyed : (key : Key) (path : Path) (bits : List Bit) → same_path key.path path ≡ false
    → position (same_key key) (keyed path bits) ≡ None
other_keyed key path bits differ =
    from_start (same_key key) (keyed path bits)
    ∙ own_place key.path path (bit_of key.name key.bit) bits false differ
    ∙ from_never 0 bits

-- ---- the keys of instances

-- the keys of some bits of an instance
abbrev pub keys_in : (Instance → List Bit) → Instance → List Key
keys_in bits instance = keyed instance.path (bits instance)

module _ (bits : Instance → List Bit) (list : List Instance) where
  pub bits_before : (i : ℕ) → sum (map (λ instance. length (bits instance)) (take i list)) ≡ before (keys_in bits) list i
  bits_before i = sum_before (keys_in bits) (λ instance. length (bits instance))
      (λ instance. sym (length-map (bits instance) (key_in instance.path))) list i

  pub key_count : length (flat_map (keys_in bits) list) ≡ sum (map (λ instance. length (bits instance)) (take (length list) list))
  key_count = count_all (keys_in bits) list ∙ sym (bits_before (length list))

  -- the place of an instance's bit among the keys of all
  pub key_place : AreDistinct list → (i : ℕ) (instance : Instance) → slice_get list i ≡ Some instance → (bit : Bit)
      → position (same_key (key_in instance.path bit)) (flat_map (keys_in bits) list)
      ≡ option_map (λ o. sum (map (λ instance. length (bits instance)) (take i list)) + o) (position (same_bit bit) (bits instance))
  key_place distinct i instance there bit =
      from_start (same_key (key_in instance.path bit)) (flat_map (keys_in bits) list)
      ∙ flat_place (keys_in bits) (same_key (key_in instance.path bit)) list i instance 0 there
      (λ j other at apart. own_place instance.path other.path bit (bits other) false
      (other_path instance.path other.path (λ e. apart (distinct j i other instance at there (sym e))))
      ∙ from_never 0 (bits other))
      ∙ mapped_alike (λ o. 0 + (before (keys_in bits) list i + o)) (λ o. before (keys_in bits) list i + o) (λ n. omega arith)
      (position_from (same_key (key_in instance.path bit)) 0 (keyed instance.path (bits instance)))
      ∙ ap (option_map (λ o. before (keys_in bits) list i + o))
      (own_place instance.path instance.path bit (bits instance) true (path_itself instance.path)
      ∙ sym (from_start (same_bit bit) (bits instance)))
      ∙ ap (λ n. option_map (λ o. n + o) (position (same_bit bit) (bits instance))) (sym (bits_before i))

  -- the bit of an instance that a key is
  pub record IsKeyOf (place : ℕ) (key : Key) : Type 0 where
    pub i : ℕ
    pub instance : Instance
    pub bit : Bit
    pub rest : ℕ
    pub there : slice_get list i ≡ Some instance
    pub here : slice_get (bits instance) rest ≡ Some bit
    pub named : key ≡ key_in instance.path bit
    pub is : place ≡ sum (map (λ instance. length (bits instance)) (take i list)) + rest

  pub key_at_place : (place : ℕ) (key : Key) → slice_get (flat_map (keys_in bits) list) place ≡ Some key → IsKeyOf place key
  key_at_place place key at =
      let found : IsIn (keys_in bits) list place key = flat_member (keys_in bits) list place key at in
      let mapped : (bit : Bit) × (slice_get (bits found.member) found.rest ≡ Some bit) × (key ≡ key_in found.member.path bit) =
      map_at (key_in found.member.path) (bits found.member) found.rest key found.here in
      record {
        i = found.i;
        instance = found.member;
        bit = mapped.0;
        rest = found.rest;
        there = found.there;
        here = mapped.1;
        named = mapped.2;
        is = found.is ∙ ap (λ n. n + found.rest) (sym (bits_before found.i));
      }

-- ---- keys of names are keys of their bits

name_keyed : (instance : Instance) (name : Text) → name_keys instance name ≡ keyed instance.path (name_bits instance.definition name)
name_keyed instance name = walk (range_with_len 0 (bit_count instance.definition name))
  where
    walk : (places : List ℕ) → map (key_of instance.path name) places ≡ map (key_in instance.path) (map (bit_of name) places)
    walk [] = refl
    walk (place ∷ places) = ap (λ keys. key_of instance.path name place ∷ keys) (walk places)

names_keyed : (instance : Instance) (names : List Text)
    → flat_map (name_keys instance) names ≡ keyed instance.path (bits_of instance.definition names)
names_keyed instance [] = refl
names_keyed instance (name ∷ names) =
    (λ j. name_keyed instance name j ++ names_keyed instance names j)
    ∙ sym (map-append (key_in instance.path) (name_bits instance.definition name) (bits_of instance.definition names))

pub all_keyed : (choice : Module → List Text) (list : List Instance)
    → keys_of choice list ≡ flat_map (keys_in (λ instance. bits_of instance.definition (choice instance.definition))) list
all_keyed choice list = λ j. flat_map (λ instance. names_keyed instance (choice instance.definition) j) list

-- ---- the top

abbrev pub top_of : Module → Instance
top_of m = record { path = []; definition = m }

first_below : (design : Design) (depth rest : ℕ) (found : Option Module) (m : Module) → depth ≡ suc rest → found ≡ Some m
    → slice_get (flat_map (λ m. down_from design depth (top_of m)) (option_to_list found)) 0 ≡ Some (top_of m)
first_below design depth rest found m deep is =
    (λ j. slice_get (flat_map (λ m. down_from design (deep j) (top_of m)) (option_to_list (is j))) 0)

pub top_first : (setting : Setting) (m : Module) → top_module setting ≡ Some m → slice_get (instances setting) 0 ≡ Some (top_of m)
top_first setting m is = first_below setting.design greatest_depth 64 (top_module setting) m refl is

-- The only instance with the empty path is the top.
pub only_top : (setting : Setting) (m : Module) → top_module setting ≡ Some m → (i : ℕ) (instance : Instance) → IsPlaced setting i instance
    → instance.path ≡ [] → instance ≡ top_of m
only_top setting m top i instance placed empty =
    let first : i ≡ 0 = placed.distinct i 0 instance (top_of m) placed.there (top_first setting m top) empty in
    same_Some instance (top_of m) (sym placed.there ∙ ap (slice_get (instances setting)) first ∙ top_first setting m top)

-- ---- the inputs

abbrev inputs_with : Setting → Option Module → List Key
inputs_with setting found = keys_of (input_names setting) (map top_of (option_to_list found))

pub inputs_are : (setting : Setting) (m : Module) → top_module setting ≡ Some m → input_keys setting ≡ keyed [] (input_bits setting.clock m)
inputs_are setting m top =
    ap (inputs_with setting) top
    ∙ all_keyed (input_names setting) (top_of m ∷ [])
    ∙ append-nil (keyed [] (input_bits setting.clock m))

pub no_input : (setting : Setting) (key : Key) → same_path key.path [] ≡ false → position (same_key key) (input_keys setting) ≡ None
no_input setting key differ = by (top_module setting) refl
  where
    by : (found : Option Module) → top_module setting ≡ found → position (same_key key) (input_keys setting) ≡ None
    by None is = ap (λ found. position (same_key key) (inputs_with setting found)) is
    by (Some m) is = ap (position (same_key key)) (inputs_are setting m is) ∙ other_keyed key [] (input_bits setting.clock m) differ

-- An instance's bit is no input where the top has none such.
pub no_input_of : (setting : Setting) (i : ℕ) (instance : Instance) → IsPlaced setting i instance → (bit : Bit)
    → (is_top instance ≡ true → position (same_bit bit) (input_bits setting.clock instance.definition) ≡ None)
    → position (same_key (key_in instance.path bit)) (input_keys setting) ≡ None
no_input_of setting i instance placed bit none = by (is_top instance) refl (top_module setting) refl
  where
    by : (b : Bool) → is_top instance ≡ b → (found : Option Module) → top_module setting ≡ found
        → position (same_key (key_in instance.path bit)) (input_keys setting) ≡ None
    by false differ found is = no_input setting (key_in instance.path bit) differ
    by true same None is = ap (λ found. position (same_key (key_in instance.path bit)) (inputs_with setting found)) is
    by true same (Some m) is =
        let empty : instance.path ≡ [] = (paths_decide instance.path []).0 same in
        let top : instance ≡ top_of m = only_top setting m is i instance placed empty in
        ap (position (same_key (key_in instance.path bit))) (inputs_are setting m is)
        ∙ ap (λ path. position (same_key (key_in path bit)) (keyed [] (input_bits setting.clock m))) empty
        ∙ keyed_place [] bit (input_bits setting.clock m)
        ∙ ap (λ (one : Instance). position (same_bit bit) (input_bits setting.clock one.definition)) (sym top)
        ∙ none same
