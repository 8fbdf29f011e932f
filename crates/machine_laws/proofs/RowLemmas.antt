-- The rows of reset cycles.
use Rattle.std.proofs.Common.{◌≡◌, ◌+◌, ◌<◌, ◌==◌, ◌&&◌, ℕ, suc, List, [], ◌∷◌, Bool, true, false, Some, ap, arith, bytes_eq, filter, length, map, not, refl, slice_get, sym, ◌∙◌}
use Rattle.std.specs.List.{range_with_len}
use Rattle.std.proofs.lemmas.Bool.{and_parts}
use Rattle.std.proofs.lemmas.Bool.Decides.{Decides-eqb}
use Rattle.std.proofs.lemmas.List.Quantifiers.{position-Some}
use Rattle.std.proofs.lemmas.Option.{get_or_from_slice_get, same_Some}
use Rattle.std.proofs.lemmas.Slice.Eq.{bytes_eq-Decides}
use Rattle.elab.specs.Plans.{input_place}
use Rattle.flat_design.specs.Flat.{flat}
use Rattle.flat_design.proofs.StandBits.{among_inputs, bit_within}
use Rattle.levelise.specs.Machine as net
use Rattle.numbering.specs.Bits.{input_bits}
use Rattle.numbering.specs.Numbering.{key_in}
use Rattle.numbering.proofs.NumberBitLemmas.{bit_place, firsts_once, once_kept}
use Rattle.numbering.proofs.NumberEdgeLemmas.{numbers_bits}
use Rattle.numbering.proofs.NumberKeyLemmas.{inputs_are}
use Rattle.numbering.proofs.NumberListLemmas.{map_at}
use Rattle.vlog_tree.specs.declared.design.Module.{Module}
use Rattle.vlog_tree.specs.declared.key.Key.{Key}
use Rattle.vlog_tree.specs.Meaning.Instances.{top_module}
use Rattle.vlog_tree.specs.Meaning.Keys.{bit_count, input_keys}
use Rattle.vlog_tree.specs.Meaning.Lefts.{Bit, bit_of, number_in, same_bit}
use Rattle.vlog_tree.specs.Meaning.Names.{inputs, is_input, names}
use Rattle.vlog_tree.specs.Meaning.Setting.{Setting}
use Rattle.vlog_tree.specs.Meaning.Step as design
use Rattle.vlog_tree.specs.Meaning.Uses.{Text}

-- ---- values by places and by keys

by_places : (f : ℕ → Bool) (g : Key → Bool) (keys : List Key) (start : ℕ)
    → ((k : ℕ) (key : Key) → slice_get keys k ≡ Some key → f (start + k) ≡ g key)
    → map f (range_with_len start (length keys)) ≡ map g keys
by_places f g [] start each = refl
by_places f g (key ∷ keys) start each =
    λ j. (ap f {x = start} {y = start + 0} (omega arith) ∙ each 0 key refl) j
    ∷ by_places f g keys (start + 1)
    (λ k other at. ap f {x = start + 1 + k} {y = start + suc k} (omega arith) ∙ each (suc k) other at) j

pub no_row : (setting : Setting) → map (λ (place : ℕ). false) (range_with_len 0 (length (input_keys setting))) ≡ map (λ (key : Key). false) (input_keys setting)
no_row setting = by_places (λ place. false) (λ key. false) (input_keys setting) 0 (λ k key at. refl)

-- ---- the place of a reset

module _ (setting : Setting) (m : Module) (top : top_module setting ≡ Some m) (name : Text) (input : is_input m name ≡ true) (apart : bytes_eq name setting.clock ≡ false) (one : bit_count m name ≡ 1) where
  abbrev bits : List Bit
  bits = input_bits setting.clock m

  abbrev reset : Bit
  reset = bit_of name 0

  pub among : (o : ℕ) × (number_in bits reset ≡ Some o)
  among = among_inputs m reset (let below : 0 < bit_count m name = omega (arith, one) in below) setting.clock input apart

  abbrev pub reset_place : ℕ
  reset_place = among.0

  pub place_is : input_place setting name ≡ Some reset_place
  place_is = numbers_bits.input_place setting m top reset ∙ among.1

  number_there : (bit : Bit) (o : ℕ) → slice_get bits o ≡ Some bit → number_in bits bit ≡ Some o
  number_there bit o at =
      bit_place m bit (filter (λ name. not (bytes_eq name setting.clock)) (inputs m))
      (once_kept (λ name. not (bytes_eq name setting.clock)) (inputs m) (once_kept (is_input m) (names m) (firsts_once _))) o at

  -- the bit at the place of the reset has its name
  named_there : (bit : Bit) → slice_get bits reset_place ≡ Some bit → bytes_eq bit.name name ≡ true
  named_there bit at =
      let found = position-Some (same_bit reset) bits reset_place bit among.1 in
      let same : same_bit reset bit ≡ true = ap (same_bit reset) (sym (get_or_from_slice_get bits reset_place bit bit at)) ∙ found.1 in
      let parts = and_parts (bytes_eq name bit.name) (0 == bit.place) same in
      (bytes_eq-Decides bit.name name).1 (sym ((bytes_eq-Decides name bit.name).0 parts.0))

  -- a bit of its name stands at its place
  place_there : (k : ℕ) (bit : Bit) → slice_get bits k ≡ Some bit → bytes_eq bit.name name ≡ true → k ≡ reset_place
  place_there k bit at same =
      let named : bit.name ≡ name = (bytes_eq-Decides bit.name name).0 same in
      let within : bit.place < bit_count m bit.name =
      bit_within m (filter (λ name. not (bytes_eq name setting.clock)) (inputs m)) k bit at in
      let first : bit.place ≡ 0 = omega (arith, within, ap (bit_count m) named, one) in
      let is : bit ≡ reset = λ j. bit_of (named j) (first j) in
      same_Some k reset_place (sym (number_there bit k at) ∙ ap (number_in bits) is ∙ among.1)

  tests : (k : ℕ) (bit : Bit) → slice_get bits k ≡ Some bit → (k == reset_place) ≡ bytes_eq bit.name name
  tests k bit at = by (bytes_eq bit.name name) refl (k == reset_place) refl
    where
      by : (named : Bool) → bytes_eq bit.name name ≡ named → (placed : Bool) → (k == reset_place) ≡ placed → placed ≡ named
      by true named true placed = refl
      by false named false placed = refl
      by true named false placed =
          absurd (let found : (k == reset_place) ≡ true = (Decides-eqb k reset_place).1 (place_there k bit at named) in cc)
      by false named true placed =
          absurd (let is : k ≡ reset_place = (Decides-eqb k reset_place).0 placed in
          let found : bytes_eq bit.name name ≡ true = named_there bit (sym (ap (slice_get bits) is) ∙ at) in cc)

  pub row_is : (value : Bool) → net.row_with (flat setting) reset_place value ≡ design.row_with setting name value
  row_is value =
      by_places (λ place. (place == reset_place) && value) (λ key. bytes_eq key.name name && value) (input_keys setting) 0
      (λ k key at.
      let found = map_at (key_in []) bits k key (ap (λ keys. slice_get keys k) (sym (inputs_are setting m top)) ∙ at) in
      ap (λ place. (place == reset_place) && value) {x = 0 + k} {y = k} (omega arith)
      ∙ ap (λ b. b && value) (tests k found.0 found.1)
      ∙ ap (λ (key : Key). bytes_eq key.name name && value) (sym found.2))
