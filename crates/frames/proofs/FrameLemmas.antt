-- The edges of the names of an instance, by the places of its module.
use Rattle.std.proofs.Common.{◌≡◌, ℕ, ◌+◌, ◌<◌, Bool, true, false, not, ◌&&◌, ◌||◌, Option, Some, None, is_some, refl, sym, ◌∙◌, ap, arith, bytes_eq, filter, option_map, unwrap_or}
use Rattle.std.specs.Option.{IfSome}
use Rattle.std.proofs.lemmas.Bool.{false≢true}
use Rattle.std.proofs.lemmas.Option.{none-some}
use Rattle.std.proofs.lemmas.Slice.Eq.{bytes_eq-Decides}
use Rattle.flat_net.specs.Edges.{plain}
use Rattle.lowering.specs.Wiring.{edge_in}
use Rattle.numbering.specs.declared.place.Place.{Place}
use Rattle.numbering.specs.declared.place.Place.TheVariants as place
use Rattle.vlog_tree.specs.declared.design.Module.{Module}
use Rattle.vlog_tree.specs.Meaning.Keys.{bit_count}
use Rattle.vlog_tree.specs.Meaning.Lefts.{Bit, bit_of, number_in}
use Rattle.vlog_tree.specs.Meaning.Names.{inputs, is_input, is_register, names, registers}
use Rattle.vlog_tree.specs.Meaning.Ranges.{range_of, span}
use Rattle.vlog_tree.specs.Meaning.Uses.{Text}
use Rattle.numbering.specs.Bits.{driven_bits, driven_names, is_driven, register_bits}
use Rattle.numbering.specs.Places.{IsPlace, Placing, input_bits_by, placed_driven}
use Rattle.numbering.proofs.NumberBitLemmas.{all_kept, failed_place, passes_kept}
use Rattle.frames.specs.Framed.{AreInside, Framed, edge_by, wire_of, wires_of}

module _ (m : Module) (bit : Bit) where
  no_register : is_register m bit.name ≡ false → number_in (register_bits m) bit ≡ None
  no_register is = failed_place m bit (is_register m) (registers m) (passes_kept (is_register m) (names m)) is

  no_driven : (top : Bool) → is_driven top m bit.name ≡ false → number_in (driven_bits top m) bit ≡ None
  no_driven top is = failed_place m bit (is_driven top m) (driven_names top m) (passes_kept (is_driven top m) (names m)) is

  no_input : (clock : Option Text) → (is_some clock ≡ true → is_input m bit.name ≡ false) → number_in (input_bits_by clock m) bit ≡ None
  no_input None none = refl
  no_input (Some clock) none =
      failed_place m bit (is_input m) (filter (λ name. not (bytes_eq name clock)) (inputs m))
      (all_kept (is_input m) (λ name. not (bytes_eq name clock)) (inputs m) (passes_kept (is_input m) (names m))) (none refl)

  no_clock : (clock : Option Text) → clock ≡ Some bit.name → number_in (input_bits_by clock m) bit ≡ None
  no_clock clock is =
      ap (λ clock. number_in (input_bits_by clock m) bit) is
      ∙ failed_place m bit (λ name. not (bytes_eq name bit.name)) (filter (λ name. not (bytes_eq name bit.name)) (inputs m))
      (passes_kept (λ name. not (bytes_eq name bit.name)) (inputs m)) (ap not ((bytes_eq-Decides bit.name bit.name).1 refl))

neither : (register input top : Bool) → not (register || (top && input)) ≡ true → (register ≡ false) × (top ≡ true → input ≡ false)
neither true input top h = absurd (false≢true h)
neither false true true h = absurd (false≢true h)
neither false false top h = (refl, λ e. refl)
neither false true false h = (refl, λ e. absurd (false≢true e))

-- The wires of a name are those of its place.
pub edges_are : (it : Framed) → AreInside it → (name : Text) (bit : ℕ) → bit < bit_count it.placing.definition name
    → (place : Place) → IsPlace it.placing name place → wires_of it name bit ≡ edge_in (wire_of it place) bit
edges_are it inside name bit few place.Clock is =
    let m = it.placing.definition in
    let one : Bit = bit_of name bit in
    let top : is_some it.placing.clock ≡ true = ap is_some is.0 in
    let not_driven : is_driven (is_some it.placing.clock) m name ≡ false =
    (λ j. not (is_register m name || (top j && is_input m name))) ∙ (λ j. not (is.2 j || (true && is.1 j))) in
    λ j. edge_by it (no_clock m one it.placing.clock is.0 j) (no_register m one is.2 j)
    (no_driven m one (is_some it.placing.clock) not_driven j)
edges_are it inside name bit few (place.Input first) is =
    let m = it.placing.definition in
    let one : Bit = bit_of name bit in
    (λ j. edge_by it (is.3.each bit few j) (number_in (register_bits m) one) (number_in (driven_bits (is_some it.placing.clock) m) one))
    ∙ ap plain {x = 1 + (first + bit)} {y = 1 + first + bit} (omega arith)
edges_are it inside name bit few (place.Register first) is =
    let m = it.placing.definition in
    let one : Bit = bit_of name bit in
    (λ j. edge_by it (no_input m one it.placing.clock (λ _. inside.apart name is.0) j) (is.1.each bit few j)
    (number_in (driven_bits (is_some it.placing.clock) m) one))
    ∙ ap plain {x = 1 + it.inputs + (it.first_register + (first + bit))} {y = 1 + it.inputs + it.first_register + first + bit} (omega arith)
edges_are it inside name bit few (place.Driven first) is =
    let m = it.placing.definition in
    let one : Bit = bit_of name bit in
    let parts = neither (is_register m name) (is_input m name) (is_some it.placing.clock) is.0 in
    (λ j. edge_by it (no_input m one it.placing.clock parts.1 j) (no_register m one parts.0 j) (is.1.each bit few j))
    ∙ ap plain {x = 1 + it.inputs + it.registers + (it.first_driven + (first + bit))}
    {y = 1 + it.inputs + it.registers + it.first_driven + first + bit} (omega arith)

-- A name that is not known has no bits.
pub no_bits : (m : Module) (name : Text) (bit : ℕ) → false ≡ is_some (range_of m name) → bit < bit_count m name → ⊥
no_bits m name bit none few = by (range_of m name) none few
  where
    by : (range : Option _) → false ≡ is_some range → bit < unwrap_or (option_map span range) 0 → ⊥
    by None none few = absurd (omega arith)
    by (Some range) none few = false≢true none

-- ---- driven bits

pub driven_numbers : (it : Placing) (name : Text) (bit : ℕ) → bit < bit_count it.definition name → (found : Option Place)
    → is_some found ≡ is_some (range_of it.definition name) → IfSome found (IsPlace it name)
    → ((first : ℕ) → found ≡ Some (place.Driven first) → ⊥) → number_in (placed_driven it) (bit_of name bit) ≡ None
driven_numbers it name bit few None known is other = absurd (no_bits it.definition name bit known few)
driven_numbers it name bit few (Some place.Clock) known is other =
    no_driven it.definition (bit_of name bit) (is_some it.clock)
    ((λ j. not (is_register it.definition name || (is_some (is.0 j) && is_input it.definition name))) ∙ (λ j. not (is.2 j || (true && is.1 j))))
driven_numbers it name bit few (Some (place.Input first)) known is other =
    no_driven it.definition (bit_of name bit) (is_some it.clock)
    (λ j. not (is.2 j || (is.0 j && is.1 j)))
driven_numbers it name bit few (Some (place.Register first)) known is other =
    no_driven it.definition (bit_of name bit) (is_some it.clock)
    (λ j. not (is.0 j || (is_some it.clock && is_input it.definition name)))
driven_numbers it name bit few (Some (place.Driven first)) known is other = absurd (other first refl)

-- ---- register bits

pub register_wire : (it : Framed) → AreInside it → (bit : Bit) (place : ℕ) → number_in (register_bits it.placing.definition) bit ≡ Some place
    → wires_of it bit.name bit.place ≡ plain (1 + it.inputs + it.first_register + place)
register_wire it inside bit place at =
    let m = it.placing.definition in
    (λ j. edge_by it (no_input m bit it.placing.clock (λ _. inside.apart bit.name (named (is_register m bit.name) refl)) j) (at j)
    (number_in (driven_bits (is_some it.placing.clock) m) bit))
    ∙ ap plain {x = 1 + it.inputs + (it.first_register + place)} {y = 1 + it.inputs + it.first_register + place} (omega arith)
  where
    named : (b : Bool) → is_register it.placing.definition bit.name ≡ b → b ≡ true
    named true is = refl
    named false is = absurd (none-some place (sym (no_register it.placing.definition bit is) ∙ at))
