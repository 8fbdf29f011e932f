-- The frame of the instance at a place.
use Rattle.std.proofs.Common.{◌≡◌, ℕ, suc, ◌+◌, ◌<◌, ◌≤◌, Bool, true, false, cond, List, [], ◌∷◌, Option, Some, None, refl, sym, ◌∙◌, ap, subst, arith, find, length, option_map, slice_get, slice_index_or}
use Rattle.std.proofs.lemmas.Bool.{false≢true}
use Rattle.std.proofs.lemmas.List.FromFn.{get_or-map-range_with_len, length-map-range_with_len}
use Rattle.std.proofs.lemmas.Option.{none-some}
use Rattle.bm_base.specs.Size.{limit_of}
use Rattle.bm_base.specs.declared.size.Size.TheVariants.{Nodes}
use Rattle.flat_net.specs.Edges.{plain}
use Rattle.vlog_tree.specs.Meaning.Instances.{Instance, instances}
use Rattle.vlog_tree.specs.Meaning.Keys.{input_keys, register_keys}
use Rattle.vlog_tree.specs.Meaning.Lefts.{Bit, bit_of, number_in}
use Rattle.vlog_tree.specs.Meaning.Uses.{Text}
use Rattle.numbering.specs.Bits.{driven_bits, input_bits, register_bits}
use Rattle.numbering.specs.Frames.{driven_before, registers_before}
use Rattle.numbering.specs.Numbering.{driven_keys, edge_of, first_of_expressions, is_top, key_in, wires_in}
use Rattle.numbering.specs.Numbers.{IsPlaced, place_of}
use Rattle.numbering.specs.Places.{IsApart, Placing, input_bits_by, placed_driven, placed_inputs, placed_registers}
use Rattle.numbering.proofs.NumberEdgeLemmas.{numbers_bits}
use Rattle.numbering.proofs.NumberKeyLemmas.{top_first, top_of}
use Rattle.frames.specs.Found.{placing_for}
use Rattle.frames.specs.Framed.{AreInside, Framed, edge_by, framed, wires_of}
use Rattle.frames.specs.Numbered.{IsReady, Numbered, setting_with}
use Rattle.frames.specs.Standing.{AreFrames, start_at, start_with}
use Rattle.frames.specs.declared.start.Start.{Start}
use Rattle.frames.proofs.CountLemmas.{driven_within, registers_within}
use Rattle.frames.proofs.GroundLemmas.{some_there}
use Rattle.frames.proofs.TopLemmas.{all_counted, clock_there, driven_are, inputs_within, is_the_top}

found_place : {X : Type 0} (test : X → Bool) (xs : List X) (x : X) → find test xs ≡ Some x → (i : ℕ) × (slice_get xs i ≡ Some x)
found_place test [] x is = absurd (cc)
found_place test (y ∷ xs) x is = by (test y) is (found_place test xs x)
  where
    by : (b : Bool) → cond b (Some y) (find test xs) ≡ Some x → (find test xs ≡ Some x → (i : ℕ) × (slice_get xs i ≡ Some x))
        → (i : ℕ) × (slice_get (y ∷ xs) i ≡ Some x)
    by true found later = (0, found)
    by false found later = let rest = later found in (suc rest.0, rest.1)

module _ (it : Numbered) (ready : IsReady (setting_with it)) where
  -- the frame of an instance at a place
  abbrev frame_for : ℕ → Instance → Framed
  frame_for i instance =
      framed (placing_for it instance) (registers_before (instances (setting_with it)) i) (driven_before (instances (setting_with it)) i)
      (length (input_keys (setting_with it))) (length (register_keys (setting_with it)))

  apart_at : (i : ℕ) (instance : Instance) → slice_get (instances (setting_with it)) i ≡ Some instance → IsApart instance.definition
  apart_at i instance at =
      let found = found_place _ it.design.modules instance.definition (ready.named i instance at) in
      ready.apart instance.definition found.0 found.1 (ready.reached i instance at)

  module _ (i : ℕ) (instance : Instance) (at : slice_get (instances (setting_with it)) i ≡ Some instance) where
    placed : IsPlaced (setting_with it) i instance
    placed = record { distinct = ready.distinct; there = at }

    input_of_top : (bit : Bit) (o : ℕ) (b : Bool) → is_top instance ≡ b
        → number_in (input_bits_by (cond b (Some it.clock) None) instance.definition) bit ≡ Some o
        → edge_of (setting_with it) (key_in instance.path bit) ≡ plain (1 + o)
    input_of_top bit o false differ here = absurd (none-some o here)
    input_of_top bit o true same here =
        let is : instance ≡ top_of ready.top.0 = is_the_top it ready i instance at same in
        ap (λ (instance : Instance). edge_of (setting_with it) (key_in instance.path bit)) is
        ∙ numbers_bits.input_edge (setting_with it) ready.top.0 ready.top.1 bit o
        (ap (λ (instance : Instance). number_in (input_bits it.clock instance.definition) bit) (sym is) ∙ here)

    no_input_there : (bit : Bit) (b : Bool) → is_top instance ≡ b
        → number_in (input_bits_by (cond b (Some it.clock) None) instance.definition) bit ≡ None
        → is_top instance ≡ true → number_in (input_bits it.clock instance.definition) bit ≡ None
    no_input_there bit false differ none same = absurd (false≢true (sym differ ∙ same))
    no_input_there bit true is none same = none

    edge_is : (bit : Bit) (input register driven : Option ℕ)
        → number_in (placed_inputs (placing_for it instance)) bit ≡ input
        → number_in (register_bits instance.definition) bit ≡ register
        → number_in (driven_bits (is_top instance) instance.definition) bit ≡ driven
        → edge_by (frame_for i instance) input register driven ≡ edge_of (setting_with it) (key_in instance.path bit)
    edge_is bit (Some input) register driven one two three = sym (input_of_top bit input (is_top instance) refl one)
    edge_is bit None (Some register) driven one two three =
        sym (numbers_bits.register_edge (setting_with it) ready.top.0 ready.top.1
        (apart_at 0 (top_of ready.top.0) (top_first (setting_with it) ready.top.0 ready.top.1)) i instance placed bit register two)
    edge_is bit None None (Some driven) one two three = sym (numbers_bits.driven_edge (setting_with it) i instance placed bit driven three)
    edge_is bit None None None one two three =
        sym (numbers_bits.no_edge (setting_with it) i instance placed bit two three (no_input_there bit (is_top instance) refl one))

    wires_are : (name : Text) (bit : ℕ) → wires_of (frame_for i instance) name bit ≡ wires_in (setting_with it) instance.path name bit
    wires_are name bit =
        ap (λ b. edge_by (frame_for i instance) (number_in (placed_inputs (placing_for it instance)) (bit_of name bit))
        (number_in (register_bits instance.definition) (bit_of name bit))
        (number_in (driven_bits b instance.definition) (bit_of name bit))) (clock_there it.clock (is_top instance))
        ∙ edge_is (bit_of name bit) _ _ _ refl refl refl

    driven_is : (bit : Bit) (driven : Option ℕ) → number_in (driven_bits (is_top instance) instance.definition) bit ≡ driven
        → place_of (driven_keys (setting_with it)) (key_in instance.path bit)
        ≡ option_map (λ number. driven_before (instances (setting_with it)) i + number) driven
    driven_is bit (Some number) is = numbers_bits.driven_place (setting_with it) i instance placed bit number is
    driven_is bit None is = numbers_bits.no_driven_place (setting_with it) i instance placed bit is

    driven_placed : (bit : Bit) → place_of (driven_keys (setting_with it)) (key_in instance.path bit)
        ≡ option_map (λ number. (frame_for i instance).first_driven + number) (number_in (placed_driven (placing_for it instance)) bit)
    driven_placed bit =
        driven_is bit _ refl
        ∙ ap (λ b. option_map (λ number. driven_before (instances (setting_with it)) i + number) (number_in (driven_bits b instance.definition) bit))
        (sym (clock_there it.clock (is_top instance)))

    inside : first_of_expressions (setting_with it) ≤ limit_of Nodes → AreInside (frame_for i instance)
    inside small =
        let list = instances (setting_with it) in
        let inputs : length (placed_inputs (placing_for it instance)) ≤ length (input_keys (setting_with it)) =
        inputs_within it ready i instance at (is_top instance) refl in
        let registers : registers_before list i + length (placed_registers (placing_for it instance)) ≤ registers_before list (length list) =
        registers_within list i instance at in
        let is : length (placed_driven (placing_for it instance)) ≡ length (driven_bits (is_top instance) instance.definition) =
        driven_are it ready i instance at in
        let driven : driven_before list i + length (driven_bits (is_top instance) instance.definition) ≤ driven_before list (length list) =
        driven_within list i instance at in
        let all = all_counted it in
        let count : length (register_keys (setting_with it)) ≡ registers_before list (length list) = numbers_bits.register_count (setting_with it) in
        record {
          apart = apart_at i instance at;
          inputs_inside = omega (arith, small, inputs, all);
          registers_inside = omega (arith, small, registers, all);
          driven_inside = omega (arith, small, is, driven, all, count);
        }

module _ (it : Numbered) (inputs : ℕ) (list : List Start) (end : Start) (are : AreFrames it inputs list end) (i : ℕ)
    (there : i < length (instances (setting_with it))) (items : List Start) (same : items ≡ list) where
  pub start_is : slice_index_or items i (start_with 0 0) ≡ start_at (instances (setting_with it)) i
  start_is =
      ap (λ items. slice_index_or items i (start_with 0 0)) (same ∙ are.starts.listed)
      ∙ get_or-map-range_with_len (start_at (instances (setting_with it))) 0 (length (instances (setting_with it))) i i (start_with 0 0) there (omega arith)

  pub start_there : i < length items
  start_there =
      subst (λ n. i < n)
      (sym (ap length (same ∙ are.starts.listed)
      ∙ length-map-range_with_len (start_at (instances (setting_with it))) 0 (length (instances (setting_with it)))))
      there

  module _ (places : Placing)
      (placed : (instance : Instance) → slice_get (instances (setting_with it)) i ≡ Some instance → places ≡ placing_for it instance) where
    abbrev here : Framed
    here =
        framed places (slice_index_or items i (start_with 0 0)).registers (slice_index_or items i (start_with 0 0)).driven inputs end.registers

    pub frame_is : (instance : Instance) → slice_get (instances (setting_with it)) i ≡ Some instance
        → here ≡ frame_for it are.ready i instance
    frame_is instance at =
        let registers : end.registers ≡ length (register_keys (setting_with it)) =
        ap (λ (start : Start). start.registers) are.starts.ended ∙ sym (numbers_bits.register_count (setting_with it)) in
        λ j. framed (placed instance at j) (start_is j).registers (start_is j).driven (are.starts.inputs_are j) (registers j)

    pub frame_inside : AreInside here
    frame_inside =
        let found = some_there (instances (setting_with it)) i there in
        subst AreInside (sym (frame_is found.0 found.1)) (inside it are.ready i found.0 found.1 are.starts.within)

    pub frame_wires : (frame : Framed) → frame ≡ here → (instance : Instance) → slice_get (instances (setting_with it)) i ≡ Some instance
        → (name : Text) (bit : ℕ) → wires_of frame name bit ≡ wires_in (setting_with it) instance.path name bit
    frame_wires frame is instance at name bit =
        ap (λ frame. wires_of frame name bit) (is ∙ frame_is instance at) ∙ wires_are it are.ready i instance at name bit

    pub frame_driven : (frame : Framed) → frame ≡ here → (instance : Instance) → slice_get (instances (setting_with it)) i ≡ Some instance
        → (bit : Bit) → place_of (driven_keys (setting_with it)) (key_in instance.path bit)
        ≡ option_map (λ number. frame.first_driven + number) (number_in (placed_driven frame.placing) bit)
    frame_driven frame is instance at bit =
        driven_placed it are.ready i instance at bit
        ∙ sym (ap (λ (frame : Framed). option_map (λ number. frame.first_driven + number) (number_in (placed_driven frame.placing) bit))
        (is ∙ frame_is instance at))
