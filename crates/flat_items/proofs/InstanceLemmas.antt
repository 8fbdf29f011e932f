-- All items of an instance, and where its children stand.
use Rattle.std.proofs.Common.{◌≡◌, ◌+◌, ◌≤◌, ◌++◌, ℕ, zero, suc, true, List, [], ◌∷◌, Option, None, Some, IsSome, ap, arith, drop, filter_map, length, map, refl, slice_get, subst, sym, ◌∙◌}
use Rattle.std.specs.List.{cons_option, list_all, range_with_len}
use Rattle.std.proofs.lemmas.Bool.{and_parts}
use Rattle.std.proofs.lemmas.List.{at_drop_all}
use Rattle.std.proofs.lemmas.Option.{same_Some}
use Rattle.design_laws.specs.Sound.{IsSound, item_is_sound}
use Rattle.flat_design.specs.Instances.{own_edges}
use Rattle.flat_design.specs.Items.{Giving, each, item_given}
use Rattle.flat_items.specs.Carried.{Carried, CarriesTo}
use Rattle.flat_items.specs.Framing.{IsFrame}
use Rattle.flat_items.specs.Inner.{IsNextInner, StandsAt, inner_count}
use Rattle.flat_items.specs.Whole.{InstanceGives, InstanceGivesTo}
use Rattle.flat_items.proofs.CarryLemmas.{Yet, all_left, none_left, one_turn, turn_fails}
use Rattle.flat_net.specs.declared.edge.Edge.{Edge}
use Rattle.flat_net.specs.declared.fault.FlatFault.{FlatFault}
use Rattle.flat_net.specs.Edges.{plain}
use Rattle.frames.specs.Framed.{Framed, wires_of}
use Rattle.instances.specs.Shapes.{shapes_from}
use Rattle.instances.specs.Standing.{ChildrenStand}
use Rattle.instances.proofs.StandingLemmas.{top_stand}
use Rattle.lowering.specs.Limits.{Added}
use Rattle.lowering.proofs.ListLemmas.{next_found}
use Rattle.numbering.specs.Bits.{register_bits}
use Rattle.numbering.specs.Places.{placed_registers}
use Rattle.numbering.proofs.NumberBitLemmas.{bit_place, firsts_once, once_kept}
use Rattle.vlog_tree.specs.declared.design.Module.{Module}
use Rattle.vlog_tree.specs.declared.item.Item.{Item}
use Rattle.vlog_tree.specs.Meaning.Instances.{Child, Instance, Path, child_of, greatest_depth, instances, top_module}
use Rattle.vlog_tree.specs.Meaning.Lefts.{Bit, number_in}
use Rattle.vlog_tree.specs.Meaning.Names.{is_register, names, registers}
use Rattle.vlog_tree.specs.Meaning.Setting.{Setting}

-- ---- registers

own_from : (first : ℕ) (f : Bit → Edge) (bits : List Bit) (k : ℕ)
    → ((i : ℕ) (bit : Bit) → slice_get bits i ≡ Some bit → f bit ≡ plain (first + (k + i)))
    → map (λ place. plain (first + place)) (range_with_len k (length bits)) ≡ map f bits
own_from first f [] k each = refl
own_from first f (bit ∷ bits) k each =
    λ j. (ap (λ place. plain (first + place)) {x = k} {y = k + 0} (omega arith) ∙ sym (each 0 bit refl)) j
    ∷ own_from first f bits (k + 1)
    (λ i other at. each (suc i) other at ∙ ap (λ place. plain (first + place)) {x = k + suc i} {y = k + 1 + i} (omega arith)) j

register_there : (m : Module) (bit : Bit) (o : ℕ) → slice_get (register_bits m) o ≡ Some bit → number_in (register_bits m) bit ≡ Some o
register_there m bit o at = bit_place m bit (registers m) (once_kept (is_register m) (names m) (firsts_once _)) o at

pub own_are : (frame : Framed) (first : ℕ)
    → ((bit : Bit) (place : ℕ) → number_in (placed_registers frame.placing) bit ≡ Some place
    → wires_of frame bit.name bit.place ≡ plain (first + place))
    → (count : ℕ) → count ≡ length (placed_registers frame.placing)
    → (setting : Setting) (place : ℕ) (instance : Instance) → IsFrame setting place instance frame
    → map (λ place. plain (first + place)) (range_with_len 0 count) ≡ map (own_edges setting instance) (register_bits instance.definition)
own_are frame first edges count counted setting place instance is =
    ap (λ n. map (λ place. plain (first + place)) (range_with_len 0 n)) counted
    ∙ own_from first (own_edges setting instance) (register_bits frame.placing.definition) 0
    (λ i bit at. sym (is.wires bit.name bit.place)
    ∙ edges bit i (register_there frame.placing.definition bit i at)
    ∙ ap (λ place. plain (first + place)) {x = i} {y = 0 + i} (omega arith))
    ∙ (λ j. map (own_edges setting instance) (register_bits (is.definition j)))

-- ---- where children stand

-- A top that there is has a module.
pub some_module : (o : Option Module) → IsSome o → (m : Module) × (o ≡ Some m)
some_module (Some m) there = (m, refl)
some_module None there = absurd (cc)

module _ (setting : Setting) (place : ℕ) where
  -- From a place on, the children of these items stand one behind the other.
  abbrev pub StandLeft : ℕ → List Item → Type 0
  StandLeft inner items =
      (instance : Instance) → slice_get (instances setting) place ≡ Some instance
      → (m : Module) → top_module setting ≡ Some m
      → ChildrenStand (instances setting) (shapes_from setting.design greatest_depth m) inner instance.path
      (filter_map (child_of setting.design) items)

  pub all_stand : IsSound setting → (items : List Item)
      → ((instance : Instance) → slice_get (instances setting) place ≡ Some instance → items ≡ instance.definition.items)
      → StandLeft (place + 1) items
  all_stand sound items are instance at m top =
      subst (λ (items : List Item). ChildrenStand (instances setting) (shapes_from setting.design greatest_depth m) (place + 1) instance.path
      (filter_map (child_of setting.design) items)) (sym (are instance at))
      (top_stand setting.design greatest_depth (top_module setting) m top
      (λ i k outer child here there. sound.inside i outer child here (sound.children i outer here k child there))
      place instance at)

  -- what is sound of all is sound of each
  sound_at : (m : Module) (items : List Item) (i : ℕ) (item : Item) → slice_get items i ≡ Some item
      → list_all (item_is_sound setting.design m) items ≡ true → item_is_sound setting.design m item ≡ true
  sound_at m [] i item at all = absurd (cc)
  sound_at m (first ∷ items) zero item at all =
      ap (item_is_sound setting.design m) (sym (same_Some first item at))
      ∙ (and_parts (item_is_sound setting.design m first) (list_all (item_is_sound setting.design m) items) all).0
  sound_at m (first ∷ items) (suc i) item at all =
      sound_at m items i item at (and_parts (item_is_sound setting.design m first) (list_all (item_is_sound setting.design m) items) all).1

  module _ (items : List Item) (i : ℕ) (item : Item) (here : slice_get items i ≡ Some item) (inner : ℕ) (left : StandLeft inner (drop i items)) where
    -- the children of this item and those behind it
    abbrev both : Option Child → List Child
    both child = cons_option child (filter_map (child_of setting.design) (drop (i + 1) items))

    stand_both : (instance : Instance) → slice_get (instances setting) place ≡ Some instance
        → (m : Module) → top_module setting ≡ Some m
        → ChildrenStand (instances setting) (shapes_from setting.design greatest_depth m) inner instance.path (both (child_of setting.design item))
    stand_both instance at m top =
        subst (λ (items : List Item). ChildrenStand (instances setting) (shapes_from setting.design greatest_depth m) inner instance.path
        (filter_map (child_of setting.design) items)) (next_found items i item here) (left instance at m top)

    pub item_stands : IsSound setting
        → ((instance : Instance) → slice_get (instances setting) place ≡ Some instance → items ≡ instance.definition.items)
        → StandsAt setting place inner item
    item_stands sound are = record {
      sound =
          λ instance at. sound_at instance.definition items i item here
          (ap (list_all (item_is_sound setting.design instance.definition)) (are instance at) ∙ sound.items place instance at);
      stands =
          λ instance at child is.
          let top : (m : Module) × (top_module setting ≡ Some m) = some_module (top_module setting) sound.top in
          (subst (λ (child : Option Child). ChildrenStand (instances setting) (shapes_from setting.design greatest_depth top.0) inner instance.path
          (both child)) is (stand_both instance at top.0 top.1)).0;
    }

    next_by : (m : Module) (path : Path) (child : Option Child)
        → ChildrenStand (instances setting) (shapes_from setting.design greatest_depth m) inner path (both child)
        → (next : ℕ) → next ≡ inner + inner_count (shapes_from setting.design greatest_depth m) inner child
        → ChildrenStand (instances setting) (shapes_from setting.design greatest_depth m) next path
        (filter_map (child_of setting.design) (drop (i + 1) items))
    next_by m path (Some child) stand next is =
        subst (λ next. ChildrenStand (instances setting) (shapes_from setting.design greatest_depth m) next path
        (filter_map (child_of setting.design) (drop (i + 1) items))) (sym is) stand.1
    next_by m path None stand next is =
        subst (λ next. ChildrenStand (instances setting) (shapes_from setting.design greatest_depth m) next path
        (filter_map (child_of setting.design) (drop (i + 1) items))) (let same : inner ≡ next = omega (arith, is) in same) stand

    pub next_stand : (next : ℕ) → IsNextInner setting inner item next → StandLeft next (drop (i + 1) items)
    next_stand next is instance at m top =
        next_by m instance.path (child_of setting.design item) (stand_both instance at m top) next (is m top)

  -- ---- items one after another

  -- What is left of the items makes the whole.
  abbrev pub ItemsLeft : List Item → List Item → Added → Added → List (Option Edge) → List (Option Edge) → List Edge → List Edge → Type 0
  ItemsLeft left items here start given old now was =
      (instance : Instance) → slice_get (instances setting) place ≡ Some instance
      → Yet setting instance.definition (each (item_given setting instance) left) (each (item_given setting instance) items)
      here start given old now was

  pub items_begin : (items : List Item) (start : Added) (old : List (Option Edge)) (was : List Edge)
      → ItemsLeft items items start start old old was was
  items_begin items start old was instance at = all_left setting instance.definition (each (item_given setting instance) items) start old was

  module _ (items : List Item) (i : ℕ) (here start : Added) (given old : List (Option Edge)) (now was : List Edge) (left : ItemsLeft (drop i items) items here start given old now was) where
    module _ (item : Item) (found : slice_get items i ≡ Some item) where
      yet_both : (instance : Instance) → slice_get (instances setting) place ≡ Some instance
          → Yet setting instance.definition (each (item_given setting instance) (item ∷ drop (i + 1) items))
          (each (item_given setting instance) items) here start given old now was
      yet_both instance at =
          subst (λ (left : List Item). Yet setting instance.definition (each (item_given setting instance) left)
          (each (item_given setting instance) items) here start given old now was) (next_found items i item found) (left instance at)

      pub items_turn : (there : Added) (more : List (Option Edge)) (then : List Edge)
          → ((instance : Instance) → slice_get (instances setting) place ≡ Some instance
          → Carried setting instance.definition (item_given setting instance item) here there given more now then)
          → ItemsLeft (drop (i + 1) items) items there start more old then was
      items_turn there more then one instance at =
          one_turn setting instance.definition (item_given setting instance) item (drop (i + 1) items)
          (each (item_given setting instance) items) here there start given more old now then was (yet_both instance at) (one instance at)

      pub items_fail : (fault : FlatFault)
          → ((instance : Instance) → slice_get (instances setting) place ≡ Some instance
          → CarriesTo instance.definition (item_given setting instance item) here now fault)
          → ((instance : Instance) → slice_get (instances setting) place ≡ Some instance → items ≡ instance.definition.items)
          → (instance : Instance) → slice_get (instances setting) place ≡ Some instance
          → CarriesTo instance.definition (each (item_given setting instance) instance.definition.items) start was fault
      items_fail fault one are instance at =
          subst (λ (items : List Item). CarriesTo instance.definition (each (item_given setting instance) items) start was fault)
          (are instance at)
          (turn_fails setting instance.definition (item_given setting instance) item (drop (i + 1) items)
          (each (item_given setting instance) items) here start given old now was fault (yet_both instance at) (one instance at))

    pub items_end : length items ≤ i
        → ((instance : Instance) → slice_get (instances setting) place ≡ Some instance → items ≡ instance.definition.items)
        → (instance : Instance) → slice_get (instances setting) place ≡ Some instance
        → Carried setting instance.definition (each (item_given setting instance) instance.definition.items) start here old given was now
    items_end past are instance at =
        subst (λ (items : List Item). Carried setting instance.definition (each (item_given setting instance) items) start here old given was now)
        (are instance at)
        (none_left setting instance.definition (item_given setting instance) (each (item_given setting instance) items)
        here start given old now was
        (subst (λ (giving : Giving). Yet setting instance.definition giving (each (item_given setting instance) items) here start given old now was)
        (at_drop_all (λ left. each (item_given setting instance) left) items i past) (left instance at)))

  -- ---- the whole instance

  module _ (was : List Edge) (own : (instance : Instance) → slice_get (instances setting) place ≡ Some instance → was ≡ map (own_edges setting instance) (register_bits instance.definition)) where
    pub whole_gives : (start end : Added) (old new : List (Option Edge)) (now before after : List Edge)
        → ((instance : Instance) → slice_get (instances setting) place ≡ Some instance
        → Carried setting instance.definition (each (item_given setting instance) instance.definition.items) start end old new was now)
        → after ≡ before ++ now
        → InstanceGives setting place start end old new before after
    whole_gives start end old new now before after carried after_is = record {
      nodes = λ instance at. (carried instance at).nodes (own_edges setting instance) (own instance at);
      driven = λ instance at. (carried instance at).driven (own_edges setting instance) (own instance at);
      registers =
          λ instance at. after_is
          ∙ ap (λ edges. before ++ edges) ((carried instance at).registers (own_edges setting instance) (own instance at));
    }

    pub whole_fails : (start : Added) (fault : FlatFault)
        → ((instance : Instance) → slice_get (instances setting) place ≡ Some instance
        → CarriesTo instance.definition (each (item_given setting instance) instance.definition.items) start was fault)
        → InstanceGivesTo setting place start fault
    whole_fails start fault fails instance at = fails instance at (own_edges setting instance) (own instance at)
