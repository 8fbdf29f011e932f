-- The items of an instance.
use Rattle.std.proofs.Common.{◌≡◌, ◌+◌, ◌<◌, ℕ, zero, suc, true, List, [], ◌∷◌, Option, None, Some, append-nil, ap, arith, is_some, length, map, option_map, refl, slice_get, subst, sym, ◌∙◌}
use Rattle.std.specs.List.{enumerate_from, list_all}
use Rattle.std.specs.Option.{option_to_list}
use Rattle.std.proofs.lemmas.Bool.{and_parts}
use Rattle.std.proofs.lemmas.Option.{slice_get_within}
use Rattle.drives.specs.Given.{given_so_far}
use Rattle.design_laws.specs.Sound.{item_is_sound, link_is_sound}
use Rattle.flat_design.specs.Items.{always_given, child_given, each, item_given, link_given}
use Rattle.flat_items.specs.Carried.{Carried, CarriesTo}
use Rattle.flat_items.specs.Framing.{IsFrame}
use Rattle.flat_items.specs.Inner.{IsNextInner, StandsAt, inner_count}
use Rattle.flat_items.specs.Linked.{AreLinked, Links, LinksTo}
use Rattle.flat_items.proofs.CarryLemmas.{alone_carried, first_fails}
use Rattle.flat_net.specs.declared.edge.Edge.{Edge}
use Rattle.flat_net.specs.declared.fault.FlatFault.{FlatFault}
use Rattle.frames.specs.Framed.{Framed, wires_of}
use Rattle.instances.specs.Shapes.{shapes_from, size_at}
use Rattle.lowering.specs.Expressions.{Wires}
use Rattle.lowering.specs.Limits.{Added, Excuses, next_of, with_more}
use Rattle.lowering.specs.Lowered.{lowered}
use Rattle.numbering.specs.Bits.{register_bits}
use Rattle.numbering.specs.Numbering.{wires_in}
use Rattle.processes.specs.Statements.{Registers, process_of}
use Rattle.flat_items.proofs.FrameLemmas.{wires_are}
use Rattle.vlog_tree.specs.declared.design.Module.{Module}
use Rattle.vlog_tree.specs.declared.item.Item.{Item}
use Rattle.vlog_tree.specs.declared.item.Item.TheVariants as item
use Rattle.vlog_tree.specs.declared.item.Link.{Link}
use Rattle.vlog_tree.specs.declared.stmt.Stmt.{Stmt}
use Rattle.vlog_tree.specs.Meaning.Instances.{Child, Instance, child_of, greatest_depth, inside, instances, module_named, top_module}
use Rattle.vlog_tree.specs.Meaning.Setting.{Setting}
use Rattle.vlog_tree.specs.Meaning.Uses.{Text}

-- ---- an item whose form is known

module _ (setting : Setting) (instance : Instance) (it form : Item) (is : it ≡ form) where
  pub of_form : (start end : Added) (old new : List (Option Edge)) (was now : List Edge)
      → Carried setting instance.definition (item_given setting instance form) start end old new was now
      → Carried setting instance.definition (item_given setting instance it) start end old new was now
  of_form start end old new was now carried =
      subst (λ (it : Item). Carried setting instance.definition (item_given setting instance it) start end old new was now) (sym is) carried

  pub form_fails : (start : Added) (was : List Edge) (fault : FlatFault)
      → CarriesTo instance.definition (item_given setting instance form) start was fault
      → CarriesTo instance.definition (item_given setting instance it) start was fault
  form_fails start was fault fails =
      subst (λ (it : Item). CarriesTo instance.definition (item_given setting instance it) start was fault) (sym is) fails

-- the next child stands where this one would, where the item is none
pub same_place : (setting : Setting) (inner : ℕ) (it form : Item) → it ≡ form → child_of setting.design form ≡ None
    → IsNextInner setting inner it inner
same_place setting inner it form is none m top =
    let counted : inner_count (shapes_from setting.design greatest_depth m) inner (child_of setting.design it) ≡ 0 =
    ap (λ (it : Item). inner_count (shapes_from setting.design greatest_depth m) inner (child_of setting.design it)) is
    ∙ ap (inner_count (shapes_from setting.design greatest_depth m) inner) none in
    omega (arith, counted)

-- ---- `always`

-- what a statement changes of the edges of a module's registers, with its nodes
abbrev pub Changes : Module → Wires → Stmt → Added → Added → List Edge → List Edge → Type 0
Changes m wires body start end was now =
    ((before : Registers) → was ≡ map before (register_bits m)
    → now ≡ map ((process_of m wires body).change before (next_of start)).registers (register_bits m))
    × ((before : Registers) → was ≡ map before (register_bits m)
    → end ≡ with_more start (lowered ((process_of m wires body).change before (next_of start)).nodes []))

abbrev pub ChangesTo : Module → Wires → Stmt → Added → List Edge → FlatFault → Type 0
ChangesTo m wires body start was fault =
    (before : Registers) → was ≡ map before (register_bits m)
    → Excuses (next_of start + length ((process_of m wires body).change before (next_of start)).nodes) fault

module _ (setting : Setting) (place : ℕ) (instance : Instance) (frame : Framed) (is : IsFrame setting place instance frame) (body : Stmt) where
  pub always_carried : (start end : Added) (old : List (Option Edge)) (was now : List Edge)
      → Changes frame.placing.definition (wires_of frame) body start end was now
      → Carried setting instance.definition (always_given setting instance body) start end old old was now
  always_carried start end old was now changes =
      let there : Changes instance.definition (wires_in setting instance.path) body start end was now =
      subst (λ (m : Module). Changes m (wires_in setting instance.path) body start end was now) is.definition
      (subst (λ (wires : Wires). Changes frame.placing.definition wires body start end was now)
      (wires_are setting place instance frame is) changes) in
      record {
        nodes = there.1;
        driven =
            λ before was_is drives ports old_is. old_is
            ∙ (λ j. given_so_far setting (sym (append-nil drives) j) (sym (append-nil ports) j));
        registers = there.0;
      }

  pub always_fails : (start : Added) (was : List Edge) (fault : FlatFault)
      → ChangesTo frame.placing.definition (wires_of frame) body start was fault
      → CarriesTo instance.definition (always_given setting instance body) start was fault
  always_fails start was fault changes =
      subst (λ (m : Module). ChangesTo m (wires_in setting instance.path) body start was fault) is.definition
      (subst (λ (wires : Wires). ChangesTo frame.placing.definition wires body start was fault)
      (wires_are setting place instance frame is) changes)

-- ---- children

some_there : {X : Type 0} (o : Option X) → is_some o ≡ true → (x : X) × (o ≡ Some x)
some_there (Some x) is = (x, refl)
some_there None is = absurd (cc)

pub at_place : {X : Type 0} (xs : List X) (place : ℕ) → place < length xs → (x : X) × (slice_get xs place ≡ Some x)
at_place [] place below = absurd (omega arith)
at_place (x ∷ xs) zero below = (x, refl)
at_place (x ∷ xs) (suc place) below = at_place xs place (omega arith)

module _ (setting : Setting) (place inner : ℕ) (it : Item) (stands : StandsAt setting place inner it) (at : ℕ) (named name : Text) (links : List Link) (is : it ≡ item.Instance at named name links) where
  -- The child of the item, in an instance at the place.
  pub record HasChild (instance : Instance) : Type 0 where
    pub child : Child
    pub links_are : child.links ≡ links
    pub of : child_of setting.design it ≡ Some child
    pub there : slice_get (instances setting) inner ≡ Some (inside instance.path child)

  pub has_child : (instance : Instance) → slice_get (instances setting) place ≡ Some instance → HasChild instance
  has_child instance at_it =
      let sound : item_is_sound setting.design instance.definition (item.Instance at named name links) ≡ true =
      ap (item_is_sound setting.design instance.definition) (sym is) ∙ stands.sound instance at_it in
      let parts = and_parts (is_some (module_named setting.design named)) (list_all (link_is_sound instance.definition) links) sound in
      let found : (m : Module) × (module_named setting.design named ≡ Some m) = some_there (module_named setting.design named) parts.0 in
      let one : Child = record { name = name; definition = found.0; links = links } in
      let of : child_of setting.design it ≡ Some one =
      ap (child_of setting.design) is
      ∙ ap (λ (o : Option Module). option_map (child_with) o) found.1 in
      record { child = one; links_are = refl; of = of; there = stands.stands instance at_it one of }
    where
      child_with : Module → Child
      child_with m = record { name = name; definition = m; links = links }

  pub inner_below : place < length (instances setting) → inner < length (instances setting)
  inner_below below =
      let found = at_place (instances setting) place below in
      let has : HasChild found.0 = has_child found.0 found.1 in
      slice_get_within (instances setting) inner (inside found.0.path has.child) has.there

  pub next_place : place < length (instances setting) → (next : ℕ)
      → ((m : Module) → top_module setting ≡ Some m → next ≡ inner + size_at (shapes_from setting.design greatest_depth m) inner)
      → IsNextInner setting inner it next
  next_place below next sized m top =
      let found = at_place (instances setting) place below in
      let has : HasChild found.0 = has_child found.0 found.1 in
      sized m top
      ∙ ap (λ (child : Option Child). inner + inner_count (shapes_from setting.design greatest_depth m) inner child) (sym has.of)

  module _ (instance : Instance) (at_it : slice_get (instances setting) place ≡ Some instance) (frame child_frame : Framed) (outer : IsFrame setting place instance frame) (inner_is : (child : Instance) → slice_get (instances setting) inner ≡ Some child → IsFrame setting inner child child_frame) where
    linked : (has : HasChild instance) → AreLinked setting instance has.child frame child_frame
    linked has = record {
      place = place;
      outer = outer;
      inner_place = inner;
      inner_is = inner_is (inside instance.path has.child) has.there;
    }

    pub inner_carried : (start end : Added) (old new : List (Option Edge)) (was : List Edge)
        → Links frame child_frame (λ setting instance child. each (link_given setting instance child) (enumerate_from 0 links)) start end old new
        → Carried setting instance.definition (item_given setting instance it) start end old new was was
    inner_carried start end old new was given =
        let has : HasChild instance = has_child instance at_it in
        let one : Carried setting instance.definition (child_given setting instance has.child) start end old new was was =
        subst (λ (links : List Link). Carried setting instance.definition
        (each (link_given setting instance has.child) (enumerate_from 0 links)) start end old new was was)
        (sym has.links_are) (given setting instance has.child (linked has) was) in
        let alone = alone_carried setting instance.definition (child_given setting instance) has.child start end old new was was one in
        of_form setting instance it (item.Instance at named name links) is start end old new was was
        (subst (λ (child : Option Child). Carried setting instance.definition
        (each (child_given setting instance) (option_to_list child)) start end old new was was)
        (sym has.of ∙ ap (child_of setting.design) is) alone)

    pub inner_fails : (start : Added) (was : List Edge) (fault : FlatFault)
        → LinksTo frame child_frame (λ setting instance child. each (link_given setting instance child) (enumerate_from 0 links)) start fault
        → CarriesTo instance.definition (item_given setting instance it) start was fault
    inner_fails start was fault given =
        let has : HasChild instance = has_child instance at_it in
        let one : CarriesTo instance.definition (child_given setting instance has.child) start was fault =
        subst (λ (links : List Link). CarriesTo instance.definition
        (each (link_given setting instance has.child) (enumerate_from 0 links)) start was fault)
        (sym has.links_are) (given setting instance has.child (linked has) was) in
        let alone = first_fails setting instance.definition (child_given setting instance) has.child [] start was fault one in
        form_fails setting instance it (item.Instance at named name links) is start was fault
        (subst (λ (child : Option Child). CarriesTo instance.definition
        (each (child_given setting instance) (option_to_list child)) start was fault)
        (sym has.of ∙ ap (child_of setting.design) is) alone)
