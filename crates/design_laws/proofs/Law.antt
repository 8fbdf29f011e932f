-- A design that keeps the rules is sound.
use Rattle.std.proofs.Common.{◌≡◌, ℕ, List, [], Bool, true, false, ◌||◌, Option, None, Some, refl, ap, sym, subst, ◌∙◌, arith, flat_map, is_none, is_some, length, slice_get, ◌⊎◌, inl, inr, ◌≢◌}
use Rattle.std.specs.List.{list_all}
use Rattle.std.specs.Option.{option_to_list}
use Rattle.std.specs.Str.{bytes_eq}
use Rattle.std.proofs.lemmas.Bool.{false≢true}
use Rattle.std.proofs.lemmas.List.{append-nil}
use Rattle.hierarchy.specs.Failures.{Failure, failure}
use Rattle.hierarchy.specs.Reach.{leads, reaches}
use Rattle.hierarchy.specs.Rules.{bad_instance, greatest_path, has_module, is_bad_instance, missing_top}
use Rattle.name_rules.specs.Declarations.{bad_names}
use Rattle.name_rules.specs.Uses.{unknown_names, unknown_use}
use Rattle.vlog_tree.specs.declared.design.Design.{Design}
use Rattle.vlog_tree.specs.declared.design.Module.{Module}
use Rattle.vlog_tree.specs.declared.item.Item.{Item}
use Rattle.vlog_tree.specs.declared.item.Item.TheVariants.{Always, Assign, Decl, Gate, Initial, Instance as Instance'}
use Rattle.vlog_tree.specs.declared.item.Link.{Link}
use Rattle.vlog_tree.specs.Meaning.Instances.{Child, Instance, child_named, children, down_from, greatest_depth, inside, instances, module_named, top_module}
use Rattle.vlog_tree.specs.Meaning.Setting.{Setting}
use Rattle.vlog_tree.specs.Meaning.Uses.{Text, item_uses}
use Rattle.width_rules.specs.Widths.{bad_terminals, bad_terminals_in, bad_widths, bad_widths_in}
use Rattle.design_laws.specs.Kept.{Keeps}
use Rattle.design_laws.specs.Sound.{IsInside, IsSound, IsTop, KeptIsSound, item_is_sound}
use Rattle.design_laws.proofs.Apart.{AreApart, same_place}
use Rattle.design_laws.proofs.Instances.{IsPlaced, all_placed, as_top, depth_below, inside_below, names_right, parent_below, paths_apart, top_placed}
use Rattle.design_laws.proofs.Items.{HasModule, item_sound}
use Rattle.design_laws.proofs.Members.{Has, all_by, any_member, each_none, found_has, is_noted, not_noted}
use Rattle.design_laws.proofs.Naming.{child_found, finds, ports_known}
use Rattle.design_laws.proofs.Reaching.{IsReached, item_of, own_name, rule_kept, same_text}
use Rattle.design_laws.proofs.Registers.{registers_apart}

-- ---- the top

pub value_of : {X : Type 0} (found : Option X) → is_some found ≡ true → (x : X) × (found ≡ Some x)
value_of (Some x) is = (x, refl)
value_of None is = absurd cc

-- Where the top is not missing, there is its module.
pub top_there : (design : Design) (top : Text) → missing_top design top ≡ [] → (m : Module) × (module_named design top ≡ Some m)
top_there design top none =
    let m = any_member (λ (m : Module). bytes_eq m.name top) design.modules
    (is_noted (has_module design.modules top) (failure 0 [] top) none) in
    value_of (module_named design top) (finds (λ (m : Module). bytes_eq m.name top) design.modules m.0 m.1 m.2)

-- ---- instances in the source

none_of_three : (a b c : Bool) → (a || (b || c)) ≡ false → (a ≡ false) × (b ≡ false) × (c ≡ false)
none_of_three false false c is = (refl, refl, is)
none_of_three true b c is = absurd cc
none_of_three false true c is = absurd cc

module _ (setting : Setting) (keeps : Keeps setting) where
  -- An instance in a reached module has its module, does not lead back, and ends no path of the greatest length.
  instance_right : (m : Module) (at : ℕ) (inner name : Text) (links : List Link) → IsReached setting.design setting.top m
      → Has m.items (Instance' at inner name links)
      → (is_none (module_named setting.design inner) ≡ false) × (reaches setting.design inner m.name ≡ false)
      × (leads setting.design greatest_path setting.top m.name ≡ false)
  instance_right m at inner name links is has =
      let rule : Module → List Failure = λ m. flat_map (bad_instance setting.design setting.top m) m.items in
      none_of_three (is_none (module_named setting.design inner)) (reaches setting.design inner m.name)
      (leads setting.design greatest_path setting.top m.name)
      (not_noted (is_bad_instance setting.design setting.top m.name inner) (failure at m.name name)
      (each_none (bad_instance setting.design setting.top m) m.items (Instance' at inner name links)
      (rule_kept setting.design setting.top m rule is keeps.instances) has))

  is_there : (found : Option Module) → is_none found ≡ false → is_some found ≡ true
  is_there (Some m) is = refl
  is_there None is = absurd cc

  module_there : (m : Module) (i : Item) → IsReached setting.design setting.top m → Has m.items i → HasModule setting.design i
  module_there m (Instance' at inner name links) is has =
      is_there (module_named setting.design inner) (instance_right m at inner name links is has).0
  module_there m (Decl at dir kind range name) is has = tt
  module_there m (Assign at left right) is has = tt
  module_there m (Gate at kind name outs ins) is has = tt
  module_there m (Always at clock body) is has = tt
  module_there m (Initial at name value) is has = tt

  -- All items of a reached module are sound.
  items_sound : (m : Module) → IsReached setting.design setting.top m → list_all (item_is_sound setting.design m) m.items ≡ true
  items_sound m is =
      all_by (item_is_sound setting.design m) m.items (λ i has.
      item_sound setting.design m i
      (each_none (λ i. flat_map (unknown_use m) (item_uses i)) m.items i
      (rule_kept setting.design setting.top m unknown_names is keeps.uses) has)
      (each_none (bad_widths_in m) m.items i (rule_kept setting.design setting.top m bad_widths is keeps.widths) has)
      (each_none (bad_terminals_in m) m.items i (rule_kept setting.design setting.top m bad_terminals is keeps.terminals) has)
      (module_there m i is has))

  -- ---- all instances

  module _ (first : Module) (found : top_module setting ≡ Some first) where
    abbrev all : List Instance
    all = down_from setting.design greatest_depth (as_top first)

    all_are : instances setting ≡ all
    all_are =
        ap (λ o. flat_map (λ m. down_from setting.design greatest_depth (as_top m)) (option_to_list o)) found
        ∙ append-nil all

    here : (i : ℕ) (x : Instance) → slice_get (instances setting) i ≡ Some x → Has all x
    here i x at = subst (λ xs. Has xs x) all_are (i, at)

    there : (x : Instance) → Has all x → Has (instances setting) x
    there x has = subst (λ xs. Has xs x) (sym all_are) has

    own_placed : IsPlaced setting (as_top first)
    own_placed = top_placed setting first found keeps.names

    placed : (i : ℕ) (x : Instance) → slice_get (instances setting) i ≡ Some x → IsPlaced setting x
    placed i x at = all_placed setting first found keeps.names greatest_depth (as_top first) x own_placed (here i x at)

    right_names : (i : ℕ) (x : Instance) → slice_get (instances setting) i ≡ Some x → bad_names x.definition ≡ []
    right_names i x at = names_right setting first found keeps.names x.definition (placed i x at).reached

    apart : AreApart (λ (x : Instance). x.path) (instances setting)
    apart =
        subst (AreApart (λ (x : Instance). x.path)) (sym all_are)
        (paths_apart setting first found keeps.names greatest_depth (as_top first) own_placed)

    -- An instance with a child does not stand deepest.
    not_deepest : (x : Instance) (child : Child) → IsPlaced setting x → Has (children setting.design x.definition) child
        → length x.path ≡ greatest_path → ⊥
    not_deepest x child is has deep =
        let i = item_of setting.design x.definition.items child has in
        let short = (instance_right x.definition i.at i.inner child.name child.links is.reached i.has).2 in
        let far : leads setting.design greatest_path setting.top x.definition.name ≡ true =
        subst (λ count. leads setting.design count setting.top x.definition.name ≡ true) deep is.far in
        absurd (false≢true (sym short ∙ far))

    child_there : (i : ℕ) (outer : Instance) (child : Child) → slice_get (instances setting) i ≡ Some outer
        → child_named setting.design outer.definition child.name ≡ Some child → Has (instances setting) (inside outer.path child)
    child_there i outer child at named =
        let stands = (found_has (λ (other : Child). bytes_eq other.name child.name)
        (children setting.design outer.definition) child named).0 in
        let deep = depth_below setting.design greatest_depth (as_top first) outer (here i outer at) in
        let apart : length outer.path ≢ 64 = not_deepest outer child (placed i outer at) stands in
        there (inside outer.path child)
        (inside_below setting.design greatest_depth (as_top first) outer child (here i outer at) (omega arith) stands)

    parent_of : (i : ℕ) (x : Instance) → slice_get (instances setting) i ≡ Some x → IsTop setting x ⊎ IsInside setting x
    parent_of i x at = elim (parent_below setting.design greatest_depth (as_top first) x (here i x at)) [
      | inl same ↦ inl (ap (λ (x : Instance). x.path) (sym same), found ∙ ap (λ (x : Instance). Some x.definition) same)
      | inr up ↦ (
          let outer = there up.outer up.has in
          inr (record {
            place = outer.0;
            outer = up.outer;
            child = up.child;
            stands = outer.1;
            named = child_found setting.design up.outer.definition up.child (right_names outer.0 up.outer outer.1) up.stands;
            is = up.is;
          }))
    ]

    -- A child of an instance is not of the top's module.
    not_top : (outer : Instance) (child : Child) → IsPlaced setting outer → Has (children setting.design outer.definition) child
        → bytes_eq child.definition.name setting.top ≡ true → ⊥
    not_top outer child is has top =
        let i = item_of setting.design outer.definition.items child has in
        let no_way = (instance_right outer.definition i.at i.inner child.name child.links is.reached i.has).1 in
        let same : i.inner ≡ setting.top =
        sym (own_name setting.design i.inner child.definition i.found) ∙ same_text child.definition.name setting.top top in
        absurd (false≢true (sym (subst (λ name. reaches setting.design name outer.definition.name ≡ false) same no_way) ∙ is.reached.reaches))

    only_top : (i : ℕ) (x : Instance) → slice_get (instances setting) i ≡ Some x → bytes_eq x.definition.name setting.top ≡ true
        → x.path ≡ []
    only_top i x at top = elim (parent_of i x at) [
      | inl is ↦ is.0
      | inr up ↦ absurd (not_top up.outer up.child (placed up.place up.outer up.stands)
          (found_has (λ (other : Child). bytes_eq other.name up.child.name) (children setting.design up.outer.definition) up.child up.named).0
          (subst (λ (x : Instance). bytes_eq x.definition.name setting.top ≡ true) up.is top))
    ]

    sound : IsSound setting
    sound = record {
      top = ap is_some found;
      leads = λ i x at. (placed i x at).led;
      distinct = λ i j a b at other same. same_place (λ (x : Instance). x.path) (instances setting) i j a b apart at other same;
      inside = child_there;
      children = λ i outer at place child is. child_found setting.design outer.definition child (right_names i outer at) (place, is);
      parent = parent_of;
      items = λ i x at. items_sound x.definition (placed i x at).reached;
      ports = λ i x at. ports_known x.definition (right_names i x at);
      apart = λ i x at name. registers_apart x.definition name (right_names i x at);
      named = λ i x at. (placed i x at).reached.found;
      only_top = only_top;
    }

pub kept_is_sound : KeptIsSound
kept_is_sound setting keeps =
    let first = top_there setting.design setting.top keeps.top in
    sound setting keeps first.0 first.1
