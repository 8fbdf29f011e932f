-- From an instance to the one in it that holds another.
use Rattle.std.proofs.Common.{◌≡◌, ℕ, zero, suc, ◌+◌, ◌<◌, ◌≤◌, ◌&&◌, true, List, [], ◌∷◌, ◌++◌, Option, None, Some, refl, sym, ◌∙◌, ap, subst, arith, append-nil, append_assoc, drop, filter_map, flat_map, get_or, is_some, length, length-append, option_map, slice_get}
use Rattle.std.specs.List.{cons_option, list_all}
use Rattle.std.proofs.lemmas.Bool.{and_parts, false≢true}
use Rattle.std.proofs.lemmas.Option.{same_Some}
use Rattle.design_laws.specs.Sound.{IsSound, item_is_sound, link_is_sound}
use Rattle.frames.specs.Numbered.{Numbered, setting_with}
use Rattle.instances.specs.Shapes.{Shape, shapes_from, size_at}
use Rattle.instances.proofs.StandingLemmas.{as_many, drop_on, first_left, from_top, next_left, size_left}
use Rattle.instances.proofs.TreeLemmas.{shapes_some}
use Rattle.vlog_tree.specs.declared.design.Design.{Design}
use Rattle.vlog_tree.specs.declared.design.Module.{Module}
use Rattle.vlog_tree.specs.declared.item.Item.{Item}
use Rattle.vlog_tree.specs.declared.item.Item.TheVariants as item
use Rattle.vlog_tree.specs.declared.item.Link.{Link}
use Rattle.vlog_tree.specs.Meaning.Instances.{Child, Instance, Path, child_of, children, down_from, greatest_depth, inside, module_named, top_module}
use Rattle.vlog_tree.specs.Meaning.Uses.{Text}
use Rattle.keys.specs.Holding.{AreAmong, AreAmongIn, Holds, HoldsIn, all_in, inner_of, inner_shapes, shapes_in, use_of}
use Rattle.keys.proofs.PlaceLemmas.{left_there}

module _ (design : Design) (list : List Instance) (shapes : List Shape) (place : ℕ) where
  -- ---- the top

  pub top_holds : (depth : ℕ) (m : Module) → list ≡ down_from design depth (use_of [] m) → shapes ≡ shapes_from design depth m
      → place < length list → Holds design list shapes 0 place []
  top_holds depth m listed shaped within = record {
    definition = m;
    depth = depth;
    later = [];
    later_shapes = [];
    listed = listed ∙ sym (append-nil (down_from design depth (use_of [] m)));
    shaped = shaped ∙ sym (append-nil (shapes_from design depth m));
    begins = omega arith;
    ends = (let same = ap length listed in omega (arith, same, within));
  }

  -- ---- an instance that holds another

  module _ (at : ℕ) (path : Path) where
    -- It stands at its place.
    stands_by : (definition : Module) (depth : ℕ) (later : List Instance)
        → drop at list ≡ down_from design depth (use_of path definition) ++ later
        → at ≤ place → place < at + length (down_from design depth (use_of path definition))
        → slice_get list at ≡ Some (use_of path definition)
    stands_by definition zero later listed begins ends = absurd (omega arith)
    stands_by definition (suc depth) later listed begins ends = first_left list at (use_of path definition) _ listed

    pub stands : (holds : Holds design list shapes at place path) → slice_get list at ≡ Some (use_of path holds.definition)
    stands holds = stands_by holds.definition holds.depth holds.later holds.listed holds.begins holds.ends

    among_by : (definition : Module) (depth : ℕ) (later : List Instance) (later_shapes : List Shape)
        → drop at list ≡ down_from design depth (use_of path definition) ++ later
        → drop at shapes ≡ shapes_from design depth definition ++ later_shapes
        → at < place → place < at + length (down_from design depth (use_of path definition))
        → list_all (item_is_sound design definition) definition.items ≡ true
        → AreAmong design list shapes (at + 1) place path definition.items
    among_by definition zero later later_shapes listed shaped begins ends sound = absurd (omega arith)
    among_by definition (suc depth) later later_shapes listed shaped begins ends sound =
        let inner = flat_map (λ child. down_from design depth (inside path child)) (children design definition) in
        let inside_shapes = flat_map (λ child. shapes_from design depth child.definition) (children design definition) in
        record {
          definition = definition;
          sound = sound;
          depth = depth;
          later = later;
          later_shapes = later_shapes;
          listed = next_left list at (use_of path definition) (inner ++ later) listed;
          shaped = next_left shapes at (record { definition = definition; size = 1 + length inside_shapes }) (inside_shapes ++ later_shapes)
              (shaped ∙ ap (λ ss. ss ++ later_shapes) (shapes_some design depth definition));
          begins = omega arith;
          ends = omega arith;
        }

    -- What it holds is in its children, where it is another.
    pub among_children : (holds : Holds design list shapes at place path) → at < place
        → list_all (item_is_sound design holds.definition) holds.definition.items ≡ true
        → AreAmong design list shapes (at + 1) place path holds.definition.items
    among_children holds begins sound =
        among_by holds.definition holds.depth holds.later holds.later_shapes holds.listed holds.shaped begins holds.ends sound

  -- ---- the children that some items give

  nothing_below : (path : Path) (cs : List Child) → flat_map (λ child. down_from design zero (inside path child)) cs ≡ []
  nothing_below path [] = refl
  nothing_below path (child ∷ cs) = nothing_below path cs

  -- The child that stands at a place holds the other place, or those behind it do.
  pub record Steps (at next : ℕ) (path : Path) (name : Text) (items : List Item) : Type 0 where
    pub in_child : place < next → Holds design list shapes at place (path ++ name ∷ [])
    pub behind : next ≤ place → AreAmong design list shapes next place path items

  module _ (at next : ℕ) (path : Path) (child : Child) (items : List Item) (definition : Module)
      (sound : list_all (item_is_sound design definition) items ≡ true) (sized : next ≡ at + size_at shapes at) where
    child_steps : (depth : ℕ) (later : List Instance) (later_shapes : List Shape)
        → drop at list ≡ (down_from design depth (inside path child) ++ inner_of design depth path items) ++ later
        → drop at shapes ≡ (shapes_from design depth child.definition ++ inner_shapes design depth items) ++ later_shapes
        → at ≤ place → place < at + length (down_from design depth (inside path child) ++ inner_of design depth path items)
        → Steps at next path child.name items
    child_steps zero later later_shapes listed shaped begins ends =
        let none = ap length (nothing_below path (filter_map (child_of design) items)) in absurd (omega arith)
    child_steps (suc depth) later later_shapes listed shaped begins ends =
        let here = down_from design (suc depth) (inside path child) in
        let others = inner_of design (suc depth) path items in
        let here_shapes = shapes_from design (suc depth) child.definition in
        let other_shapes = inner_shapes design (suc depth) items in
        let inside_shapes = flat_map (λ other. shapes_from design depth other.definition) (children design child.definition) in
        let first : drop at list ≡ here ++ (others ++ later) = listed ∙ append_assoc here others later in
        let first_shapes : drop at shapes ≡ here_shapes ++ (other_shapes ++ later_shapes) =
        shaped ∙ append_assoc here_shapes other_shapes later_shapes in
        let size : size_at shapes at ≡ 1 + length inside_shapes =
        size_left shapes at (record { definition = child.definition; size = 1 + length inside_shapes })
        (inside_shapes ++ (other_shapes ++ later_shapes))
        (first_shapes ∙ ap (λ ss. ss ++ (other_shapes ++ later_shapes)) (shapes_some design depth child.definition)) in
        let long : length here_shapes ≡ suc (length inside_shapes) = ap length (shapes_some design depth child.definition) in
        let many : length here ≡ length here_shapes = as_many design (suc depth) (inside path child) in
        let both : length (here ++ others) ≡ length here + length others = length-append here others in
        let on : next ≡ at + length here = omega (arith, sized, size, long, many) in
        record {
          in_child = λ before. record {
            definition = child.definition;
            depth = suc depth;
            later = others ++ later;
            later_shapes = other_shapes ++ later_shapes;
            listed = first;
            shaped = first_shapes;
            begins = begins;
            ends = subst (λ n. place < n) on before;
          };
          behind = λ past. record {
            definition = definition;
            sound = sound;
            depth = suc depth;
            later = later;
            later_shapes = later_shapes;
            listed = ap (λ n. drop n list) on ∙ drop_on list here (others ++ later) at (length here) first refl;
            shaped = ap (λ n. drop n shapes) on
                ∙ drop_on shapes here_shapes (other_shapes ++ later_shapes) at (length here) first_shapes (sym many);
            begins = past;
            ends = omega (arith, on, both, ends);
          };
        }

  module _ (at : ℕ) (path : Path) (one : Item) (items : List Item)
      (among : AreAmong design list shapes at place path (one ∷ items)) where
    rest_sound : list_all (item_is_sound design among.definition) items ≡ true
    rest_sound =
        (and_parts (item_is_sound design among.definition one) (list_all (item_is_sound design among.definition) items)
        among.sound).1

    -- what stands there, where these are the children
    abbrev in_these : List Child → List Instance
    in_these cs = flat_map (λ child. down_from design among.depth (inside path child)) cs

    abbrev shapes_of : List Child → List Shape
    shapes_of cs = flat_map (λ child. shapes_from design among.depth child.definition) cs

    -- An item that is no instance gives no child.
    pub other_item : child_of design one ≡ None → AreAmong design list shapes at place path items
    other_item none =
        let cs = filter_map (child_of design) items in
        let same : filter_map (child_of design) (one ∷ items) ≡ cs = ap (λ o. cons_option o cs) none in
        record {
          definition = among.definition;
          sound = rest_sound;
          depth = among.depth;
          later = among.later;
          later_shapes = among.later_shapes;
          listed = among.listed ∙ ap (λ cs. in_these cs ++ among.later) same;
          shaped = among.shaped ∙ ap (λ cs. shapes_of cs ++ among.later_shapes) same;
          begins = among.begins;
          ends = subst (λ cs. place < at + length (in_these cs)) same among.ends;
        }

    -- One that is an instance gives one.
    given_child : (child : Child) → child_of design one ≡ Some child → (next : ℕ) → next ≡ at + size_at shapes at
        → Steps at next path child.name items
    given_child child given next sized =
        let cs = filter_map (child_of design) items in
        let same : filter_map (child_of design) (one ∷ items) ≡ child ∷ cs = ap (λ o. cons_option o cs) given in
        child_steps at next path child items among.definition rest_sound sized among.depth among.later among.later_shapes
        (among.listed ∙ ap (λ cs. in_these cs ++ among.later) same)
        (among.shaped ∙ ap (λ cs. shapes_of cs ++ among.later_shapes) same)
        among.begins
        (subst (λ cs. place < at + length (in_these cs)) same among.ends)

  module _ (at : ℕ) (path : Path) (place_in : ℕ) (inner name : Text) (links : List Link) (items : List Item)
      (among : AreAmong design list shapes at place path (item.Instance place_in inner name links ∷ items))
      (next : ℕ) (sized : next ≡ at + size_at shapes at) where
    abbrev child_with : Module → Child
    child_with m = record { name = name; definition = m; links = links }

    has_module : is_some (module_named design inner) && list_all (link_is_sound among.definition) links ≡ true
    has_module =
        (and_parts (is_some (module_named design inner) && list_all (link_is_sound among.definition) links)
        (list_all (item_is_sound design among.definition) items) among.sound).0

    steps_by : (found : Option Module) → module_named design inner ≡ found → is_some found ≡ true → Steps at next path name items
    steps_by None is there = absurd (false≢true there)
    steps_by (Some m) is there =
        given_child at path (item.Instance place_in inner name links) items among (child_with m) (ap (option_map child_with) is) next
        sized

    pub steps : Steps at next path name items
    steps =
        steps_by (module_named design inner) refl
        (and_parts (is_some (module_named design inner)) (list_all (link_is_sound among.definition) links) has_module).0

  -- No items give nothing.
  pub none_among : (at : ℕ) (path : Path) → AreAmong design list shapes at place path [] → ⊥
  none_among at path among = let begins = among.begins in let ends = among.ends in omega (arith, begins, ends)

pub no_child : (design : Design) (one : Item)
    → ((at : ℕ) (inner name : Text) (links : List Link) → one ≡ item.Instance at inner name links → ⊥) → child_of design one ≡ None
no_child design (item.Instance at inner name links) other = absurd (other at inner name links refl)
no_child design (item.Decl at dir kind range name) other = refl
no_child design (item.Assign at left right) other = refl
no_child design (item.Gate at kind name outs ins) other = refl
no_child design (item.Always at clock body) other = refl
no_child design (item.Initial at name value) other = refl

-- ---- in a design

module _ (it : Numbered) (sound : IsSound (setting_with it)) where
  top_there : (found : Option Module) → is_some found ≡ true → (m : Module) × (found ≡ Some m)
  top_there None there = absurd (false≢true there)
  top_there (Some m) there = (m, refl)

  pub first_holds : (place : ℕ) (path : Path) → place < length (all_in it) → path ≡ [] → HoldsIn it 0 place path
  first_holds place path within none =
      let top = top_there (top_module (setting_with it)) sound.top in (
        top.0,
        top.1,
        subst (Holds it.design (all_in it) (shapes_in it top.0) 0 place) (sym none)
            (top_holds it.design (all_in it) (shapes_in it top.0) place greatest_depth top.0
            (from_top it.design greatest_depth (top_module (setting_with it)) top.0 top.1) refl within),
      )

  -- The place that an instance holds and at which it stands is its own.
  pub path_there : (at place : ℕ) (path : Path) → place ≤ at → HoldsIn it at place path → (instance : Instance)
      → slice_get (all_in it) place ≡ Some instance → path ≡ instance.path
  path_there at place path past holds instance there =
      let begins = holds.2.begins in
      let same : place ≡ at = omega (arith, past, begins) in
      let stand = stands it.design (all_in it) (shapes_in it holds.0) place at path holds.2 in
      ap (λ (instance : Instance). instance.path)
      (same_Some (use_of path holds.2.definition) instance (sym stand ∙ ap (slice_get (all_in it)) (sym same) ∙ there))

  module _ (at place : ℕ) (path : Path) (holds : HoldsIn it at place path) (begins : at < place) (definition : Module)
      (defined : (instance : Instance) → slice_get (all_in it) at ≡ Some instance → definition ≡ instance.definition) where
    stand : slice_get (all_in it) at ≡ Some (use_of path holds.2.definition)
    stand = stands it.design (all_in it) (shapes_in it holds.0) place at path holds.2

    -- What it holds is among its children.
    pub children_among : (items : List Item) → items ≡ definition.items → (next : ℕ) → next ≡ at + 1
        → AreAmongIn it next place path items
    children_among items are next is =
        let shapes = shapes_in it holds.0 in
        let own : items ≡ holds.2.definition.items =
        are ∙ ap (λ (m : Module). m.items) (defined (use_of path holds.2.definition) stand) in (
          holds.0,
          holds.1,
          subst (λ next. AreAmong it.design (all_in it) shapes next place path items) (sym is)
              (subst (λ items. AreAmong it.design (all_in it) shapes (at + 1) place path items) (sym own)
              (among_children it.design (all_in it) shapes place at path holds.2 begins
              (sound.items at (use_of path holds.2.definition) stand))),
        )

module _ (it : Numbered) (at place : ℕ) (path : Path) (one : Item) (items : List Item)
    (among : AreAmongIn it at place path (one ∷ items)) where
  pub after_other : child_of it.design one ≡ None → AreAmongIn it at place path items
  after_other none = (
    among.0,
    among.1,
    other_item it.design (all_in it) (shapes_in it among.0) place at path one items among.2 none,
  )

  module _ (next : ℕ)
      (sized : (m : Module) → top_module (setting_with it) ≡ Some m → next ≡ at + size_at (shapes_in it m) at)
      (place_in : ℕ) (inner name : Text) (links : List Link) (is : one ≡ item.Instance place_in inner name links) where
    instance_among : AreAmong it.design (all_in it) (shapes_in it among.0) at place path
        (item.Instance place_in inner name links ∷ items)
    instance_among =
        subst (λ one. AreAmong it.design (all_in it) (shapes_in it among.0) at place path (one ∷ items)) is among.2

    stepped : Steps it.design (all_in it) (shapes_in it among.0) place at next path name items
    stepped =
        steps it.design (all_in it) (shapes_in it among.0) place at path place_in inner name links items instance_among next
        (sized among.0 among.1)

    pub into_child : place < next → (after : Path) → after ≡ path ++ name ∷ [] → HoldsIn it at place after
    into_child before after pushed = (
      among.0,
      among.1,
      subst (Holds it.design (all_in it) (shapes_in it among.0) at place) (sym pushed) (stepped.in_child before),
    )

    pub after_child : next ≤ place → AreAmongIn it next place path items
    after_child past = (among.0, among.1, stepped.behind past)

    pub not_back : at ≤ next
    not_back = let e = sized among.0 among.1 in omega (arith, e)

-- The items that are left begin with this one.
pub next_item : (it : Numbered) (at place : ℕ) (path : Path) (items : List Item) (i : ℕ) (one : Item) → i < length items
    → one ≡ get_or items i one → AreAmongIn it at place path (drop i items)
    → AreAmongIn it at place path (one ∷ drop (i + 1) items)
next_item it at place path items i one within is = subst (AreAmongIn it at place path) (left_there items i one within is)

pub nothing_among : (it : Numbered) (at place : ℕ) (path : Path) (items : List Item) → items ≡ []
    → AreAmongIn it at place path items → ⊥
nothing_among it at place path items none among =
    none_among it.design (all_in it) (shapes_in it among.0) place at path
    (subst (AreAmong it.design (all_in it) (shapes_in it among.0) at place path) none among.2)
