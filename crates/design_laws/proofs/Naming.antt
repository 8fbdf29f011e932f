-- In a module whose names are right the instances differ in their names, and the ports are declared.
use Rattle.std.proofs.Common.{◌≡◌, ℕ, zero, suc, List, [], ◌∷◌, ◌++◌, Bool, true, false, not, ◌&&◌, ◌||◌, cond, Option, None, Some, refl, ap, sym, subst, ◌∙◌, append_assoc, flat_map, is_some}
use Rattle.std.specs.List.{cons_option, filter_map, find, list_all, list_any}
use Rattle.std.specs.Option.{option_map, option_or}
use Rattle.std.specs.Str.{bytes_eq}
use Rattle.std.proofs.lemmas.List.{append-nil}
use Rattle.bm_base.specs.declared.range.Range.{Range}
use Rattle.name_rules.specs.Declarations.{Thing, bad_declarations, bad_names, bad_ports, bad_ports_after, clash, directs, implicit_things, is_among, own_things, shared_after, shared_names, thing}
use Rattle.vlog_tree.specs.declared.design.Design.{Design}
use Rattle.vlog_tree.specs.declared.design.Module.{Module}
use Rattle.vlog_tree.specs.declared.item.Item.{Item}
use Rattle.vlog_tree.specs.declared.item.Item.TheVariants.{Always, Assign, Decl, Gate, Initial, Instance}
use Rattle.vlog_tree.specs.declared.item.Link.{Link}
use Rattle.vlog_tree.specs.Meaning.Instances.{Child, child_named, child_of, children, module_named}
use Rattle.vlog_tree.specs.Meaning.Names.{declares, is_implicit}
use Rattle.vlog_tree.specs.Meaning.Ranges.{declared_range, range_of, scalar}
use Rattle.vlog_tree.specs.Meaning.Uses.{Text}
use Rattle.design_laws.proofs.Apart.{AreApart, found_apart}
use Rattle.design_laws.proofs.Members.{Has, any_by, any_member, both, has_each, has_left, has_right, left_none, not_noted, right_none, some_same}
use Rattle.design_laws.proofs.Reaching.{IsItem, item_of, same_text, text_same}

-- ---- things that share a name

module _ (m : Module) where
  -- A thing does not clash with one before it.
  no_clash : (before rest : List Thing) (earlier later : Thing) → shared_after m before rest ≡ [] → Has before earlier → Has rest later
      → clash later earlier ≡ true → ⊥
  no_clash before [] earlier later none one (i, is) clashes = cc
  no_clash before (this ∷ rest) earlier later none one (zero, is) clashes =
      let apart = not_noted (list_any (clash this) before) _ (left_none _ (shared_after m (before ++ this ∷ []) rest) none) in
      let same : this ≡ later = some_same this later is in
      let found = any_by (clash this) before earlier one (ap (λ this. clash this earlier) same ∙ clashes) in
      cc
  no_clash before (this ∷ rest) earlier later none one (suc i, is) clashes =
      no_clash (before ++ this ∷ []) rest earlier later (right_none _ (shared_after m (before ++ this ∷ []) rest) none)
      (has_left before (this ∷ []) earlier one) (i, is) clashes

  moved : (before front rest : List Thing) → shared_after m before (front ++ rest) ≡ [] → shared_after m (before ++ front) rest ≡ []
  moved before [] rest none = ap (λ before. shared_after m before rest) (append-nil before) ∙ none
  moved before (this ∷ front) rest none =
      ap (λ before. shared_after m before rest) (sym (append_assoc before (this ∷ []) front))
      ∙ moved (before ++ this ∷ []) front rest (right_none _ (shared_after m (before ++ this ∷ []) (front ++ rest)) none)

  abbrev things_of : Item → List Thing
  things_of i = own_things i ++ implicit_things m i

  -- ---- instances

  module _ (design : Design) where
    abbrev inner : List Item → List Child
    inner items = filter_map (child_of design) items

    -- an instance among the items has its thing among theirs
    thing_stands : (items : List Item) (child : Child) (i : IsItem design items child)
        → Has (flat_map things_of items) (thing i.at child.name false)
    thing_stands items child i =
        let this : Item = Instance i.at i.inner child.name child.links in
        has_each things_of items this (thing i.at child.name false) i.has
        (has_left (own_things this) (implicit_things m this) (thing i.at child.name false) (0, refl))

    names_apart : (before : List Thing) (items : List Item) → shared_after m before (flat_map things_of items) ≡ []
        → AreApart (λ (child : Child). child.name) (inner items)
    names_apart before [] none = tt
    names_apart before (i ∷ items) none = by i refl (moved before (things_of i) (flat_map things_of items) none)
        (names_apart (before ++ things_of i) items)
      where
        found : (at : ℕ) (inner' name : Text) (links : List Link) → i ≡ Instance at inner' name links
            → shared_after m (before ++ things_of i) (flat_map things_of items) ≡ []
            → AreApart (λ (child : Child). child.name) (inner items) → (o : Option Module)
            → AreApart (λ (child : Child). child.name)
            (cons_option (option_map (λ m. record { name = name; definition = m; links = links }) o) (inner items))
        found at inner' name links is none rest None = rest
        found at inner' name links is none rest (Some definition) = (
          λ child has same.
              let later = item_of design items child has in
              let this : Item = Instance at inner' name links in
              let earlier : Has (before ++ things_of i) (thing at name false) =
              has_right before (things_of i) (thing at name false)
              (subst (λ i. Has (things_of i) (thing at name false)) (sym is)
              (has_left (own_things this) (implicit_things m this) (thing at name false) (0, refl))) in
              no_clash (before ++ things_of i) (flat_map things_of items) (thing at name false) (thing later.at child.name false) none earlier
              (thing_stands items child later) (ap (λ b. b && true) (text_same child.name name (sym same))),
          rest,
        )

        by : (this : Item) → i ≡ this → shared_after m (before ++ things_of i) (flat_map things_of items) ≡ []
            → (shared_after m (before ++ things_of i) (flat_map things_of items) ≡ []
            → AreApart (λ (child : Child). child.name) (inner items))
            → AreApart (λ (child : Child). child.name) (cons_option (child_of design this) (inner items))
        by (Instance at inner' name links) is none rest = found at inner' name links is none (rest none) (module_named design inner')
        by (Decl at dir kind range name) is none rest = rest none
        by (Assign at left right) is none rest = rest none
        by (Gate at kind name outs ins) is none rest = rest none
        by (Always at clock body) is none rest = rest none
        by (Initial at name value) is none rest = rest none

-- The children of a module differ in their names.
pub children_apart : (design : Design) (m : Module) → bad_names m ≡ [] → AreApart (λ (child : Child). child.name) (children design m)
children_apart design m none =
    names_apart m design [] m.items (right_none (bad_ports m ++ bad_declarations m) (shared_names m) none)

-- Each child is found by its name.
pub child_found : (design : Design) (m : Module) (child : Child) → bad_names m ≡ [] → Has (children design m) child
    → child_named design m child.name ≡ Some child
child_found design m child none has =
    found_apart (λ (child : Child). child.name) bytes_eq (children design m) child same_text (λ name. text_same name name refl)
    (children_apart design m none) has

-- ---- ports

directs_declares : (name : Text) (i : Item) → directs name i ≡ true → declares name i ≡ true
directs_declares name (Decl at (Some dir) kind range other) is = is
directs_declares name (Decl at None kind range other) is = absurd cc
directs_declares name (Instance at inner other links) is = absurd cc
directs_declares name (Assign at left right) is = absurd cc
directs_declares name (Gate at kind other outs ins) is = absurd cc
directs_declares name (Always at clock body) is = absurd cc
directs_declares name (Initial at other value) is = absurd cc

-- a test that some member passes finds one
pub finds : {X : Type 0} (test : X → Bool) (xs : List X) (x : X) → Has xs x → test x ≡ true → is_some (find test xs) ≡ true
finds test [] x (i, is) passes = absurd cc
finds test (y ∷ xs) x (zero, is) passes = ap (λ b. is_some (cond b (Some y) (find test xs))) (ap test (some_same y x is) ∙ passes)
finds test (y ∷ xs) x (suc i, is) passes = by (test y) (finds test xs x (i, is) passes)
  where
    by : (b : Bool) → is_some (find test xs) ≡ true → is_some (cond b (Some y) (find test xs)) ≡ true
    by true rest = refl
    by false rest = rest

-- A name with a declaration has a range.
has_range : (found : Option Item) (other : Option Range) → is_some found ≡ true
    → is_some (option_or (option_map declared_range found) other) ≡ true
has_range (Some i) other is = refl
has_range None other is = absurd cc

directed : (a b : Bool) → (a || not b) ≡ false → b ≡ true
directed false true is = refl
directed false false is = absurd cc
directed true b is = absurd cc

ports_after : (m : Module) (before names : List Text) → bad_ports_after m before names ≡ []
    → list_all (λ port. is_some (range_of m port)) names ≡ true
ports_after m before [] none = refl
ports_after m before (name ∷ names) none =
    let others = bad_ports_after m (before ++ name ∷ []) names in
    let right = not_noted (is_among before name || not (list_any (directs name) m.items)) _ (left_none _ others none) in
    let i = any_member (directs name) m.items (directed (is_among before name) (list_any (directs name) m.items) right) in
    both (is_some (range_of m name)) (list_all (λ port. is_some (range_of m port)) names)
    (has_range (find (declares name) m.items) (cond (is_implicit m name) (Some scalar) None)
    (finds (declares name) m.items i.0 i.1 (directs_declares name i.0 i.2)))
    (ports_after m (before ++ name ∷ []) names (right_none _ others none))

-- The ports of the header have ranges.
pub ports_known : (m : Module) → bad_names m ≡ [] → list_all (λ port. is_some (range_of m port)) m.ports ≡ true
ports_known m none =
    ports_after m [] m.ports
    (left_none (bad_ports m) (bad_declarations m) (left_none (bad_ports m ++ bad_declarations m) (shared_names m) none))
