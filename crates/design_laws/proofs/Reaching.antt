-- The modules that are reached from the top: those of instances are.
use Rattle.std.proofs.Common.{◌≡◌, ℕ, zero, suc, ◌+◌, ◌<◌, ◌≤◌, List, [], ◌∷◌, Bool, true, false, not, ◌&&◌, cond, Option, None, Some, refl, ap, sym, subst, ◌∙◌, arith, flat_map, length, map, ◌⊎◌, inl, inr}
use Rattle.std.specs.List.{filter_map, list_any, range_with_len}
use Rattle.std.specs.Option.{option_map, option_to_list}
use Rattle.std.specs.Str.{bytes_eq}
use Rattle.std.proofs.lemmas.Slice.Eq.{bytes_eq-Decides}
use Rattle.hierarchy.specs.Failures.{Failure}
use Rattle.hierarchy.specs.Reach.{inner_names, inner_names_of, leads, reached, reaches}
use Rattle.vlog_tree.specs.declared.design.Design.{Design}
use Rattle.vlog_tree.specs.declared.design.Module.{Module}
use Rattle.vlog_tree.specs.declared.item.Item.{Item}
use Rattle.vlog_tree.specs.declared.item.Item.TheVariants.{Always, Assign, Decl, Gate, Initial, Instance}
use Rattle.vlog_tree.specs.Meaning.Instances.{Child, child_of, children, module_named}
use Rattle.vlog_tree.specs.Meaning.Uses.{Text}
use Rattle.design_laws.proofs.Members.{Has, any_by, any_member, each_none, found_has, has_each, has_first, has_from, has_kept, has_later, has_passing, some_same}

-- ---- texts

pub same_text : (xs ys : Text) → bytes_eq xs ys ≡ true → xs ≡ ys
same_text xs ys is = (bytes_eq-Decides xs ys).0 is

pub text_same : (xs ys : Text) → xs ≡ ys → bytes_eq xs ys ≡ true
text_same xs ys is = (bytes_eq-Decides xs ys).1 is

-- ---- members of mapped lists

pub has_mapped : {X Y : Type 0} (f : X → Y) (xs : List X) (y : Y) → Has (map f xs) y → (x : X) × Has xs x × (f x ≡ y)
has_mapped f [] y (i, is) = absurd cc
has_mapped f (x ∷ xs) y (zero, is) = (x, has_first x xs, some_same (f x) y is)
has_mapped f (x ∷ xs) y (suc i, is) = let later = has_mapped f xs y (i, is) in (later.0, has_later x xs later.0 later.1, later.2)

pub has_map : {X Y : Type 0} (f : X → Y) (xs : List X) (x : X) → Has xs x → Has (map f xs) (f x)
has_map f [] x (i, is) = absurd cc
has_map f (y ∷ xs) x (zero, is) = (0, ap (λ x. Some (f x)) (some_same y x is))
has_map f (y ∷ xs) x (suc i, is) = has_later (f y) (map f xs) (f x) (has_map f xs x (i, is))

-- ---- children

-- an instance among the items, whose module is there
pub record IsItem (design : Design) (items : List Item) (child : Child) : Type 0 where
  pub at : ℕ
  pub inner : Text
  pub has : Has items (Instance at inner child.name child.links)
  pub found : module_named design inner ≡ Some child.definition

pub as_item : (design : Design) (items : List Item) (i : Item) (child : Child) → Has items i → child_of design i ≡ Some child
    → IsItem design items child
as_item design items (Instance at inner name links) child has is = by (module_named design inner) refl is
  where
    by : (found : Option Module) → module_named design inner ≡ found
        → option_map (λ m. record { name = name; definition = m; links = links }) found ≡ Some child → IsItem design items child
    by None at' is = absurd cc
    by (Some m) at' is =
        let same : record { name = name; definition = m; links = links } ≡ child =
        some_same (record { name = name; definition = m; links = links }) child is in
        subst (λ child. IsItem design items child) same (record { at = at; inner = inner; has = has; found = at' })
as_item design items (Decl at dir kind range name) child has is = absurd cc
as_item design items (Assign at left right) child has is = absurd cc
as_item design items (Gate at kind name outs ins) child has is = absurd cc
as_item design items (Always at clock body) child has is = absurd cc
as_item design items (Initial at name value) child has is = absurd cc

pub item_of : (design : Design) (items : List Item) (child : Child) → Has (filter_map (child_of design) items) child
    → IsItem design items child
item_of design items child has =
    let from = has_kept (child_of design) items child has in
    as_item design items from.0 child from.1 from.2

-- The module that a name finds is found by its own name.
pub own_name : (design : Design) (name : Text) (m : Module) → module_named design name ≡ Some m → m.name ≡ name
own_name design name m is =
    same_text m.name name (found_has (λ (m : Module). bytes_eq m.name name) design.modules m is).1

pub finds_itself : (design : Design) (name : Text) (m : Module) → module_named design name ≡ Some m → module_named design m.name ≡ Some m
finds_itself design name m is = ap (module_named design) (own_name design name m is) ∙ is

-- ---- paths

module _ (design : Design) where
  pub step : (count : ℕ) (outer inner : Text) → leads design (suc count) outer inner ≡ true
      → (next : Text) × Has (inner_names_of design outer) next × (leads design count next inner ≡ true)
  step count outer inner is = any_member (λ next. leads design count next inner) (inner_names_of design outer) is

  pub joined : (count : ℕ) (outer next inner : Text) → Has (inner_names_of design outer) next → leads design count next inner ≡ true
      → leads design (suc count) outer inner ≡ true
  joined count outer next inner has is = any_by (λ next. leads design count next inner) (inner_names_of design outer) next has is

  -- one instance more at the end
  pub extended : (count : ℕ) (outer middle inner : Text) → leads design count outer middle ≡ true
      → Has (inner_names_of design middle) inner → leads design (suc count) outer inner ≡ true
  extended zero outer middle inner is has =
      joined zero outer inner inner (subst (λ name. Has (inner_names_of design name) inner) (sym (same_text outer middle is)) has)
      (text_same inner inner refl)
  extended (suc count) outer middle inner is has =
      let first = step count outer middle is in
      joined (suc count) outer first.0 inner first.1 (extended count first.0 middle inner first.2 has)

  pub last : (count : ℕ) (outer inner : Text) → leads design (suc count) outer inner ≡ true
      → (middle : Text) × (leads design count outer middle ≡ true) × Has (inner_names_of design middle) inner
  last zero outer inner is =
      let first = step zero outer inner is in
      (outer, text_same outer outer refl, subst (λ name. Has (inner_names_of design outer) name) (same_text first.0 inner first.2) first.1)
  last (suc count) outer inner is =
      let first = step (suc count) outer inner is in
      let rest = last count first.0 inner first.2 in
      (rest.0, joined count outer first.0 rest.0 first.1 rest.1, rest.2)

  -- The name stands for a module.
  pub has_module : (outer inner : Text) → Has (inner_names_of design outer) inner
      → (m : Module) × Has design.modules m × (m.name ≡ inner)
  has_module outer inner has =
      let from = has_from (inner_names design) (option_to_list (module_named design outer)) inner has in
      let child = has_mapped (λ (child : Child). child.definition.name) (children design from.0) inner from.2 in
      let i = item_of design from.0.items child.0 child.1 in
      (child.0.definition, (found_has (λ (m : Module). bytes_eq m.name i.inner) design.modules child.0.definition i.found).0, child.2)

  -- the names inside of a module that its name finds
  pub has_inner : (m : Module) (child : Child) → module_named design m.name ≡ Some m → Has (children design m) child
      → Has (inner_names_of design m.name) child.definition.name
  has_inner m child found has =
      subst (λ o. Has (flat_map (inner_names design) (option_to_list o)) child.definition.name) (sym found)
      (has_each (inner_names design) (m ∷ []) m child.definition.name (has_first m [])
      (has_map (λ (child : Child). child.definition.name) (children design m) child has))

-- ---- counts

abbrev counted : {X : Type 0} → (X → Bool) → List X → ℕ
counted test [] = 0
counted test (x ∷ xs) = cond (test x) (suc (counted test xs)) (counted test xs)

counted_within : {X : Type 0} (test : X → Bool) (xs : List X) → counted test xs ≤ length xs
counted_within test [] = omega arith
counted_within test (x ∷ xs) = by (test x) (counted_within test xs)
  where
    by : (b : Bool) → counted test xs ≤ length xs → cond b (suc (counted test xs)) (counted test xs) ≤ suc (length xs)
    by true h = omega arith
    by false h = omega arith

counted_some : {X : Type 0} (test : X → Bool) (xs : List X) (x : X) → Has xs x → test x ≡ true → 1 ≤ counted test xs
counted_some test [] x (i, is) passes = absurd cc
counted_some test (y ∷ xs) x (zero, is) passes = by (test y) (ap test (some_same y x is) ∙ passes)
  where
    by : (b : Bool) → b ≡ true → 1 ≤ cond b (suc (counted test xs)) (counted test xs)
    by true is = omega arith
    by false is = absurd cc
counted_some test (y ∷ xs) x (suc i, is) passes = by (test y) (counted_some test xs x (i, is) passes)
  where
    by : (b : Bool) → 1 ≤ counted test xs → 1 ≤ cond b (suc (counted test xs)) (counted test xs)
    by true h = omega arith
    by false h = h

module _ {X : Type 0} (test other : X → Bool) (weaker : (x : X) → test x ≡ true → other x ≡ true) where
  counted_weaker : (xs : List X) → counted test xs ≤ counted other xs
  counted_weaker [] = omega arith
  counted_weaker (x ∷ xs) = by (test x) (other x) (weaker x) (counted_weaker xs)
    where
      by : (a b : Bool) → (a ≡ true → b ≡ true) → counted test xs ≤ counted other xs
          → cond a (suc (counted test xs)) (counted test xs) ≤ cond b (suc (counted other xs)) (counted other xs)
      by true true imply h = omega arith
      by true false imply h = absurd (cc (imply refl))
      by false true imply h = omega arith
      by false false imply h = h

  counted_more : (xs : List X) (x : X) → Has xs x → test x ≡ false → other x ≡ true → suc (counted test xs) ≤ counted other xs
  counted_more [] x (i, is) fails passes = absurd cc
  counted_more (y ∷ xs) x (zero, is) fails passes =
      by (test y) (other y) (ap test (some_same y x is) ∙ fails) (ap other (some_same y x is) ∙ passes) (counted_weaker xs)
    where
      by : (a b : Bool) → a ≡ false → b ≡ true → counted test xs ≤ counted other xs
          → suc (cond a (suc (counted test xs)) (counted test xs)) ≤ cond b (suc (counted other xs)) (counted other xs)
      by false true fails passes h = omega arith
      by true b fails passes h = absurd cc
      by false false fails passes h = absurd cc
  counted_more (y ∷ xs) x (suc i, is) fails passes = by (test y) (other y) (weaker y) (counted_more xs x (i, is) fails passes)
    where
      by : (a b : Bool) → (a ≡ true → b ≡ true) → suc (counted test xs) ≤ counted other xs
          → suc (cond a (suc (counted test xs)) (counted test xs)) ≤ cond b (suc (counted other xs)) (counted other xs)
      by true true imply h = omega arith
      by true false imply h = absurd (cc (imply refl))
      by false true imply h = omega arith
      by false false imply h = h

-- ---- within a count

pub in_range : (start len i : ℕ) → i < len → Has (range_with_len start len) (start + i)
in_range start zero i h = absurd (omega arith)
in_range start (suc len) zero h = (0, ap Some (omega arith))
in_range start (suc len) (suc i) h =
    has_later start (range_with_len (start + 1) len) (start + suc i)
    (subst (λ n. Has (range_with_len (start + 1) len) n) (omega arith) (in_range (start + 1) len i (omega arith)))

pub range_has : (start len n : ℕ) → Has (range_with_len start len) n → n < start + len
range_has start zero n (i, is) = absurd cc
range_has start (suc len) n (zero, is) = let same : start ≡ n = some_same start n is in omega arith
range_has start (suc len) n (suc i, is) = let h = range_has (start + 1) len n (i, is) in omega arith

module _ (design : Design) (top : Text) where
  -- whether so many instances, or fewer, lead from the top to a module
  abbrev pub within : ℕ → Text → Bool
  within most name = list_any (λ count. leads design count top name) (range_with_len 0 (most + 1))

  pub is_within : (most count : ℕ) (name : Text) → count ≤ most → leads design count top name ≡ true → within most name ≡ true
  is_within most count name h is =
      any_by (λ count. leads design count top name) (range_with_len 0 (most + 1)) count
      (subst (λ n. Has (range_with_len 0 (most + 1)) n) (omega arith) (in_range 0 (most + 1) count (omega arith))) is

  pub count_within : (most : ℕ) (name : Text) → within most name ≡ true → (count : ℕ) × (count ≤ most) × (leads design count top name ≡ true)
  count_within most name is =
      let found = any_member (λ count. leads design count top name) (range_with_len 0 (most + 1)) is in
      let h = range_has 0 (most + 1) found.0 found.1 in
      (found.0, omega arith, found.2)

  within_more : (most : ℕ) (name : Text) → within most name ≡ true → within (suc most) name ≡ true
  within_more most name is =
      let found = count_within most name is in
      let h : found.0 ≤ most = found.1 in
      is_within (suc most) found.0 name (omega arith) found.2

  -- One instance more leads to no other module.
  abbrev IsStable : ℕ → Type 0
  IsStable most = (name : Text) → within (suc most) name ≡ true → within most name ≡ true

  stable_next : (most : ℕ) → IsStable most → IsStable (suc most)
  stable_next most stable name is = by (count_within (suc (suc most)) name is)
    where
      by : (count : ℕ) × (count ≤ suc (suc most)) × (leads design count top name ≡ true) → within (suc most) name ≡ true
      by (zero, h, is) = is_within (suc most) zero name (omega arith) is
      by (suc count, h, is) =
          let end = last design count top name is in
          let before = count_within most end.0 (stable end.0 (is_within (suc most) count end.0 (omega arith) end.1)) in
          let near : before.0 ≤ most = before.1 in
          is_within (suc most) (suc before.0) name (omega arith) (extended design before.0 top end.0 name before.2 end.2)

  -- how many modules so many instances lead to
  abbrev near : ℕ → ℕ
  near most = counted (λ (m : Module). within most m.name) design.modules

  -- whether one instance more leads to this module, and no fewer do
  abbrev is_newly : ℕ → Module → Bool
  is_newly most m = not (within most m.name) && within (suc most) m.name

  newly_parts : (a b : Bool) → (not a && b) ≡ true → (a ≡ false) × (b ≡ true)
  newly_parts false true is = (refl, refl)
  newly_parts true b is = absurd cc
  newly_parts false false is = absurd cc

  newly_whole : (a b : Bool) → a ≡ false → b ≡ true → (not a && b) ≡ true
  newly_whole false true fails passes = refl
  newly_whole true b fails passes = absurd cc
  newly_whole false false fails passes = absurd cc

  -- Where no module is newly led to, none will be.
  stable_where : (most : ℕ) → list_any (is_newly most) design.modules ≡ false → IsStable most
  stable_where most none name is = by (count_within (suc most) name is) (within most name) refl
    where
      by : (count : ℕ) × (count ≤ suc most) × (leads design count top name ≡ true) → (b : Bool) → within most name ≡ b
          → within most name ≡ true
      by found true at = at
      by (zero, h, is') false at = is_within most zero name (omega arith) is'
      by (suc count, h, is') false at =
          let end = last design count top name is' in
          let m = has_module design end.0 name end.2 in
          let newly : is_newly most m.0 ≡ true =
          newly_whole (within most m.0.name) (within (suc most) m.0.name) (ap (within most) m.2 ∙ at) (ap (within (suc most)) m.2 ∙ is) in
          absurd (cc (none, any_by (is_newly most) design.modules m.0 m.1 newly))

  module _ (first : Module) (found : module_named design top ≡ Some first) where
    either : (most : ℕ) → IsStable most ⊎ (suc most ≤ near most)
    either zero =
        let own = found_has (λ (m : Module). bytes_eq m.name top) design.modules first found in
        inr (counted_some (λ (m : Module). within zero m.name) design.modules first own.0
        (is_within zero zero first.name (omega arith) (text_same top first.name (sym (same_text first.name top own.1)))))
    either (suc most) = by (either most)
      where
        more : suc most ≤ near most → (b : Bool) → list_any (is_newly most) design.modules ≡ b
            → IsStable (suc most) ⊎ (suc (suc most) ≤ near (suc most))
        more h false at = inl (stable_next most (stable_where most at))
        more h true at =
            let newly = any_member (is_newly most) design.modules at in
            let parts = newly_parts (within most newly.0.name) (within (suc most) newly.0.name) newly.2 in
            let grown : suc (near most) ≤ near (suc most) =
            counted_more (λ (m : Module). within most m.name) (λ (m : Module). within (suc most) m.name)
            (λ m. within_more most m.name) design.modules newly.0 newly.1 parts.0 parts.1 in
            inr (omega arith)

        by : IsStable most ⊎ (suc most ≤ near most) → IsStable (suc most) ⊎ (suc (suc most) ≤ near (suc most))
        by (inl stable) = inl (stable_next most stable)
        by (inr h) = more h (list_any (is_newly most) design.modules) refl

    stable : IsStable (length design.modules)
    stable = elim (either (length design.modules)) [
      | inl is ↦ is
      | inr h ↦ absurd (let all = counted_within (λ (m : Module). within (length design.modules) m.name) design.modules in omega arith)
    ]

    -- What a reached module has instances of is reached.
    pub reaches_inner : (outer inner : Text) → reaches design top outer ≡ true → Has (inner_names_of design outer) inner
        → reaches design top inner ≡ true
    reaches_inner outer inner is has =
        let way = count_within (length design.modules) outer is in
        let h : way.0 ≤ length design.modules = way.1 in
        stable inner (is_within (suc (length design.modules)) (suc way.0) inner (omega arith)
        (extended design way.0 top outer inner way.2 has))

    pub reaches_top : reaches design top top ≡ true
    reaches_top = is_within (length design.modules) zero top (omega arith) (text_same top top refl)

-- ---- modules that are reached

-- a module that its name finds, and that is reached
pub record IsReached (design : Design) (top : Text) (m : Module) : Type 0 where
  pub found : module_named design m.name ≡ Some m
  pub reaches : reaches design top m.name ≡ true

module _ (design : Design) (top : Text) (first : Module) (found : module_named design top ≡ Some first) where
  pub top_reached : IsReached design top first
  top_reached = record {
    found = finds_itself design top first found;
    reaches = subst (λ name. reaches design top name ≡ true) (sym (own_name design top first found)) (reaches_top design top first found);
  }

  pub child_reached : (m : Module) (child : Child) → IsReached design top m → Has (children design m) child
      → IsReached design top child.definition
  child_reached m child reached has =
      let i = item_of design m.items child has in
      record {
        found = finds_itself design i.inner child.definition i.found;
        reaches = reaches_inner design top first found m.name child.definition.name reached.reaches
            (has_inner design m child reached.found has);
      }

-- A rule on single modules that fails in none that is reached does not fail in this one.
pub rule_kept : (design : Design) (top : Text) (m : Module) (rule : Module → List Failure) → IsReached design top m
    → flat_map rule (reached design top) ≡ [] → rule m ≡ []
rule_kept design top m rule is none =
    each_none rule (reached design top) m none
    (has_passing (λ (m : Module). reaches design top m.name) design.modules m
    (found_has (λ (other : Module). bytes_eq other.name m.name) design.modules m is.found).0 is.reaches)
