-- The instances of a design that keeps the rules on names: each has a path of its own, which leads to its module.
use Rattle.std.proofs.Common.{◌≡◌, ℕ, zero, suc, ◌+◌, ◌<◌, List, [], ◌∷◌, ◌++◌, true, Option, None, Some, refl, ap, sym, subst, ◌∙◌, arith, append_assoc, flat_map, length, length-append, option_and_then, ◌⊎◌, inl, inr}
use Rattle.std.proofs.lemmas.List.{append-nil}
use Rattle.hierarchy.specs.Reach.{leads, reached}
use Rattle.name_rules.specs.Declarations.{bad_names}
use Rattle.vlog_tree.specs.declared.design.Design.{Design}
use Rattle.vlog_tree.specs.declared.design.Module.{Module}
use Rattle.vlog_tree.specs.Meaning.Instances.{Child, Instance, Path, child_named, children, down_from, inside, module_at, module_from, top_module}
use Rattle.vlog_tree.specs.Meaning.Setting.{Setting}
use Rattle.vlog_tree.specs.Meaning.Uses.{Text}
use Rattle.design_laws.proofs.Apart.{AreApart, apart_each}
use Rattle.design_laws.proofs.Members.{Has, has_cases, has_each, has_from, has_later}
use Rattle.design_laws.proofs.Naming.{child_found, children_apart}
use Rattle.design_laws.proofs.Reaching.{IsReached, child_reached, extended, has_inner, own_name, rule_kept, text_same, top_reached}

-- ---- paths

-- the module of the child of a name
abbrev child_module : Design → Text → Module → Option Module
child_module design name m = option_and_then (λ (child : Child). Some child.definition) (child_named design m name)

module_from_more : (design : Design) (m : Module) (path : Path) (name : Text) →
    module_from design m (path ++ name ∷ []) ≡ option_and_then (child_module design name) (module_from design m path)
module_from_more design m [] name = refl
module_from_more design m (outer ∷ path) name = by (child_named design m outer) (λ child. module_from_more design child.definition path name)
  where
    by : (found : Option Child)
        → ((child : Child) → module_from design child.definition (path ++ name ∷ [])
        ≡ option_and_then (child_module design name) (module_from design child.definition path))
        → option_and_then (λ (child : Child). module_from design child.definition (path ++ name ∷ [])) found
        ≡ option_and_then (child_module design name) (option_and_then (λ (child : Child). module_from design child.definition path) found)
    by None later = refl
    by (Some child) later = later child

pub module_at_more : (setting : Setting) (path : Path) (name : Text) (m : Module) (child : Child) → module_at setting path ≡ Some m
    → child_named setting.design m name ≡ Some child → module_at setting (path ++ name ∷ []) ≡ Some child.definition
module_at_more setting path name m child is named = by (top_module setting) is
  where
    by : (top : Option Module) → option_and_then (λ m. module_from setting.design m path) top ≡ Some m
        → option_and_then (λ m. module_from setting.design m (path ++ name ∷ [])) top ≡ Some child.definition
    by None is = absurd cc
    by (Some top) is =
        module_from_more setting.design top path name ∙ ap (option_and_then (child_module setting.design name)) is
        ∙ ap (option_and_then (λ (child : Child). Some child.definition)) named

same_end : (front : Path) (xs ys : Path) → front ++ xs ≡ front ++ ys → xs ≡ ys
same_end [] xs ys same = same
same_end (name ∷ front) xs ys same = same_end front xs ys (ap (rest_of name) same)
  where
    rest_of : Text → Path → Path
    rest_of name [] = []
    rest_of name (other ∷ path) = path

abbrev first_of : Text → Path → Text
first_of other [] = other
first_of other (name ∷ path) = name

-- ---- the instances below another

module _ (design : Design) where
  pub path_below : (depth : ℕ) (start x : Instance) → Has (down_from design depth start) x → (rest : Path) × (x.path ≡ start.path ++ rest)
  path_below zero start x (i, is) = absurd cc
  path_below (suc depth) start x has = elim (has_cases start _ x has) [
    | inl same ↦ ([], ap (λ (x : Instance). x.path) (sym same) ∙ sym (append-nil start.path))
    | inr later ↦ (
        let from = has_from (λ child. down_from design depth (inside start.path child)) (children design start.definition) x later in
        let rest = path_below depth (inside start.path from.0) x from.2 in
        (from.0.name ∷ rest.0, rest.1 ∙ append_assoc start.path (from.0.name ∷ []) rest.0))
  ]

  pub depth_below : (depth : ℕ) (start x : Instance) → Has (down_from design depth start) x → length x.path < length start.path + depth
  depth_below zero start x (i, is) = absurd cc
  depth_below (suc depth) start x has = elim (has_cases start _ x has) [
    | inl same ↦ (let e : length start.path ≡ length x.path = ap (λ (x : Instance). length x.path) same in omega arith)
    | inr later ↦ (
        let from = has_from (λ child. down_from design depth (inside start.path child)) (children design start.definition) x later in
        let h = depth_below depth (inside start.path from.0) x from.2 in
        omega (arith, h, length-append start.path (from.0.name ∷ [])))
  ]

  -- those below the children of an instance
  abbrev below : ℕ → Instance → Child → List Instance
  below depth start child = down_from design depth (inside start.path child)

  inside_first : (depth : ℕ) (start outer : Instance) (child : Child) → start ≡ outer
      → suc (length outer.path) < length start.path + suc depth → Has (children design outer.definition) child
      → Has (down_from design (suc depth) start) (inside outer.path child)
  inside_first zero start outer child same h stands =
      absurd (let e : length start.path ≡ length outer.path = ap (λ (x : Instance). length x.path) same in omega arith)
  inside_first (suc depth) start outer child same h stands =
      let own : Has (children design start.definition) child =
      subst (λ (x : Instance). Has (children design x.definition) child) (sym same) stands in
      subst (λ (x : Instance). Has (down_from design (suc (suc depth)) start) (inside x.path child)) same
      (has_later start (flat_map (below (suc depth) start) (children design start.definition)) (inside start.path child)
      (has_each (below (suc depth) start) (children design start.definition) child (inside start.path child) own (0, refl)))

  -- A child of an instance is there, where that is not too deep.
  pub inside_below : (depth : ℕ) (start outer : Instance) (child : Child) → Has (down_from design depth start) outer
      → suc (length outer.path) < length start.path + depth → Has (children design outer.definition) child
      → Has (down_from design depth start) (inside outer.path child)
  inside_below zero start outer child (i, is) h stands = absurd cc
  inside_below (suc depth) start outer child has h stands = elim (has_cases start _ outer has) [
    | inl same ↦ inside_first depth start outer child same h stands
    | inr later ↦ (
        let from = has_from (below depth start) (children design start.definition) outer later in
        has_later start (flat_map (below depth start) (children design start.definition)) (inside outer.path child)
        (has_each (below depth start) (children design start.definition) from.0 (inside outer.path child) from.1
        (inside_below depth (inside start.path from.0) outer child from.2
        (omega (arith, h, length-append start.path (from.0.name ∷ []))) stands)))
  ]

  -- The instance is a child of one of these.
  pub record IsChild (xs : List Instance) (x : Instance) : Type 0 where
    pub outer : Instance
    pub child : Child
    pub has : Has xs outer
    pub stands : Has (children design outer.definition) child
    pub is : x ≡ inside outer.path child

  -- Each is the one from which they are taken, or a child of another.
  pub parent_below : (depth : ℕ) (start x : Instance) → Has (down_from design depth start) x
      → (start ≡ x) ⊎ IsChild (down_from design depth start) x
  parent_below zero start x (i, is) = absurd cc
  parent_below (suc depth) start x has = elim (has_cases start _ x has) [
    | inl same ↦ inl same
    | inr later ↦ (
        let from = has_from (below depth start) (children design start.definition) x later in
        elim (parent_below depth (inside start.path from.0) x from.2) [
          | inl same ↦ inr (record { outer = start; child = from.0; has = (0, refl); stands = from.1; is = sym same })
          | inr up ↦ inr (record {
            outer = up.outer;
            child = up.child;
            has = has_later start (flat_map (below depth start) (children design start.definition)) up.outer
                (has_each (below depth start) (children design start.definition) from.0 up.outer from.1 up.has);
            stands = up.stands;
            is = up.is;
          })
        ])
  ]

-- ---- what each instance has

-- an instance whose module is reached, to which its path leads, by as many instances as the path has names
pub record IsPlaced (setting : Setting) (x : Instance) : Type 0 where
  pub reached : IsReached setting.design setting.top x.definition
  pub led : module_at setting x.path ≡ Some x.definition
  pub far : leads setting.design (length x.path) setting.top x.definition.name ≡ true

-- the top as an instance
abbrev pub as_top : Module → Instance
as_top m = record { path = []; definition = m }

module _ (setting : Setting) (first : Module) (found : top_module setting ≡ Some first)
    (names : flat_map bad_names (reached setting.design setting.top) ≡ []) where
  pub names_right : (m : Module) → IsReached setting.design setting.top m → bad_names m ≡ []
  names_right m is = rule_kept setting.design setting.top m bad_names is names

  pub top_placed : IsPlaced setting (as_top first)
  top_placed = record {
    reached = top_reached setting.design setting.top first found;
    led = ap (option_and_then (λ m. module_from setting.design m [])) found;
    far = text_same setting.top first.name (sym (own_name setting.design setting.top first found));
  }

  pub child_placed : (outer : Instance) (child : Child) → IsPlaced setting outer → Has (children setting.design outer.definition) child
      → IsPlaced setting (inside outer.path child)
  child_placed outer child placed has = record {
    reached = child_reached setting.design setting.top first found outer.definition child placed.reached has;
    led = module_at_more setting outer.path child.name outer.definition child placed.led
        (child_found setting.design outer.definition child (names_right outer.definition placed.reached) has);
    far =
        let longer : suc (length outer.path) ≡ length (outer.path ++ child.name ∷ []) =
        omega (arith, length-append outer.path (child.name ∷ [])) in
        subst (λ count. leads setting.design count setting.top child.definition.name ≡ true) longer
        (extended setting.design (length outer.path) setting.top outer.definition.name child.definition.name placed.far
        (has_inner setting.design outer.definition child placed.reached.found has));
  }

  pub all_placed : (depth : ℕ) (from x : Instance) → IsPlaced setting from → Has (down_from setting.design depth from) x → IsPlaced setting x
  all_placed zero from x placed (i, is) = absurd cc
  all_placed (suc depth) from x placed has = elim (has_cases from _ x has) [
    | inl same ↦ subst (IsPlaced setting) same placed
    | inr later ↦ (
        let up = has_from (below setting.design depth from) (children setting.design from.definition) x later in
        all_placed depth (inside from.path up.0) x (child_placed from up.0 placed up.1) up.2)
  ]

  -- No two instances have one path.
  pub paths_apart : (depth : ℕ) (from : Instance) → IsPlaced setting from
      → AreApart (λ (x : Instance). x.path) (down_from setting.design depth from)
  paths_apart zero from placed = tt
  paths_apart (suc depth) from placed = (
    λ x has same.
        let up = has_from (below setting.design depth from) (children setting.design from.definition) x has in
        let end = path_below setting.design depth (inside from.path up.0) x up.2 in
        let long : length from.path ≡ length from.path + 1 + length end.0 =
        ap length same ∙ ap length end.1 ∙ length-append (from.path ++ up.0.name ∷ []) end.0
        ∙ ap (λ n. n + length end.0) (length-append from.path (up.0.name ∷ [])) in
        absurd (omega arith),
    apart_each (λ (x : Instance). x.path) (below setting.design depth from) (λ (child : Child). child.name) (children setting.design from.definition)
        (children_apart setting.design from.definition (names_right from.definition placed.reached))
        (λ child has. paths_apart depth (inside from.path child) (child_placed from child placed has))
        (λ child other x y has another same.
        let end = path_below setting.design depth (inside from.path child) x has in
        let other_end = path_below setting.design depth (inside from.path other) y another in
        ap (first_of child.name)
        (same_end from.path (child.name ∷ end.0) (other.name ∷ other_end.0)
        (sym (end.1 ∙ append_assoc from.path (child.name ∷ []) end.0) ∙ same ∙ other_end.1
        ∙ append_assoc from.path (other.name ∷ []) other_end.0))),
  )
