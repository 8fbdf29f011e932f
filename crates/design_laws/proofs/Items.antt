-- What stands in an item whose names are known and in which nothing is wrong is sound.
use Rattle.std.proofs.Common.{◌≡◌, ◌==◌, List, [], ◌∷◌, ◌++◌, Bool, true, ◌&&◌, Option, None, Some, refl, ap, sym, subst, ◌∙◌, flat_map, is_some, length, map}
use Rattle.std.specs.List.{list_all}
use Rattle.hierarchy.specs.Failures.{Failure}
use Rattle.vlog_tree.specs.declared.design.Design.{Design}
use Rattle.vlog_tree.specs.declared.design.Module.{Module}
use Rattle.vlog_tree.specs.declared.expr.Expr.{Expr}
use Rattle.vlog_tree.specs.declared.item.Item.{Item}
use Rattle.vlog_tree.specs.declared.item.Item.TheVariants.{Always, Assign, Decl, Gate, Initial, Instance}
use Rattle.vlog_tree.specs.declared.item.Link.{Link}
use Rattle.vlog_tree.specs.declared.left.Left.{Left}
use Rattle.vlog_tree.specs.declared.stmt.Stmt.{Stmt, roll-Stmt}
use Rattle.vlog_tree.specs.declared.stmt.Stmt.TheFolds.{fold-roll-Stmt, ind-Stmt, map-Stmt}
use Rattle.vlog_tree.specs.declared.stmt.Stmt.TheOpen.{Stmt-F}
use Rattle.vlog_tree.specs.Meaning.Instances.{module_named}
use Rattle.vlog_tree.specs.Meaning.Lefts.{left_bits}
use Rattle.vlog_tree.specs.Meaning.Uses.{Use, connected_uses, expr_uses, item_uses, joined, left_uses, link_uses, stmt_uses, stmt_uses_at, use_of}
use Rattle.vlog_tree.specs.Meaning.Widths.{width}
use Rattle.width_rules.specs.Widths.{bad_terminal, bad_terminals_in, bad_widths_in, expr_shape, in_expr, in_left, in_link, in_stmt, in_stmt_at, left_shape, whole_failure}
use Rattle.lowering.specs.Meaning.{is_sound}
use Rattle.design_laws.specs.Sound.{connected_is_sound, each, input_is_sound, is_one, item_is_sound, left_is_sound, link_is_sound, output_is_sound, stmt_is_sound, stmt_is_sound_at}
use Rattle.design_laws.proofs.Exprs.{AreKnown, expr_right, expr_sound, known_left, known_right}
use Rattle.design_laws.proofs.Lefts.{left_right}
use Rattle.design_laws.proofs.Members.{both, is_noted, left_none, right_none}

-- ---- statements

-- what holds of a statement whose names are known and in which nothing is wrong
abbrev Holds : Module → Stmt → Type 0
Holds m stmt = AreKnown m (stmt_uses stmt) → in_stmt m stmt ≡ [] → stmt_is_sound m stmt ≡ true

abbrev Held : Module → Type 0
Held m = (stmt : Stmt) × Holds m stmt

module _ (m : Module) where
  pub left_sound : (left : Left) → AreKnown m (left_uses left) → in_left m left ≡ [] → left_is_sound m left ≡ true
  left_sound left known none = (left_right m left known none).0

  -- the same of one level, by what its statements have
  abbrev HoldsAt : Stmt-F Stmt → Type 0
  HoldsAt x =
      AreKnown m (stmt_uses_at (map-Stmt Stmt (List Use) stmt_uses x))
      → in_stmt_at m (map-Stmt Stmt (List Failure) (in_stmt m) x) ≡ []
      → stmt_is_sound_at m (map-Stmt Stmt Bool (stmt_is_sound m) x) ≡ true

  abbrev bare : Stmt-F (Held m) → Stmt-F Stmt
  bare y = map-Stmt (Held m) Stmt (λ stmt. stmt.0) y

  abbrev statements : List (Held m) → List Stmt
  statements body = map (λ stmt. stmt.0) body

  body_sound : (body : List (Held m)) → AreKnown m (joined (map stmt_uses (statements body)))
      → flat_map (λ failures. failures) (map (in_stmt m) (statements body)) ≡ []
      → each (map (stmt_is_sound m) (statements body)) ≡ true
  body_sound [] known none = refl
  body_sound ((stmt, holds) ∷ body) known none =
      let uses = joined (map stmt_uses (statements body)) in
      let failures = flat_map (λ failures. failures) (map (in_stmt m) (statements body)) in
      both (stmt_is_sound m stmt) (each (map (stmt_is_sound m) (statements body)))
      (holds (known_left m (stmt_uses stmt) uses known) (left_none (in_stmt m stmt) failures none))
      (body_sound body (known_right m (stmt_uses stmt) uses known) (right_none (in_stmt m stmt) failures none))

  level : (y : Stmt-F (Held m)) → HoldsAt (bare y)
  level Stmt-F.Empty known none = refl
  level (Stmt-F.Block body) known none = body_sound body known none
  level (Stmt-F.If condition (first, holds) None) known none =
      let front = known_left m (expr_uses condition ++ stmt_uses first) [] known in
      let inside = left_none (in_expr m condition ++ in_stmt m first) [] none in
      both (is_sound m condition) (stmt_is_sound m first && true)
      (expr_sound m condition (known_left m (expr_uses condition) (stmt_uses first) front)
      (left_none (in_expr m condition) (in_stmt m first) inside))
      (both (stmt_is_sound m first) true
      (holds (known_right m (expr_uses condition) (stmt_uses first) front) (right_none (in_expr m condition) (in_stmt m first) inside)) refl)
  level (Stmt-F.If condition (first, holds) (Some (other, other_holds))) known none =
      let front = known_left m (expr_uses condition ++ stmt_uses first) (stmt_uses other) known in
      let inside = left_none (in_expr m condition ++ in_stmt m first) (in_stmt m other) none in
      both (is_sound m condition) (stmt_is_sound m first && stmt_is_sound m other)
      (expr_sound m condition (known_left m (expr_uses condition) (stmt_uses first) front)
      (left_none (in_expr m condition) (in_stmt m first) inside))
      (both (stmt_is_sound m first) (stmt_is_sound m other)
      (holds (known_right m (expr_uses condition) (stmt_uses first) front) (right_none (in_expr m condition) (in_stmt m first) inside))
      (other_holds (known_right m (expr_uses condition ++ stmt_uses first) (stmt_uses other) known)
      (right_none (in_expr m condition ++ in_stmt m first) (in_stmt m other) none)))
  level (Stmt-F.Set at left right) known none =
      both (left_is_sound m left) (is_sound m right)
      (left_sound left (known_left m (left_uses left) (expr_uses right) known) (left_none (in_left m left) (in_expr m right) none))
      (expr_sound m right (known_right m (left_uses left) (expr_uses right) known) (right_none (in_left m left) (in_expr m right) none))

  whole : (x : Stmt-F Stmt) → HoldsAt x → Holds m (roll-Stmt x)
  whole x holds known none =
      fold-roll-Stmt Bool (stmt_is_sound_at m) x
      ∙ holds (subst (AreKnown m) (fold-roll-Stmt (List Use) stmt_uses_at x) known)
      (sym (fold-roll-Stmt (List Failure) (in_stmt_at m) x) ∙ none)

  pub stmt_sound : (stmt : Stmt) → Holds m stmt
  stmt_sound = ind-Stmt (Holds m) (λ x y is. subst (λ x. Holds m (roll-Stmt x)) is (whole (bare y) (level y)))

  -- ---- items

  -- A test passes on each part where what it needs is said of each.
  pub all_sound : {X : Type 0} (uses : X → List Use) (failures : X → List Failure) (test : X → Bool)
      → ((x : X) → AreKnown m (uses x) → failures x ≡ [] → test x ≡ true)
      → (xs : List X) → AreKnown m (flat_map uses xs) → flat_map failures xs ≡ [] → list_all test xs ≡ true
  all_sound uses failures test sound [] known none = refl
  all_sound uses failures test sound (x ∷ xs) known none =
      both (test x) (list_all test xs)
      (sound x (known_left m (uses x) (flat_map uses xs) known) (left_none (failures x) (flat_map failures xs) none))
      (all_sound uses failures test sound xs (known_right m (uses x) (flat_map uses xs) known)
      (right_none (failures x) (flat_map failures xs) none))

  link_sound : (link : Link) → AreKnown m (link_uses link) → in_link m link ≡ [] → link_is_sound m link ≡ true
  link_sound link known none = by link.expr known none
    where
      by : (e : Option Expr) → AreKnown m (connected_uses e) → elim e as (λ e. List Failure) [ Some e ↦ in_expr m e | None ↦ [] ] ≡ []
          → connected_is_sound m e ≡ true
      by (Some e) known none = expr_sound m e known none
      by None known none = refl

  output_sound : (out : Left) → AreKnown m (left_uses out) → in_left m out ++ bad_terminal m (left_shape m out) ≡ []
      → output_is_sound m out ≡ true
  output_sound out known none =
      let right = left_right m out known (left_none (in_left m out) (bad_terminal m (left_shape m out)) none) in
      let one = is_noted ((left_shape m out).width == 1) (whole_failure m (left_shape m out))
      (right_none (in_left m out) (bad_terminal m (left_shape m out)) none) in
      both (left_is_sound m out) (length (left_bits m out) == 1) right.0 (ap (λ n. n == 1) right.1 ∙ one)

  input_sound : (input : Expr) → AreKnown m (expr_uses input) → in_expr m input ++ bad_terminal m (expr_shape m input) ≡ []
      → input_is_sound m input ≡ true
  input_sound input known none =
      let inside = left_none (in_expr m input) (bad_terminal m (expr_shape m input)) none in
      let right = expr_right m input known inside in
      let one = is_noted ((expr_shape m input).width == 1) (whole_failure m (expr_shape m input))
      (right_none (in_expr m input) (bad_terminal m (expr_shape m input)) none) in
      both (is_sound m input) (is_one (width m input)) (expr_sound m input known inside) (ap is_one right.0 ∙ one)

-- Two lists of failures, each made of the same items, are none together where both are.
pub together_none : {X : Type 0} (f g : X → List Failure) (xs : List X) → flat_map f xs ≡ [] → flat_map g xs ≡ []
    → flat_map (λ x. f x ++ g x) xs ≡ []
together_none f g [] none other = refl
together_none f g (x ∷ xs) none other =
    ap (λ failures. (failures ++ g x) ++ flat_map (λ x. f x ++ g x) xs) (left_none (f x) (flat_map f xs) none)
    ∙ (ap (λ failures. failures ++ flat_map (λ x. f x ++ g x) xs) (left_none (g x) (flat_map g xs) other)
    ∙ together_none f g xs (right_none (f x) (flat_map f xs) none) (right_none (g x) (flat_map g xs) other))

-- the module of an instance is there
abbrev pub HasModule : Design → Item → Type 0
HasModule design (Instance at inner name links) = is_some (module_named design inner) ≡ true
HasModule design other = Unit {0}

pub item_sound : (design : Design) (m : Module) (i : Item) → AreKnown m (item_uses i) → bad_widths_in m i ≡ [] → bad_terminals_in m i ≡ []
    → HasModule design i → item_is_sound design m i ≡ true
item_sound design m (Decl at dir kind range name) known wide terminals there = refl
item_sound design m (Assign at left right) known wide terminals there =
    both (left_is_sound m left) (is_sound m right)
    (left_sound m left (known_left m (left_uses left) (expr_uses right) known) (left_none (in_left m left) (in_expr m right) wide))
    (expr_sound m right (known_right m (left_uses left) (expr_uses right) known) (right_none (in_left m left) (in_expr m right) wide))
item_sound design m (Gate at kind name outs ins) known wide terminals there =
    let bad_outs = flat_map (λ out. bad_terminal m (left_shape m out)) outs in
    let bad_ins = flat_map (λ input. bad_terminal m (expr_shape m input)) ins in
    both (list_all (output_is_sound m) outs) (list_all (input_is_sound m) ins)
    (all_sound m left_uses (λ out. in_left m out ++ bad_terminal m (left_shape m out)) (output_is_sound m) (output_sound m) outs
    (known_left m (flat_map left_uses outs) (flat_map expr_uses ins) known)
    (together_none (in_left m) (λ out. bad_terminal m (left_shape m out)) outs
    (left_none (flat_map (in_left m) outs) (flat_map (in_expr m) ins) wide) (left_none bad_outs bad_ins terminals)))
    (all_sound m expr_uses (λ input. in_expr m input ++ bad_terminal m (expr_shape m input)) (input_is_sound m) (input_sound m) ins
    (known_right m (flat_map left_uses outs) (flat_map expr_uses ins) known)
    (together_none (in_expr m) (λ input. bad_terminal m (expr_shape m input)) ins
    (right_none (flat_map (in_left m) outs) (flat_map (in_expr m) ins) wide) (right_none bad_outs bad_ins terminals)))
item_sound design m (Instance at inner name links) known wide terminals there =
    both (is_some (module_named design inner)) (list_all (link_is_sound m) links) there
    (all_sound m link_uses (in_link m) (link_is_sound m) (link_sound m) links known wide)
item_sound design m (Always at clock body) known wide terminals there =
    stmt_sound m body (known_right m (use_of at clock true ∷ []) (stmt_uses body) known) wide
item_sound design m (Initial at name value) known wide terminals there =
    expr_sound m value (known_right m (use_of at name true ∷ []) (expr_uses value) known) wide
