-- An expression whose names are known and in which nothing is wrong has a width, and its selects have bits.
use Rattle.std.proofs.Common.{◌≡◌, ℕ, ◌*◌, List, [], ◌∷◌, ◌++◌, Bool, true, false, ◌&&◌, cond, Option, None, Some, refl, ap, sym, subst, ◌∙◌, arith, flat_map, is_none, is_some, length, map, max, nat_lt, option_and_then, sum, unwrap_or}
use Rattle.std.specs.Option.{option_map}
use Rattle.std.proofs.lemmas.Bool.Decides.{nat_tests}
use Rattle.std.proofs.lemmas.List.Concat.{flat_map-append}
use Rattle.bm_base.specs.declared.range.Range.{Range}
use Rattle.name_rules.specs.Uses.{unknown_use}
use Rattle.vlog_tree.specs.declared.design.Module.{Module}
use Rattle.vlog_tree.specs.declared.expr.Expr.{Expr, roll-Expr}
use Rattle.vlog_tree.specs.declared.expr.Expr.TheFolds.{fold-roll-Expr, ind-Expr, map-Expr}
use Rattle.vlog_tree.specs.declared.expr.Expr.TheOpen.{Expr-F}
use Rattle.vlog_tree.specs.Meaning.Ranges.{Bits, bit_with, part_bits, range_of, span}
use Rattle.vlog_tree.specs.Meaning.Uses.{Text, Use, expr_uses, expr_uses_at, joined, use_of}
use Rattle.vlog_tree.specs.Meaning.Widths.{all_of, binary_width, choice_width, greatest, together, unary_width, width, width_at, within}
use Rattle.width_rules.specs.Widths.{Shape, bad_select, expr_shape, expr_shape_at, failures_of, judged, shape, whole_failure, whole_width, widths_of}
use Rattle.width_rules.specs.Widths as rules
use Rattle.design_laws.specs.Sound.{each}
use Rattle.lowering.specs.Meaning.{has_selects, has_selects_at, is_sound}
use Rattle.design_laws.proofs.Members.{both, is_noted, left_none, not_noted, right_none}

-- ---- names and failures

-- Each of the names that are used is declared or implicit.
abbrev pub AreKnown : Module → List Use → Type 0
AreKnown m uses = flat_map (unknown_use m) uses ≡ []

narrow_is : (width : ℕ) → nat_lt greatest width ≡ false → within width ≡ Some width
narrow_is width narrow = grind (arith, nat_tests)

module _ (m : Module) where
  pub known_left : (uses others : List Use) → AreKnown m (uses ++ others) → AreKnown m uses
  known_left uses others known =
      left_none (flat_map (unknown_use m) uses) (flat_map (unknown_use m) others) (sym (flat_map-append (unknown_use m) uses others) ∙ known)

  pub known_right : (uses others : List Use) → AreKnown m (uses ++ others) → AreKnown m others
  known_right uses others known =
      right_none (flat_map (unknown_use m) uses) (flat_map (unknown_use m) others) (sym (flat_map-append (unknown_use m) uses others) ∙ known)

  pub range_known : (at : ℕ) (name : Text) (whole : Bool) → AreKnown m (use_of at name whole ∷ [])
      → (range : Range) × (range_of m name ≡ Some range)
  range_known at name whole known = by (range_of m name) refl known
    where
      by : (found : Option Range) → range_of m name ≡ found → AreKnown m (use_of at name whole ∷ [])
          → (range : Range) × (range_of m name ≡ Some range)
      by (Some range) is known = (range, is)
      by None is known =
          let noted = not_noted (is_none (range_of m name)) _ (left_none (unknown_use m (use_of at name whole)) [] known) in
          absurd (cc (noted, is))

  -- What is judged is right inside, and is not too wide.
  pub judged_inside : (s : Shape) → (judged m s).failures ≡ [] → s.failures ≡ []
  judged_inside s none = left_none s.failures (cond (nat_lt greatest s.width) (whole_failure m s ∷ []) []) none

  pub judged_within : (s : Shape) → (judged m s).failures ≡ [] → within s.width ≡ Some s.width
  judged_within s none =
      let narrow : nat_lt greatest s.width ≡ false =
      not_noted (nat_lt greatest s.width) (whole_failure m s)
      (right_none s.failures (cond (nat_lt greatest s.width) (whole_failure m s ∷ []) []) none) in
      narrow_is s.width narrow

  pub selected : (at : ℕ) (name : Text) (bits : Option Bits) → bad_select m at name bits ≡ [] → is_some bits ≡ true
  selected at name bits none = is_noted (is_some bits) _ none

  pub span_known : (name : Text) (range : Range) → range_of m name ≡ Some range → whole_width m name ≡ span range
  span_known name range is = ap (λ found. unwrap_or (option_map span found) 0) is

-- ---- one level

-- a width that is that of the shape, and selects that have bits
abbrev pub IsRight : Option ℕ → Shape → Bool → Type 0
IsRight found s selects = (found ≡ Some s.width) × (selects ≡ true)

-- what holds of an expression whose names are known and in which nothing is wrong
abbrev pub Holds : Module → Expr → Type 0
Holds m e = AreKnown m (expr_uses e) → (expr_shape m e).failures ≡ [] → IsRight (width m e) (expr_shape m e) (has_selects m e)

-- an expression of which it holds
abbrev Held : Module → Type 0
Held m = (e : Expr) × Holds m e

module _ (m : Module) where
  -- the same of one level, by what its children have
  abbrev HoldsAt : Expr-F Expr → Type 0
  HoldsAt x =
      AreKnown m (expr_uses_at (map-Expr Expr (List Use) expr_uses x))
      → (expr_shape_at m (map-Expr Expr Shape (expr_shape m) x)).failures ≡ []
      → IsRight (width_at (range_of m) (map-Expr Expr (Option ℕ) (width m) x)) (expr_shape_at m (map-Expr Expr Shape (expr_shape m) x))
      (has_selects_at m (map-Expr Expr Bool (has_selects m) x))

  abbrev bare : Expr-F (Held m) → Expr-F Expr
  bare y = map-Expr (Held m) Expr (λ e. e.0) y

  abbrev expressions : List (Held m) → List Expr
  expressions parts = map (λ part. part.0) parts

  parts_right : (parts : List (Held m)) → AreKnown m (joined (map expr_uses (expressions parts)))
      → failures_of (map (expr_shape m) (expressions parts)) ≡ []
      → (all_of (map (width m) (expressions parts)) ≡ Some (map (λ (s : Shape). s.width) (map (expr_shape m) (expressions parts))))
      × (each (map (has_selects m) (expressions parts)) ≡ true)
  parts_right [] known none = (refl, refl)
  parts_right ((e, holds) ∷ parts) known none =
      let uses = joined (map expr_uses (expressions parts)) in
      let here : IsRight (width m e) (expr_shape m e) (has_selects m e) = holds (known_left m (expr_uses e) uses known)
      (left_none (expr_shape m e).failures (failures_of (map (expr_shape m) (expressions parts))) none) in
      let rest = parts_right parts (known_right m (expr_uses e) uses known)
      (right_none (expr_shape m e).failures (failures_of (map (expr_shape m) (expressions parts))) none) in (
        ap (λ found. all_of (found ∷ map (width m) (expressions parts))) here.0
            ∙ ap (option_map (λ others. (expr_shape m e).width ∷ others)) rest.0,
        both (has_selects m e) (each (map (has_selects m) (expressions parts))) here.1 rest.1,
      )

  level : (y : Expr-F (Held m)) → HoldsAt (bare y)
  level (Expr-F.Number at bits) known none = (judged_within m (shape at None (length bits) []) none, refl)
  level (Expr-F.Whole at name) known none =
      let range = range_known m at name true known in (
        ap (λ found. option_and_then within (option_map span found)) range.1
            ∙ ap within (sym (span_known m name range.0 range.1))
            ∙ judged_within m (shape at (Some name) (whole_width m name) []) none,
        refl,
      )
  level (Expr-F.Bit at name index) known none =
      let range = range_known m at name false known in
      (ap (λ found. option_map (λ range. 1) found) range.1, selected m at name (bit_with m name index) none)
  level (Expr-F.Part at name part) known none =
      let range = range_known m at name false known in
      let s = shape at (Some name) (span part) (bad_select m at name (part_bits m name part)) in (
        ap (λ found. option_and_then (λ range. within (span part)) found) range.1 ∙ judged_within m s none,
        selected m at name (part_bits m name part) (judged_inside m s none),
      )
  level (Expr-F.Unary op (e, holds)) known none =
      let whole : Shape = record (expr_shape m e) { width = unary_width op (expr_shape m e).width } in
      let inside : IsRight (width m e) (expr_shape m e) (has_selects m e) = holds known (judged_inside m whole none) in
      (ap (option_map (unary_width op)) inside.0, inside.1)
  level (Expr-F.Binary op (left, left_holds) (right, right_holds)) known none =
      let a = expr_shape m left in
      let b = expr_shape m right in
      let inside = judged_inside m (rules.together (a ∷ b ∷ []) (binary_width op a.width b.width)) none in
      let first : IsRight (width m left) a (has_selects m left) =
      left_holds (known_left m (expr_uses left) (expr_uses right) known) (left_none a.failures (failures_of (b ∷ [])) inside) in
      let second : IsRight (width m right) b (has_selects m right) =
      right_holds (known_right m (expr_uses left) (expr_uses right) known)
      (left_none b.failures [] (right_none a.failures (failures_of (b ∷ [])) inside)) in (
        ap (λ found. together (binary_width op) found (width m right)) first.0 ∙ ap (together (binary_width op) (Some a.width)) second.0,
        both (has_selects m left) (has_selects m right) first.1 second.1,
      )
  level (Expr-F.Cond (condition, holds) (left, left_holds) (right, right_holds)) known none =
      let c = expr_shape m condition in
      let a = expr_shape m left in
      let b = expr_shape m right in
      let inside = judged_inside m (rules.together (c ∷ a ∷ b ∷ []) (max a.width b.width)) none in
      let later = right_none c.failures (failures_of (a ∷ b ∷ [])) inside in
      let front = known_left m (expr_uses condition ++ expr_uses left) (expr_uses right) known in
      let test : IsRight (width m condition) c (has_selects m condition) =
      holds (known_left m (expr_uses condition) (expr_uses left) front) (left_none c.failures (failures_of (a ∷ b ∷ [])) inside) in
      let first : IsRight (width m left) a (has_selects m left) =
      left_holds (known_right m (expr_uses condition) (expr_uses left) front) (left_none a.failures (failures_of (b ∷ [])) later) in
      let second : IsRight (width m right) b (has_selects m right) =
      right_holds (known_right m (expr_uses condition ++ expr_uses left) (expr_uses right) known)
      (left_none b.failures [] (right_none a.failures (failures_of (b ∷ [])) later)) in (
        ap (λ found. choice_width found (width m left) (width m right)) test.0
            ∙ ap (λ found. together max found (width m right)) first.0 ∙ ap (together max (Some a.width)) second.0,
        both (has_selects m condition) (has_selects m left && has_selects m right) test.1
            (both (has_selects m left) (has_selects m right) first.1 second.1),
      )
  level (Expr-F.Join parts) known none =
      let shapes = map (expr_shape m) (expressions parts) in
      let s = rules.together shapes (widths_of shapes) in
      let right = parts_right parts known (judged_inside m s none) in
      (ap (λ found. option_and_then within (option_map sum found)) right.0 ∙ judged_within m s none, right.1)
  level (Expr-F.Repeat count parts) known none =
      let shapes = map (expr_shape m) (expressions parts) in
      let s = rules.together shapes (count * widths_of shapes) in
      let right = parts_right parts known (judged_inside m s none) in
      (ap (λ found. option_and_then within (option_map (λ widths. count * sum widths) found)) right.0 ∙ judged_within m s none, right.1)

  -- ---- whole expressions

  whole : (x : Expr-F Expr) → HoldsAt x → Holds m (roll-Expr x)
  whole x holds known none =
      let uses = fold-roll-Expr (List Use) expr_uses_at x in
      let shapes = fold-roll-Expr Shape (expr_shape_at m) x in
      let widths = fold-roll-Expr (Option ℕ) (width_at (range_of m)) x in
      let selects = fold-roll-Expr Bool (has_selects_at m) x in
      let right = holds (subst (AreKnown m) uses known) (ap (λ (s : Shape). s.failures) (sym shapes) ∙ none) in
      (widths ∙ right.0 ∙ ap (λ (s : Shape). Some s.width) (sym shapes), selects ∙ right.1)

  pub expr_right : (e : Expr) → Holds m e
  expr_right = ind-Expr (Holds m) (λ x y is. subst (λ x. Holds m (roll-Expr x)) is (whole (bare y) (level y)))

  pub expr_sound : (e : Expr) → AreKnown m (expr_uses e) → (expr_shape m e).failures ≡ [] → is_sound m e ≡ true
  expr_sound e known none =
      let right = expr_right e known none in
      both (is_some (width m e)) (has_selects m e) (ap is_some right.0) right.1
