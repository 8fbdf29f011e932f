-- Sound expressions are made of sound expressions, and how wide they are.
use Rattle.std.specs.Prelude.{◌≡◌, ⊤, ℕ, ◌+◌, ◌≤◌, List, [], ◌∷◌, Bool, true, ◌&&◌, Option, None, Some, is_some, map, max, option_and_then, option_map, refl, sum, unwrap_or}
use Rattle.std.specs.List.{list_all}
use Rattle.std.proofs.Common.{ap, sym, subst, ◌∙◌}
use Rattle.std.proofs.lemmas.List.Sums.{sum_by-cons}
use Rattle.std.proofs.lemmas.Option.{none-some, same_Some}
use Rattle.vlog_tree.specs.declared.design.Module.{Module}
use Rattle.vlog_tree.specs.declared.expr.Expr.{Expr, map-Expr, roll-Expr}
use Rattle.vlog_tree.specs.declared.expr.Expr.TheFolds.{fold-roll-Expr}
use Rattle.vlog_tree.specs.declared.expr.Expr.TheOpen.{Expr-F}
use Rattle.vlog_tree.specs.Meaning.Expressions.{Operand}
use Rattle.vlog_tree.specs.Meaning.Ranges.{range_of}
use Rattle.vlog_tree.specs.Meaning.Widths.{all_of, choice_width, together, width, width_at, within}
use Rattle.lowering.specs.Expressions.{width_of}
use Rattle.lowering.specs.Meaning.{has_selects, has_selects_at, is_sound}
use Rattle.lowering.proofs.PartLemmas.{total}
use Rattle.lowering.proofs.SelectLemmas.{and_both, width_within}

pub both_and : (a b : Bool) → a ≡ true → b ≡ true → (a && b) ≡ true
both_and a b h k = ap (λ a. a && b) h ∙ k

-- ---- one level

module _ (m : Module) where
  -- the width of one level, by the widths of what is inside, and whether its selects have bits
  abbrev pub level_width : Expr-F Expr → Option ℕ
  level_width x = width_at (range_of m) (map-Expr Expr (Option ℕ) (width m) x)

  abbrev pub level_selects : Expr-F Expr → Bool
  level_selects x = has_selects_at m (map-Expr Expr Bool (has_selects m) x)

  pub width_level : (x : Expr-F Expr) → width m (roll-Expr x) ≡ level_width x
  width_level x = fold-roll-Expr (Option ℕ) (width_at (range_of m)) x

  selects_level : (x : Expr-F Expr) → has_selects m (roll-Expr x) ≡ level_selects x
  selects_level x = fold-roll-Expr Bool (has_selects_at m) x

  pub level_there : (x : Expr-F Expr) → is_sound m (roll-Expr x) ≡ true → is_some (level_width x) ≡ true
  level_there x sound =
      subst (λ width. is_some width ≡ true) (width_level x)
      (and_both (is_some (width m (roll-Expr x))) (has_selects m (roll-Expr x)) sound).0

  pub level_selected : (x : Expr-F Expr) → is_sound m (roll-Expr x) ≡ true → level_selects x ≡ true
  level_selected x sound =
      subst (λ selects. selects ≡ true) (selects_level x)
      (and_both (is_some (width m (roll-Expr x))) (has_selects m (roll-Expr x)) sound).1

  pub level_narrow : (x : Expr-F Expr) (count : ℕ) → width_of m (roll-Expr x) ≤ count → unwrap_or (level_width x) 0 ≤ count
  level_narrow x count h = subst (λ width. unwrap_or width 0 ≤ count) (width_level x) h

  -- Each of a list is sound.
  abbrev pub AllSound : List Expr → Type 0
  AllSound [] = ⊤
  AllSound (e ∷ es) = (is_sound m e ≡ true) × AllSound es

-- ---- widths of what is inside

pub mapped_there : (f : ℕ → ℕ) (width : Option ℕ) → is_some (option_map f width) ≡ true
    → (is_some width ≡ true) × (unwrap_or (option_map f width) 0 ≡ f (unwrap_or width 0))
mapped_there f None h = absurd cc
mapped_there f (Some width) h = (refl, refl)

pub both_there : (f : ℕ → ℕ → ℕ) (left right : Option ℕ) → is_some (together f left right) ≡ true
    → (is_some left ≡ true) × (is_some right ≡ true) × (unwrap_or (together f left right) 0 ≡ f (unwrap_or left 0) (unwrap_or right 0))
both_there f None right h = absurd cc
both_there f (Some left) None h = absurd cc
both_there f (Some left) (Some right) h = (refl, refl, refl)

pub choice_there : (condition first second : Option ℕ) → is_some (choice_width condition first second) ≡ true
    → (is_some condition ≡ true) × (is_some first ≡ true) × (is_some second ≡ true)
    × (unwrap_or (choice_width condition first second) 0 ≡ max (unwrap_or first 0) (unwrap_or second 0))
choice_there None first second h = absurd cc
choice_there (Some condition) first second h =
    let both = both_there max first second h in (refl, both.0, both.1, both.2)

-- ---- parts

abbrev pub AllThere : List (Option ℕ) → Type 0
AllThere [] = ⊤
AllThere (width ∷ widths) = (is_some width ≡ true) × AllThere widths

abbrev pub counts : List (Option ℕ) → List ℕ
counts widths = map (λ width. unwrap_or width 0) widths

all_there : (widths : List (Option ℕ)) (found : List ℕ) → all_of widths ≡ Some found → AllThere widths × (counts widths ≡ found)
all_there [] found h = (tt, same_Some [] found h)
all_there (None ∷ widths) found h = absurd (none-some found h)
all_there (Some width ∷ widths) found h =
    let rest : (others : Option (List ℕ)) → all_of widths ≡ others → option_map (λ others. width ∷ others) others ≡ Some found
    → AllThere (Some width ∷ widths) × (counts (Some width ∷ widths) ≡ found) =
    elim [
      | None ↦ λ is h. absurd (none-some found h)
      | Some others ↦ λ is h. (let more = all_there widths others is in
          ((refl, more.0), ap (λ others. width ∷ others) more.1 ∙ same_Some (width ∷ others) found h))
    ] in
    rest (all_of widths) refl h

pub row_there : (g : List ℕ → ℕ) (widths : List (Option ℕ)) → is_some (option_and_then within (option_map g (all_of widths))) ≡ true
    → AllThere widths × (unwrap_or (option_and_then within (option_map g (all_of widths))) 0 ≡ g (counts widths))
row_there g widths h =
    let step : (found : Option (List ℕ)) → all_of widths ≡ found → is_some (option_and_then within (option_map g found)) ≡ true
    → AllThere widths × (unwrap_or (option_and_then within (option_map g found)) 0 ≡ g (counts widths)) =
    elim [
      | None ↦ λ is h. absurd cc
      | Some found ↦ λ is h. (let all = all_there widths found is in
          (all.0, width_within (g found) h ∙ ap g (sym all.1)))
    ] in
    step (all_of widths) refl h

module _ (m : Module) where
  pub parts_sound : (parts : List Expr) → AllThere (map (width m) parts) → list_all (λ part. part) (map (has_selects m) parts) ≡ true → AllSound m parts
  parts_sound [] h k = tt
  parts_sound (part ∷ parts) h k =
      let both = and_both (has_selects m part) (list_all (λ part. part) (map (has_selects m) parts)) k in
      (both_and (is_some (width m part)) (has_selects m part) h.0 both.0, parts_sound parts h.1 both.1)

  pub counts_total : (operand : Expr → Operand) → ((e : Expr) → (operand e).0 ≡ e) → (parts : List Expr) →
      sum (counts (map (width m) parts)) ≡ total m (map operand parts)
  counts_total operand is [] = refl
  counts_total operand is (part ∷ parts) =
      sum_by-cons (λ width. width) (unwrap_or (width m part) 0) (counts (map (width m) parts))
      ∙ (ap (λ rest. unwrap_or (width m part) 0 + rest) (counts_total operand is parts)
      ∙ ap (λ e. unwrap_or (width m e) 0 + total m (map operand parts)) (sym (is part)))
