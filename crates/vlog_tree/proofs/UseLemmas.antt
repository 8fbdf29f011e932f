-- Whole uses in lists of uses that are joined.
use Rattle.std.specs.Prelude.{◌≡◌, ℕ, List, [], ◌∷◌, ◌++◌, Bool, ◌||◌, refl, filter, flat_map, map}
use Rattle.std.specs.List.{list_any}
use Rattle.std.proofs.Common.{ap, sym, ◌∙◌}
use Rattle.std.proofs.lemmas.List.Elements.{filter-append}
use Rattle.std.proofs.lemmas.List.Folds.{list_any-append, flat_map-map}
use Rattle.std.proofs.lemmas.List.Concat.{flat_map-cons}
use Rattle.vlog_tree.specs.declared.expr.Expr.{Expr}
use Rattle.vlog_tree.specs.declared.expr.Expr.TheFolds.{fold-roll-Expr}
use Rattle.vlog_tree.specs.declared.expr.Expr.TheOpen.{Expr-F}
use Rattle.vlog_tree.specs.declared.expr.Expr.TheVariants as expr
use Rattle.vlog_tree.specs.declared.left.Left.{Left}
use Rattle.vlog_tree.specs.declared.left.Left.TheFolds.{fold-roll-Left}
use Rattle.vlog_tree.specs.declared.left.Left.TheOpen.{Left-F}
use Rattle.vlog_tree.specs.declared.left.Left.TheVariants as left
use Rattle.vlog_tree.specs.Meaning.Names.{is_named}
use Rattle.vlog_tree.specs.Meaning.Uses.{Text, Use, expr_uses, expr_uses_at, joined, left_uses, left_uses_at}
use Rattle.vlog_tree.specs.WholeUses.{expr_has, left_has, stands_whole}

pub whole_in_two : (name : Text) (first second : List Use) →
    stands_whole name (first ++ second) ≡ (stands_whole name first || stands_whole name second)
whole_in_two name first second =
    ap (list_any (is_named name)) (filter-append (λ one. one.is_whole) first second)
    ∙ list_any-append (is_named name) (filter (λ one. one.is_whole) first) (filter (λ one. one.is_whole) second)

pub whole_in_all : {X : Type 0} (name : Text) (uses : X → List Use) (items : List X) →
    stands_whole name (flat_map uses items) ≡ list_any (λ item. stands_whole name (uses item)) items
whole_in_all name uses [] = refl
whole_in_all name uses (item ∷ items) =
    ap (stands_whole name) (flat_map-cons uses item items)
    ∙ (whole_in_two name (uses item) (flat_map uses items)
    ∙ ap (λ rest. stands_whole name (uses item) || rest) (whole_in_all name uses items))

pub whole_in_parts : {X : Type 0} (name : Text) (uses : X → List Use) (parts : List X) →
    stands_whole name (joined (map uses parts)) ≡ list_any (λ part. stands_whole name (uses part)) parts
whole_in_parts name uses parts =
    ap (stands_whole name) (flat_map-map (λ list. list) uses parts) ∙ whole_in_all name uses parts

pub expr_in_join : (name : Text) (parts : List Expr) → expr_has name (expr.Join parts) ≡ list_any (expr_has name) parts
expr_in_join name parts =
    ap (expr_has name) (sym (expr.rolls-Join parts))
    ∙ (ap (stands_whole name) (fold-roll-Expr (List Use) expr_uses_at (Expr-F.Join parts))
    ∙ whole_in_parts name expr_uses parts)

pub expr_in_repeat : (name : Text) (count : ℕ) (parts : List Expr) →
    expr_has name (expr.Repeat count parts) ≡ list_any (expr_has name) parts
expr_in_repeat name count parts =
    ap (expr_has name) (sym (expr.rolls-Repeat count parts))
    ∙ (ap (stands_whole name) (fold-roll-Expr (List Use) expr_uses_at (Expr-F.Repeat count parts))
    ∙ whole_in_parts name expr_uses parts)

pub left_in_join : (name : Text) (parts : List Left) → left_has name (left.Join parts) ≡ list_any (left_has name) parts
left_in_join name parts =
    ap (left_has name) (sym (left.rolls-Join parts))
    ∙ (ap (stands_whole name) (fold-roll-Left (List Use) left_uses_at (Left-F.Join parts))
    ∙ whole_in_parts name left_uses parts)

pub any_in_all : {X : Type 0} (test : Use → Bool) (uses : X → List Use) (items : List X) →
    list_any test (flat_map uses items) ≡ list_any (λ item. list_any test (uses item)) items
any_in_all test uses [] = refl
any_in_all test uses (item ∷ items) =
    ap (list_any test) (flat_map-cons uses item items)
    ∙ (list_any-append test (uses item) (flat_map uses items)
    ∙ ap (λ rest. list_any test (uses item) || rest) (any_in_all test uses items))
