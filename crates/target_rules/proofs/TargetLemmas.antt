-- Which expressions can be assigned.
use Rattle.std.specs.Prelude.{◌≡◌, ℕ, ◌+◌, ◌<◌, List, [], ◌∷◌, Bool, true, false, ◌&&◌, Option, None, Some, cond, drop, fold, is_none, is_some, length, map, option_map, refl}
use Rattle.std.specs.List.{list_all}
use Rattle.std.proofs.Common.{ap, get_or, sym, ◌∙◌}
use Rattle.std.proofs.lemmas.List.{drop_more}
use Rattle.hierarchy.specs.Failures.{Failure, earlier}
use Rattle.vlog_tree.specs.declared.design.Module.{Module}
use Rattle.vlog_tree.specs.declared.expr.Expr.{Expr}
use Rattle.vlog_tree.specs.declared.expr.Expr.TheFolds.{fold-roll-Expr}
use Rattle.vlog_tree.specs.declared.expr.Expr.TheOpen.{Expr-F}
use Rattle.vlog_tree.specs.declared.expr.Expr.TheVariants as expr
use Rattle.vlog_tree.specs.Meaning.Lefts.{Bit, beside, target_bits, target_bits_at}
use Rattle.vlog_tree.specs.Meaning.Widths.{all_of}
use Rattle.width_rules.specs.Widths.{expr_shape, whole_failure}
use Rattle.target_rules.specs.Judged.{bad_whole}

-- ---- all of a list

all_from : {X : Type 0} (test : X → Bool) (xs : List X) (i : ℕ) (x : X) → i < length xs → x ≡ get_or xs i x
    → list_all test (drop i xs) ≡ (test x && list_all test (drop (i + 1) xs))
all_from test xs i x within is =
    ap (list_all test) (drop_more xs i x within ∙ ap (λ y. y ∷ drop (i + 1) xs) (sym is))

pub one_fails : {X : Type 0} (test : X → Bool) (xs : List X) (i : ℕ) (x : X) → i < length xs → x ≡ get_or xs i x
    → list_all test (drop i xs) ≡ list_all test xs → test x ≡ false → false ≡ list_all test xs
one_fails test xs i x within is left fails =
    sym (ap (λ b. b && list_all test (drop (i + 1) xs)) fails) ∙ (sym (all_from test xs i x within is) ∙ left)

pub one_more : {X : Type 0} (test : X → Bool) (xs : List X) (i : ℕ) (x : X) → i < length xs → x ≡ get_or xs i x
    → list_all test (drop i xs) ≡ list_all test xs → test x ≡ true → list_all test (drop (i + 1) xs) ≡ list_all test xs
one_more test xs i x within is left holds =
    sym (ap (λ b. b && list_all test (drop (i + 1) xs)) holds) ∙ (sym (all_from test xs i x within is) ∙ left)

-- ---- parts

has_mapped : {X Y : Type 0} (f : X → Y) (found : Option X) → is_some (option_map f found) ≡ is_some found
has_mapped f None = refl
has_mapped f (Some x) = refl

has_all : {X Y : Type 0} (value : X → Option Y) (xs : List X) →
    is_some (all_of (map value xs)) ≡ list_all (λ x. is_some (value x)) xs
has_all value [] = refl
has_all {X = X} {Y = Y} value (x ∷ xs) = by (value x) (has_all value xs)
  where
    by : (first : Option Y) → is_some (all_of (map value xs)) ≡ list_all (λ x. is_some (value x)) xs
        → is_some (all_of (first ∷ map value xs)) ≡ (is_some first && list_all (λ x. is_some (value x)) xs)
    by None rest = refl
    by (Some y) rest = has_mapped (λ ys. y ∷ ys) (all_of (map value xs)) ∙ rest

pub target_join : (m : Module) (parts : List Expr) →
    is_some (target_bits m (expr.Join parts)) ≡ list_all (λ part. is_some (target_bits m part)) parts
target_join m parts =
    ap (λ e. is_some (target_bits m e)) (sym (expr.rolls-Join parts))
    ∙ (ap is_some (fold-roll-Expr (Option (List Bit)) (target_bits_at m) (Expr-F.Join parts))
    ∙ (has_mapped beside (all_of (map (target_bits m) parts))
    ∙ has_all (target_bits m) parts))

-- ---- what is noted

none_is : {X : Type 0} (found : Option X) → is_some found ≡ false → is_none found ≡ true
none_is None is = refl
none_is (Some x) is = sym is

none_is_not : {X : Type 0} (found : Option X) → is_some found ≡ true → is_none found ≡ false
none_is_not None is = sym is
none_is_not (Some x) is = refl

pub cannot_be : (m : Module) (e : Expr) (before : Option Failure) → is_some (target_bits m e) ≡ false
    → earlier before (whole_failure m (expr_shape m e)) ≡ fold earlier before (bad_whole m e)
cannot_be m e before is = sym (ap (λ cannot. fold earlier before (cond cannot (whole_failure m (expr_shape m e) ∷ []) [])) (none_is (target_bits m e) is))

pub can_be : (m : Module) (e : Expr) (before : Option Failure) → is_some (target_bits m e) ≡ true
    → before ≡ fold earlier before (bad_whole m e)
can_be m e before is = sym (ap (λ cannot. fold earlier before (cond cannot (whole_failure m (expr_shape m e) ∷ []) [])) (none_is_not (target_bits m e) is))
