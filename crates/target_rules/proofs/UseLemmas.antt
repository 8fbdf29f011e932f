-- What is wrong with the names in trees, by their forms.
use Rattle.std.specs.Prelude.{◌≡◌, ℕ, List, [], ◌∷◌, ◌++◌, flat_map, map, refl}
use Rattle.std.proofs.Common.{ap, sym, ◌∙◌}
use Rattle.std.proofs.lemmas.Grind.{flat_map-append}
use Rattle.std.proofs.lemmas.List.Folds.{flat_map-map}
use Rattle.hierarchy.specs.Failures.{Failure}
use Rattle.vlog_tree.specs.declared.design.Module.{Module}
use Rattle.vlog_tree.specs.declared.expr.Expr.{Expr}
use Rattle.vlog_tree.specs.declared.expr.Expr.TheFolds.{fold-roll-Expr}
use Rattle.vlog_tree.specs.declared.expr.Expr.TheOpen.{Expr-F}
use Rattle.vlog_tree.specs.declared.expr.Expr.TheVariants as expr
use Rattle.vlog_tree.specs.declared.left.Left.{Left}
use Rattle.vlog_tree.specs.declared.left.Left.TheFolds.{fold-roll-Left}
use Rattle.vlog_tree.specs.declared.left.Left.TheOpen.{Left-F}
use Rattle.vlog_tree.specs.declared.left.Left.TheVariants as left
use Rattle.vlog_tree.specs.declared.stmt.Stmt.{Stmt}
use Rattle.vlog_tree.specs.declared.stmt.Stmt.TheFolds.{fold-roll-Stmt}
use Rattle.vlog_tree.specs.declared.stmt.Stmt.TheOpen.{Stmt-F}
use Rattle.vlog_tree.specs.declared.stmt.Stmt.TheVariants as stmt
use Rattle.vlog_tree.specs.Meaning.Uses.{Use, expr_uses, expr_uses_at, joined, left_uses, left_uses_at}
use Rattle.target_rules.specs.Judged.{bad_expr, bad_left, bad_stmt, bad_use}
use Rattle.target_rules.specs.Targets.{assigned, assigned_at, plain_use}
use Rattle.target_rules.specs.declared.assignment.Assignment.{Assignment}

pub in_two : (judge : Use → List Failure) (first second : List Use)
    → flat_map judge (first ++ second) ≡ flat_map judge first ++ flat_map judge second
in_two judge first second = flat_map-append judge first second

in_all : {X : Type 0} (judge : Use → List Failure) (uses : X → List Use) (parts : List X)
    → flat_map judge (flat_map uses parts) ≡ flat_map (λ part. flat_map judge (uses part)) parts
in_all judge uses [] = refl
in_all judge uses (part ∷ parts) =
    in_two judge (uses part) (flat_map uses parts) ∙ ap (λ rest. flat_map judge (uses part) ++ rest) (in_all judge uses parts)

in_parts : {X : Type 0} (judge : Use → List Failure) (uses : X → List Use) (parts : List X)
    → flat_map judge (joined (map uses parts)) ≡ flat_map (λ part. flat_map judge (uses part)) parts
in_parts judge uses parts = ap (flat_map judge) (flat_map-map (λ list. list) uses parts) ∙ in_all judge uses parts

pub left_join : (way : Assignment) (m : Module) (parts : List Left) →
    bad_left way m (left.Join parts) ≡ flat_map (bad_left way m) parts
left_join way m parts =
    ap (bad_left way m) (sym (left.rolls-Join parts))
    ∙ (ap (flat_map (bad_use way m)) (fold-roll-Left (List Use) left_uses_at (Left-F.Join parts))
    ∙ in_parts (bad_use way m) left_uses parts)

pub expr_join : (way : Assignment) (m : Module) (parts : List Expr) →
    bad_expr way m (expr.Join parts) ≡ flat_map (bad_expr way m) parts
expr_join way m parts =
    ap (bad_expr way m) (sym (expr.rolls-Join parts))
    ∙ (ap (flat_map (bad_use way m)) (fold-roll-Expr (List Use) expr_uses_at (Expr-F.Join parts))
    ∙ in_parts (bad_use way m) expr_uses parts)

pub expr_repeat : (way : Assignment) (m : Module) (count : ℕ) (parts : List Expr) →
    bad_expr way m (expr.Repeat count parts) ≡ flat_map (bad_expr way m) parts
expr_repeat way m count parts =
    ap (bad_expr way m) (sym (expr.rolls-Repeat count parts))
    ∙ (ap (flat_map (bad_use way m)) (fold-roll-Expr (List Use) expr_uses_at (Expr-F.Repeat count parts))
    ∙ in_parts (bad_use way m) expr_uses parts)

pub stmt_block : (m : Module) (body : List Stmt) → bad_stmt m (stmt.Block body) ≡ flat_map (bad_stmt m) body
stmt_block m body =
    ap (bad_stmt m) (sym (stmt.rolls-Block body))
    ∙ (ap (flat_map (plain_use m)) (fold-roll-Stmt (List Use) assigned_at (Stmt-F.Block body))
    ∙ in_parts (plain_use m) assigned body)
