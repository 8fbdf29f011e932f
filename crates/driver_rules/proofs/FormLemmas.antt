-- What is assigned, at forms of left sides and of expressions.
use Rattle.std.proofs.Common.{◌≡◌, ℕ, List, ap, sym, ◌∙◌}
use Rattle.bm_base.specs.declared.range.Range.{Range}
use Rattle.vlog_tree.specs.declared.design.Module.{Module}
use Rattle.vlog_tree.specs.declared.expr.Expr.{Expr}
use Rattle.vlog_tree.specs.declared.expr.Expr.TheFolds.{fold-roll-Expr}
use Rattle.vlog_tree.specs.declared.expr.Expr.TheOpen.{Expr-F}
use Rattle.vlog_tree.specs.declared.expr.Expr.TheVariants as expr
use Rattle.vlog_tree.specs.declared.expr.Expr.TheVariants.{rolls-Bit, rolls-Part}
use Rattle.vlog_tree.specs.declared.left.Left.{Left}
use Rattle.vlog_tree.specs.declared.left.Left.TheFolds.{fold-roll-Left}
use Rattle.vlog_tree.specs.declared.left.Left.TheOpen.{Left-F}
use Rattle.vlog_tree.specs.declared.left.Left.TheVariants as left
use Rattle.vlog_tree.specs.declared.left.Left.TheVariants.{rolls-Bit as rolls-Bit-Left, rolls-Part as rolls-Part-Left}
use Rattle.vlog_tree.specs.Meaning.Ranges.{bit_with, part_bits}
use Rattle.vlog_tree.specs.Meaning.Uses.{Text}
use Rattle.driver_rules.specs.Doubles.{Assigned, assigned_at, left_assigned, left_assigned_at, target_assigned, target_assigned_at}

pub left_bit : (m : Module) (side : Left) (at : ℕ) (name : Text) (index : ℕ) → side ≡ left.Bit at name index → left_assigned m side ≡ assigned_at at (bit_with m name index)
left_bit m side at name index is =
    ap (left_assigned m) is ∙ ap (left_assigned m) (sym (rolls-Bit-Left at name index)) ∙ fold-roll-Left (List Assigned) (left_assigned_at m) (Left-F.Bit at name index)

pub left_part : (m : Module) (side : Left) (at : ℕ) (name : Text) (part : Range) → side ≡ left.Part at name part → left_assigned m side ≡ assigned_at at (part_bits m name part)
left_part m side at name part is =
    ap (left_assigned m) is ∙ ap (left_assigned m) (sym (rolls-Part-Left at name part)) ∙ fold-roll-Left (List Assigned) (left_assigned_at m) (Left-F.Part at name part)

pub target_bit : (m : Module) (e : Expr) (at : ℕ) (name : Text) (index : ℕ) → e ≡ expr.Bit at name index → target_assigned m e ≡ assigned_at at (bit_with m name index)
target_bit m e at name index is =
    ap (target_assigned m) is ∙ ap (target_assigned m) (sym (rolls-Bit at name index)) ∙ fold-roll-Expr (List Assigned) (target_assigned_at m) (Expr-F.Bit at name index)

pub target_part : (m : Module) (e : Expr) (at : ℕ) (name : Text) (part : Range) → e ≡ expr.Part at name part → target_assigned m e ≡ assigned_at at (part_bits m name part)
target_part m e at name part is =
    ap (target_assigned m) is ∙ ap (target_assigned m) (sym (rolls-Part at name part)) ∙ fold-roll-Expr (List Assigned) (target_assigned_at m) (Expr-F.Part at name part)
