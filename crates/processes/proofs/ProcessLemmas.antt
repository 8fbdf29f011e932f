-- What statements are, at each form.
use Rattle.std.proofs.Common.{◌≡◌, ℕ, List, None, Option, Some, ap, map, sym, ◌∙◌}
use Rattle.std.specs.Option.{option_map}
use Rattle.lowering.specs.Expressions.{Wires}
use Rattle.processes.specs.Statements.{Process, block, nothing, process_at, process_of}
use Rattle.vlog_tree.specs.declared.design.Module.{Module}
use Rattle.vlog_tree.specs.declared.expr.Expr.{Expr}
use Rattle.vlog_tree.specs.declared.left.Left.{Left}
use Rattle.vlog_tree.specs.declared.stmt.Stmt.{Stmt}
use Rattle.vlog_tree.specs.declared.stmt.Stmt.TheFolds.{fold-roll-Stmt}
use Rattle.vlog_tree.specs.declared.stmt.Stmt.TheOpen.{Stmt-F}
use Rattle.vlog_tree.specs.declared.stmt.Stmt.TheVariants as stmt

module _ (m : Module) (wires : Wires) (statement : Stmt) where
  pub process_empty : statement ≡ stmt.Empty → process_of m wires statement ≡ nothing
  process_empty is = ap (process_of m wires) (is ∙ sym stmt.rolls-Empty) ∙ fold-roll-Stmt Process (process_at m wires) Stmt-F.Empty

  pub process_block : (body : List Stmt) → statement ≡ stmt.Block body → process_of m wires statement ≡ block (map (process_of m wires) body)
  process_block body is = ap (process_of m wires) (is ∙ sym (stmt.rolls-Block body)) ∙ fold-roll-Stmt Process (process_at m wires) (Stmt-F.Block body)

  pub process_if : (test : Expr) (first : Stmt) (other : Option Stmt) → statement ≡ stmt.If test first other
      → process_of m wires statement ≡ process_at m wires (Stmt-F.If test (process_of m wires first) (option_map (process_of m wires) other))
  process_if test first None is =
      ap (process_of m wires) (is ∙ sym (stmt.rolls-If test first None)) ∙ fold-roll-Stmt Process (process_at m wires) (Stmt-F.If test first None)
  process_if test first (Some other) is =
      ap (process_of m wires) (is ∙ sym (stmt.rolls-If test first (Some other)))
      ∙ fold-roll-Stmt Process (process_at m wires) (Stmt-F.If test first (Some other))

  pub process_set : (at : ℕ) (left : Left) (right : Expr) → statement ≡ stmt.Set at left right
      → process_of m wires statement ≡ process_at m wires (Stmt-F.Set at left right)
  process_set at left right is =
      ap (process_of m wires) (is ∙ sym (stmt.rolls-Set at left right)) ∙ fold-roll-Stmt Process (process_at m wires) (Stmt-F.Set at left right)
