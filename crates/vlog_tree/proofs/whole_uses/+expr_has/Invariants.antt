use Rattle.std.proofs.Common.{◌≡◌, drop}
use Rattle.std.specs.List.{list_any}
use Rattle.vlog_tree.specs.WholeUses.{expr_has}
use Rattle.vlog_tree.proofs.whole_uses.+expr_has.Given as goal

-- None has it so far.
abbrev pub invariant-any_expr_has-loop-expr : goal.invariant-any_expr_has-loop-expr
invariant-any_expr_has-loop-expr l =
    list_any (expr_has l.name) (drop l.expr-index l.exprs) ≡ list_any (expr_has l.name) l.exprs
