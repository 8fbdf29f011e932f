use Rattle.std.proofs.Common.{◌≡◌, drop, flat_map, fold}
use Rattle.hierarchy.specs.Failures.{earlier}
use Rattle.target_rules.specs.Judged.{bad_expr}
use Rattle.target_rules.proofs.exprs.+exprs.Given as goal

-- What is found so far, and then in those that are left, is what is found in all.
abbrev pub invariant-note_exprs-loop-expr : goal.invariant-note_exprs-loop-expr
invariant-note_exprs-loop-expr l = record {
  same : fold earlier l.found (flat_map (bad_expr l.way l.nets) (drop l.expr-index l.exprs)) ≡ fold earlier l.initial.found (flat_map (bad_expr l.way l.nets) l.exprs);
}
