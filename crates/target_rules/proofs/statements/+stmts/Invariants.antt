use Rattle.std.proofs.Common.{◌≡◌, drop, flat_map, fold}
use Rattle.hierarchy.specs.Failures.{earlier}
use Rattle.target_rules.specs.Judged.{bad_stmt}
use Rattle.target_rules.proofs.statements.+stmts.Given as goal

-- What is found so far, and then in those that are left, is what is found in all.
abbrev pub invariant-note_stmts-loop-stmt : goal.invariant-note_stmts-loop-stmt
invariant-note_stmts-loop-stmt l = record {
  same : fold earlier l.found (flat_map (bad_stmt l.nets) (drop l.stmt-index l.body)) ≡ fold earlier l.initial.found (flat_map (bad_stmt l.nets) l.body);
}
