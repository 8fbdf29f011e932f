use Rattle.std.proofs.Common.{◌≡◌, drop, fold, map}
use Rattle.hierarchy.specs.Failures.{earlier}
use Rattle.width_rules.specs.Capped.{joined}
use Rattle.width_rules.specs.Widths.{in_stmt}
use Rattle.width_rules.proofs.widths.+stmts.Given as goal

-- What is found so far, and then in those that are left, is what is found in all.
abbrev pub invariant-note_in_stmts-loop-stmt : goal.invariant-note_in_stmts-loop-stmt
invariant-note_in_stmts-loop-stmt l = record {
  same : fold earlier l.found (joined (map (in_stmt l.nets) (drop l.stmt-index l.body))) ≡ fold earlier l.initial.found (joined (map (in_stmt l.nets) l.body));
}
