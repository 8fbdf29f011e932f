use Rattle.std.proofs.Common.{◌≡◌, drop, flat_map, fold, map}
use Rattle.hierarchy.specs.Failures.{earlier}
use Rattle.vlog_tree.specs.Meaning.Uses.{joined}
use Rattle.clock_rules.specs.Clocks.{bad_read, stmt_reads}
use Rattle.clock_rules.proofs.reads.+stmts.Given as goal

-- What is found so far, and then in those that are left, is what is found in all.
abbrev pub invariant-note_stmts-loop-stmt : goal.invariant-note_stmts-loop-stmt
invariant-note_stmts-loop-stmt l = record {
  same : fold earlier l.found (flat_map (bad_read l.names l.nets) (joined (map stmt_reads (drop l.stmt-index l.body)))) ≡ fold earlier l.initial.found (flat_map (bad_read l.names l.nets) (joined (map stmt_reads l.body)));
}
