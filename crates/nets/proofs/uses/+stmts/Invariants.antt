use Rattle.std.proofs.Common.{◌≡◌, ◌++◌, drop, map}
use Rattle.vlog_tree.specs.Meaning.Uses.{joined, stmt_uses}
use Rattle.nets.specs.Used.{shown}
use Rattle.nets.proofs.uses.+stmts.Given as goal

abbrev pub invariant-add_stmts-loop-stmt : goal.invariant-add_stmts-loop-stmt
invariant-add_stmts-loop-stmt l = record {
  same : shown l.uses ++ joined (map stmt_uses (drop l.stmt-index l.body)) ≡ shown l.initial.uses ++ joined (map stmt_uses l.body);
}
