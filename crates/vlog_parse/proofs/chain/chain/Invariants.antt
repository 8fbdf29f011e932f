use Rattle.std.proofs.Common.{◌≤◌, length}
use Rattle.vlog_tokens.specs.Toks.{Tok}
use Rattle.vlog_tree.specs.declared.expr.Expr.{Expr}
use Rattle.vlog_parse.specs.Chains.{operation, sees_binary}
use Rattle.vlog_parse.specs.Reads.{Parser, loop}
use Rattle.vlog_parse.specs.Rules.{IsRule}
use Rattle.vlog_parse.proofs.Loops.{GoesOn}
use Rattle.vlog_parse.proofs.chain.chain.Given as goal

abbrev pub invariant-loop-alloc : goal.invariant-loop-alloc
invariant-loop-alloc g l = (length {A = Tok} l.cursor ≤ length {A = Tok} l.initial.cursor) × ((rule : Parser Expr) → IsRule rule (goal.F-post g l.operand)
    → GoesOn (sees_binary l.level) (operation l.level rule) (loop (sees_binary l.level) (operation l.level rule) l.initial.whole l.initial.cursor) l.whole l.cursor)

abbrev pub decreases-loop-alloc : goal.decreases-loop-alloc
decreases-loop-alloc g l = length {A = Tok} l.cursor
