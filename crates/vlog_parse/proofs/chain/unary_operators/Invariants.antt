use Rattle.std.proofs.Common.{◌≤◌, length}
use Rattle.vlog_tokens.specs.Toks.{Tok}
use Rattle.vlog_parse.specs.Chains.{one_unary, sees_unary, unary_operators}
use Rattle.vlog_parse.specs.Reads.{one_more}
use Rattle.vlog_parse.proofs.Loops.{GoesOn}
use Rattle.vlog_parse.proofs.chain.unary_operators.Given as goal

abbrev pub invariant-loop-cursor : goal.invariant-loop-cursor
invariant-loop-cursor l = (length {A = Tok} l.cursor ≤ length {A = Tok} l.initial.cursor) × GoesOn sees_unary (one_more one_unary) (unary_operators l.initial.cursor) l.found l.cursor

abbrev pub decreases-loop-cursor : goal.decreases-loop-cursor
decreases-loop-cursor l = length {A = Tok} l.cursor
