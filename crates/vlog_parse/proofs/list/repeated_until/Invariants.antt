use Rattle.std.proofs.Common.{◌≤◌, length, not}
use Rattle.vlog_tokens.specs.Toks.{Tok}
use Rattle.vlog_parse.specs.Reads.{Parser, loop, one_more, sees}
use Rattle.vlog_parse.specs.Rules.{IsRule}
use Rattle.vlog_parse.proofs.Loops.{GoesOn}
use Rattle.vlog_parse.proofs.list.repeated_until.Given as goal

abbrev pub invariant-loop-cursor : goal.invariant-loop-cursor
invariant-loop-cursor g l = (length {A = Tok} l.cursor ≤ length {A = Tok} l.initial.cursor) × ((rule : Parser g.row.T.Denot) → IsRule rule (goal.F-post g l.item)
    → GoesOn (λ ts. not (sees l.stop ts)) (one_more rule) (loop (λ ts. not (sees l.stop ts)) (one_more rule) l.initial.found l.initial.cursor) l.found l.cursor)

abbrev pub decreases-loop-cursor : goal.decreases-loop-cursor
decreases-loop-cursor g l = length {A = Tok} l.cursor
