use Rattle.std.proofs.Common.{◌≤◌, length, codes}
use Rattle.vlog_tokens.specs.Toks.{Tok}
use Rattle.vlog_parse.specs.Gates.{ordered_link}
use Rattle.vlog_parse.specs.Reads.{loop, one_more_after_comma, sees}
use Rattle.vlog_parse.proofs.Loops.{GoesOn}
use Rattle.vlog_parse.proofs.instance.more_links.Given as goal

abbrev pub invariant-loop-alloc : goal.invariant-loop-alloc
invariant-loop-alloc l = (length {A = Tok} l.cursor ≤ length {A = Tok} l.initial.cursor)
    × GoesOn (sees (codes ",")) (one_more_after_comma (ordered_link l.depth)) (loop (sees (codes ",")) (one_more_after_comma (ordered_link l.depth)) l.initial.found l.initial.cursor) l.found l.cursor

abbrev pub decreases-loop-alloc : goal.decreases-loop-alloc
decreases-loop-alloc l = length {A = Tok} l.cursor
