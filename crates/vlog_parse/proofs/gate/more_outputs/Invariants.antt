use Rattle.std.proofs.Common.{◌≤◌, length}
use Rattle.vlog_tokens.specs.Toks.{Tok}
use Rattle.vlog_parse.specs.Gates.{is_output, output}
use Rattle.vlog_parse.specs.Reads.{loop, one_more}
use Rattle.vlog_parse.proofs.Loops.{GoesOn}
use Rattle.vlog_parse.proofs.gate.more_outputs.Given as goal

abbrev pub invariant-loop-next : goal.invariant-loop-next
invariant-loop-next l = (length {A = Tok} l.cursor ≤ length {A = Tok} l.initial.cursor)
    × GoesOn (is_output l.depth) (one_more (output l.depth)) (loop (is_output l.depth) (one_more (output l.depth)) l.initial.found l.initial.cursor) l.found l.cursor

abbrev pub decreases-loop-next : goal.decreases-loop-next
decreases-loop-next l = length {A = Tok} l.cursor
