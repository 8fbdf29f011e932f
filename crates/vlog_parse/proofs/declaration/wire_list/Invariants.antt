use Rattle.std.proofs.Common.{◌≤◌, length, codes}
use Rattle.vlog_tokens.specs.Toks.{Tok}
use Rattle.vlog_tree.specs.Spelling.Declarations as spelling
use Rattle.vlog_parse.specs.Declarations as spec
use Rattle.vlog_parse.specs.Gathers.{add_after_comma}
use Rattle.vlog_parse.specs.Reads.{loop, sees}
use Rattle.vlog_parse.proofs.Loops.{GoesOn}
use Rattle.vlog_parse.proofs.declaration.wire_list.Given as goal

abbrev pub invariant-loop-alloc : goal.invariant-loop-alloc
invariant-loop-alloc l = (length {A = Tok} l.cursor ≤ length {A = Tok} l.initial.cursor)
    × GoesOn (sees (codes ",")) (add_after_comma (spelling.wire_items l.shape) (spec.wire l.depth)) (loop (sees (codes ",")) (add_after_comma (spelling.wire_items l.shape) (spec.wire l.depth)) l.initial.items l.initial.cursor) l.items l.cursor

abbrev pub decreases-loop-alloc : goal.decreases-loop-alloc
decreases-loop-alloc l = length {A = Tok} l.cursor
