use Rattle.std.proofs.Common.{◌≤◌, length, codes}
use Rattle.vlog_tokens.specs.Toks.{Tok}
use Rattle.vlog_parse.specs.Modules.{add_port_after_comma}
use Rattle.vlog_parse.specs.Reads.{loop, sees}
use Rattle.vlog_parse.proofs.Loops.{GoesOn}
use Rattle.vlog_parse.proofs.port.port_list.Given as goal

abbrev pub invariant-loop-alloc : goal.invariant-loop-alloc
invariant-loop-alloc l = (length {A = Tok} l.cursor ≤ length {A = Tok} l.initial.cursor)
    × GoesOn (sees (codes ",")) add_port_after_comma (loop (sees (codes ",")) add_port_after_comma l.initial.ports l.initial.cursor) l.ports l.cursor

abbrev pub decreases-loop-alloc : goal.decreases-loop-alloc
decreases-loop-alloc l = length {A = Tok} l.cursor
