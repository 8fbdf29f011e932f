use Rattle.std.proofs.Common.{◌≤◌, length, codes, not}
use Rattle.vlog_tokens.specs.Toks.{Tok}
use Rattle.vlog_parse.specs.Gathers.{add}
use Rattle.vlog_parse.specs.Items as rule
use Rattle.vlog_parse.specs.Reads.{loop, sees}
use Rattle.vlog_parse.proofs.Loops.{GoesOn}
use Rattle.vlog_parse.proofs.module.body.Given as goal

abbrev pub invariant-loop-alloc : goal.invariant-loop-alloc
invariant-loop-alloc l = (length {A = Tok} l.cursor ≤ length {A = Tok} l.initial.cursor)
    × GoesOn (λ ts. not (sees (codes "endmodule") ts)) (add (λ group. group) (rule.item l.depth)) (loop (λ ts. not (sees (codes "endmodule") ts)) (add (λ group. group) (rule.item l.depth)) l.initial.items l.initial.cursor) l.items l.cursor

abbrev pub decreases-loop-alloc : goal.decreases-loop-alloc
decreases-loop-alloc l = length {A = Tok} l.cursor
