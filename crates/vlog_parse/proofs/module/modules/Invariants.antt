use Rattle.std.proofs.Common.{length, not}
use Rattle.vlog_tokens.specs.Toks.{Tok}
use Rattle.vlog_parse.specs.Modules.{module_rule}
use Rattle.vlog_parse.specs.Reads.{is_end, loop, one_more}
use Rattle.vlog_parse.proofs.Loops.{GoesOn}
use Rattle.vlog_parse.proofs.module.modules.Given as goal

abbrev pub invariant-loop-alloc : goal.invariant-loop-alloc
invariant-loop-alloc l = GoesOn (λ ts. not (is_end ts)) (one_more (module_rule l.depth)) (loop (λ ts. not (is_end ts)) (one_more (module_rule l.depth)) l.initial.found l.initial.cursor) l.found l.cursor

abbrev pub decreases-loop-alloc : goal.decreases-loop-alloc
decreases-loop-alloc l = length {A = Tok} l.cursor
