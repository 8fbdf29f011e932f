use Rattle.std.proofs.Common.{◌-◌, length}
use Rattle.vlog_tokens.specs.Toks.{toks}
use Rattle.vlog_lexer.proofs.PieceLemmas.{Stands}
use Rattle.vlog_lexer.proofs.lexer.lex.Given as goal

abbrev pub invariant-loop-at : goal.invariant-loop-at
invariant-loop-at l = Stands l.src l.at (toks l.kept.list.items) l.kept.opened

abbrev pub decreases-loop-at : goal.decreases-loop-at
decreases-loop-at l = length l.src - l.at
