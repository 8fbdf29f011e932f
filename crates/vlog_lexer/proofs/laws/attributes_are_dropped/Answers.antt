use Rattle.vlog_lexer.proofs.AttributeLemmas.{drops, keeps}
use Rattle.vlog_lexer.proofs.laws.attributes_are_dropped.Goals as goal

pub returns : goal.returns
returns c = record { drops = drops; keeps = keeps }
