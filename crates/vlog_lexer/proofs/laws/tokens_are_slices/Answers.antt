use Rattle.vlog_lexer.proofs.OrderLemmas.{in_order}
use Rattle.vlog_lexer.proofs.laws.tokens_are_slices.Goals as goal

pub returns : goal.returns
returns c = in_order
