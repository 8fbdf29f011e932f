use Rattle.vlog_lexer.proofs.UniqueLemmas.{list_or_fault}
use Rattle.vlog_lexer.proofs.laws.tokens_or_fault.Goals as goal

pub returns : goal.returns
returns c = list_or_fault
