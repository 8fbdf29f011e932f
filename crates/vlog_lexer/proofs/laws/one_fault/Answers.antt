use Rattle.vlog_lexer.proofs.UniqueLemmas.{one_place}
use Rattle.vlog_lexer.proofs.laws.one_fault.Goals as goal

pub returns : goal.returns
returns c = one_place
