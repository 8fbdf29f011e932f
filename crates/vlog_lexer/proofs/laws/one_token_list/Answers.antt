use Rattle.vlog_lexer.proofs.UniqueLemmas.{one_list}
use Rattle.vlog_lexer.proofs.laws.one_token_list.Goals as goal

pub returns : goal.returns
returns c = one_list
