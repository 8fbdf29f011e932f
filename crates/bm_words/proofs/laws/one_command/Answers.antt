use Rattle.bm_words.proofs.CommandLemmas.{one_command as proof}
use Rattle.bm_words.proofs.laws.one_command.Goals as goal

pub returns : goal.returns
returns c = proof
