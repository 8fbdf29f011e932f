use Rattle.rule_laws.proofs.ResetLemmas.{rules_give_reset}
use Rattle.rule_laws.proofs.laws.reset.Goals as goal

pub returns : goal.returns
returns c = rules_give_reset
