use Rattle.rule_laws.proofs.Law.{rules_give_ready}
use Rattle.rule_laws.proofs.laws.ready.Goals as goal

pub returns : goal.returns
returns c = rules_give_ready
