use Rattle.rule_laws.proofs.Law.{rules_give_names}
use Rattle.rule_laws.proofs.laws.names.Goals as goal

pub returns : goal.returns
returns c = rules_give_names
