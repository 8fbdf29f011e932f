use Rattle.driver_rules.proofs.SelectLemmas.{none_numbered}
use Rattle.driver_rules.proofs.groups.groups_of.Goals as goal

pub returns-clause-numbered : goal.returns-clause-numbered
returns-clause-numbered c = c.in_ok-add_item.ensures.numbered (none_numbered c.args.nets.now c.new-groups.result c.new-groups.ensures)
