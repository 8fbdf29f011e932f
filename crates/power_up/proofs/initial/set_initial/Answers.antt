use Rattle.power_up.proofs.ValueLemmas.{initial_changes}
use Rattle.power_up.proofs.initial.set_initial.Goals as goal

pub returns-in-Initial-clause-values : goal.returns-in-Initial-clause-values
returns-in-Initial-clause-values c =
    initial_changes c.args.places.now.definition c.args.first c.args.item.now c.in-Initial.at c.in-Initial.name
    c.bytes.result.now c.in-Initial.value
    c.args.bits.now c.set_value.new.bits c.in-Initial.is c.bytes.ensures c.set_value.ensures.values
