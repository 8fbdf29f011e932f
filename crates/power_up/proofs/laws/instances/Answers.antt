use Rattle.power_up.proofs.InstanceLemmas.{power_up_is}
use Rattle.power_up.proofs.laws.instances.Goals as goal

pub returns : goal.returns
returns c = power_up_is
