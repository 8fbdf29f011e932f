use Rattle.flat_design.proofs.NetLemmas.{flat_is_net}
use Rattle.flat_design.proofs.laws.is_net.Goals as goal

pub returns : goal.returns
returns c = flat_is_net
