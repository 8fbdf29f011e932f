use Rattle.std.proofs.Common.{ap, subst}
use Rattle.flat_net.specs.Nets.{IsNet}
use Rattle.levelise.specs.Machine.{Level}
use Rattle.levelise.proofs.CountLemmas.{states_counted}
use Rattle.levelise.proofs.levelled.Levelled.registers.Goals as goal

pub returns-clause-states : goal.returns-clause-states
returns-clause-states c =
    states_counted c.args.self.now (subst IsNet (ap (λ (level : Level). level.net) c.self.view_is) c.self.invariant.0)
