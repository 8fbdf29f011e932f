use Rattle.netlists.proofs.PlannedLemmas.{has_reset, is_made}
use Rattle.netlists.proofs.planned.netlist_of.Goals as goal

pub levelise-requires : goal.levelise-requires
levelise-requires c =
    has_reset c.args.design.now c.args.plan c.requires.planned.0 c.requires.planned.1 c.in_ok-net.net
    (c.in_ok-net.ensures.flat c.requires.planned.0 c.requires.planned.1)

pub returns-in-Ok-clause-made : goal.returns-in-Ok-clause-made
returns-in-Ok-clause-made c = λ setting planned.
    is_made c.args.design.now c.args.plan setting planned c.in_ok-net.net c.in-Ok.level
    (c.in_ok-net.ensures.flat setting planned) (c.in_ok-net.ensures.within setting planned) c.in-Ok.ensures.level c.in-Ok.ensures.none
