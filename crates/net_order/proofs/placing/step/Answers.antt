use Rattle.std.proofs.Common.{subst}
use Rattle.net_order.specs.Marks.{Marked}
use Rattle.net_order.proofs.WalkLemmas.{last_inside, top_inside, went_back}
use Rattle.net_order.proofs.placing.step.Goals as goal

pub pending-requires-clause-within : goal.pending-requires-clause-within
pending-requires-clause-within c = last_inside c.args.net.now.nodes c.args.walk.now c.args.last c.requires

pub finish-requires : goal.finish-requires
finish-requires c = top_inside c.args.net.now.nodes c.args.walk.now c.args.last c.requires
    (λ next reads. subst (λ done. Marked done next) c.done.ensures (c.in-None.ensures next reads))

pub returns-in_ok-finish-in-None-clause-walk : goal.returns-in_ok-finish-in-None-clause-walk
returns-in_ok-finish-in-None-clause-walk c =
    (went_back c.args.net.now.nodes c.args.walk.now c.args.last c.requires
    (λ next reads. subst (λ done. Marked done next) c.done.ensures (c.in-None.ensures next reads)) c.finish.new.self
    c.in_ok-finish-in-None.ensures).walk
