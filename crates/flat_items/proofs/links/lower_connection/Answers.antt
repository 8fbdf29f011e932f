use Rattle.flat_design.specs.Items.{connection_given}
use Rattle.flat_items.specs.Linked.{Links, connection}
use Rattle.flat_items.proofs.CarryLemmas.{on_ok}
use Rattle.flat_items.proofs.PortLemmas.{connection_carried}
use Rattle.flat_items.proofs.links.lower_connection.Goals as goal

pub returns-clause-given : goal.returns-clause-given
returns-clause-given c =
    let port = c.args.port.now in
    let e = c.args.expr.now in
    on_ok _ (Links c.args.frame.now c.args.inner.now (λ setting instance child. connection_given setting instance child (connection port e))
    c.args.nodes.now c.lower_into.new.nodes c.args.driven.now c.give_back.new.driven) c.give_back.result c.give_back.ensures.given
    (connection_carried c.args.frame.now c.args.inner.now port e c.args.nodes.now c.lower_into.new.nodes c.args.driven.now
    c.lower_into.new.driven c.give_back.new.driven c.in_ok-lower_into.ensures.given)
