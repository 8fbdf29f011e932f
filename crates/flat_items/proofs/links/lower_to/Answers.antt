use Rattle.flat_items.specs.Linked.{Links, LinksTo, to_given}
use Rattle.flat_items.proofs.CarryLemmas.{on_err, on_ok}
use Rattle.flat_items.proofs.LinkLemmas.{some_fails, some_to}
use Rattle.flat_items.proofs.links.lower_to.Goals as goal

pub returns-in-Some-clause-given : goal.returns-in-Some-clause-given
returns-in-Some-clause-given c =
    on_ok _ (Links c.args.frame.now c.args.inner.now (to_given c.args.port.now c.args.expr.now) c.args.nodes.now c.lower_connection.new.nodes
    c.args.driven.now c.lower_connection.new.driven) c.lower_connection.result c.lower_connection.ensures.given
    (some_to c.args.frame.now c.args.inner.now c.args.port.now c.args.expr.now c.in-Some.expr c.in-Some.is c.args.nodes.now
    c.lower_connection.new.nodes c.args.driven.now c.lower_connection.new.driven)

pub returns-in-Some-clause-fault : goal.returns-in-Some-clause-fault
returns-in-Some-clause-fault c =
    on_err _ (LinksTo c.args.frame.now c.args.inner.now (to_given c.args.port.now c.args.expr.now) c.args.nodes.now)
    c.lower_connection.result c.lower_connection.ensures.fault
    (some_fails c.args.frame.now c.args.inner.now c.args.port.now c.args.expr.now c.in-Some.expr c.in-Some.is c.args.nodes.now)
