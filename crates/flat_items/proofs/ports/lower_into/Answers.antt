use Rattle.std.proofs.Common.{ap, sym, true, ◌∙◌}
use Rattle.flat_items.specs.Linked.{Links, LinksTo, connection, into_given}
use Rattle.flat_items.proofs.CarryLemmas.{on_err, on_ok}
use Rattle.flat_items.proofs.PortLemmas.{into_fails, into_is}
use Rattle.vlog_tree.specs.Meaning.Names.{is_input}
use Rattle.flat_items.proofs.ports.lower_into.Goals as goal

pub returns-then-is_input-clause-given : goal.returns-then-is_input-clause-given
returns-then-is_input-clause-given c =
    let port = c.args.port.now in
    let test =
    sym (c.is_input.ensures ∙ ap (λ m. is_input m port) c.nets.ensures ∙ ap (λ it. is_input it.definition port) c.places.ensures)
    ∙ c.if-is_input.true in
    on_ok _ (Links c.args.frame.now c.args.inner.now (into_given (connection port c.args.expr.now)) c.args.nodes.now c.lower_input.new.nodes
    c.args.driven.now c.lower_input.new.driven) c.lower_input.result c.lower_input.ensures.given
    (into_is c.args.frame.now c.args.inner.now port c.args.expr.now true test c.args.nodes.now c.lower_input.new.nodes
    c.args.driven.now c.lower_input.new.driven)

pub returns-then-is_input-clause-fault : goal.returns-then-is_input-clause-fault
returns-then-is_input-clause-fault c =
    let port = c.args.port.now in
    let test =
    sym (c.is_input.ensures ∙ ap (λ m. is_input m port) c.nets.ensures ∙ ap (λ it. is_input it.definition port) c.places.ensures)
    ∙ c.if-is_input.true in
    on_err _ (LinksTo c.args.frame.now c.args.inner.now (into_given (connection port c.args.expr.now)) c.args.nodes.now)
    c.lower_input.result c.lower_input.ensures.fault
    (into_fails c.args.frame.now c.args.inner.now port c.args.expr.now true test c.args.nodes.now)
