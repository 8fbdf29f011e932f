use Rattle.std.proofs.Common.{ap, sym, true, ◌∙◌}
use Rattle.flat_items.specs.Linked.{GivesBack, back_given, connection}
use Rattle.flat_items.proofs.CarryLemmas.{on_ok}
use Rattle.flat_items.proofs.PortLemmas.{back_is}
use Rattle.vlog_tree.specs.Meaning.Names.{is_output}
use Rattle.flat_items.proofs.ports.give_back.Goals as goal

pub returns-then-is_output-clause-given : goal.returns-then-is_output-clause-given
returns-then-is_output-clause-given c =
    let port = c.args.port.now in
    let test =
    sym (c.is_output.ensures ∙ ap (λ m. is_output m port) c.nets.ensures ∙ ap (λ it. is_output it.definition port) c.places.ensures)
    ∙ c.if-is_output.true in
    on_ok _ (GivesBack c.args.frame.now c.args.inner.now (back_given (connection port c.args.expr.now)) c.args.driven.now c.give_output.new.driven)
    c.give_output.result c.give_output.ensures.given
    (back_is c.args.frame.now c.args.inner.now port c.args.expr.now true test c.args.driven.now c.give_output.new.driven)
