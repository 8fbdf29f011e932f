use Rattle.std.proofs.Common.{ap, subst, ◌∙◌}
use Rattle.std.specs.List.{zip}
use Rattle.drives.specs.Given.{given_all}
use Rattle.flat_design.specs.Items.{input_given}
use Rattle.flat_items.specs.Linked.{LinksTo, connection}
use Rattle.flat_items.proofs.CarryLemmas.{passed_on}
use Rattle.flat_items.proofs.PortLemmas.{input_fails, input_gives}
use Rattle.frames.specs.Framed.{wires_of}
use Rattle.lowering.specs.Expressions.{assigned}
use Rattle.lowering.specs.Limits.{Excuses, next_of, with_more}
use Rattle.lowering.specs.Lowered.{after}
use Rattle.flat_items.proofs.ports.lower_input.Goals as goal

pub returns-in_err-edges-clause-fault : goal.returns-in_err-edges-clause-fault
returns-in_err-edges-clause-fault c =
    let frame = c.args.frame.now in
    let inner = c.args.inner.now in
    let port = c.args.port.now in
    let e = c.args.expr.now in
    let start = c.args.nodes.now in
    let fault = c.in_err-edges.field-0.0 in
    passed_on (LinksTo frame inner (λ setting instance child. input_given setting instance child (connection port e)) start)
    c.from_residual-in_err-edges.result fault c.from_residual-in_err-edges.ensures.1
    (input_fails frame inner port e start c.in_ok-numbers.numbers c.in_ok-numbers.ensures fault
    (subst (λ count. Excuses (after (next_of start) (assigned frame.placing.definition (wires_of frame) count e (next_of start))) fault)
    c.len.ensures c.in_err-edges.ensures.fault))

pub returns-clause-given : goal.returns-clause-given
returns-clause-given c =
    let frame = c.args.frame.now in
    let e = c.args.expr.now in
    let start = c.args.nodes.now in
    let next = next_of start in
    input_gives frame c.args.inner.now c.args.port.now e start c.in_ok-numbers.numbers c.in_ok-numbers.ensures c.lower_assigned.new.nodes
    c.args.driven.now c.give.new.self c.in_ok-edges.edges
    (c.in_ok-edges.ensures.nodes ∙ ap (λ count. with_more start (assigned frame.placing.definition (wires_of frame) count e next)) c.len.ensures)
    (c.in_ok-edges.ensures.edges ∙ ap (λ count. (assigned frame.placing.definition (wires_of frame) count e next).edges) c.len.ensures)
    (c.give.ensures ∙ (λ j. given_all c.args.driven.now (zip (c.as_slice.ensures j) (c.as_slice-2.ensures j))))
