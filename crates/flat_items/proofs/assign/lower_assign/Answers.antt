use Rattle.std.proofs.Common.{ap, reverse, subst, ◌∙◌}
use Rattle.drives.specs.Given.{given_all}
use Rattle.std.specs.List.{zip}
use Rattle.flat_design.specs.Items.{assign_given}
use Rattle.flat_items.specs.Carried.{GivesTo}
use Rattle.flat_items.proofs.AssignLemmas.{assign_fails, assign_gives}
use Rattle.flat_items.proofs.CarryLemmas.{passed_on}
use Rattle.frames.specs.Framed.{wires_of}
use Rattle.lowering.specs.Expressions.{assigned}
use Rattle.lowering.specs.Limits.{Excuses, next_of, with_more}
use Rattle.lowering.specs.Lowered.{after}
use Rattle.flat_items.proofs.assign.lower_assign.Goals as goal

pub returns-in_err-edges-clause-fault : goal.returns-in_err-edges-clause-fault
returns-in_err-edges-clause-fault c =
    let frame = c.args.frame.now in
    let left = c.args.left.now in
    let right = c.args.right.now in
    let start = c.args.nodes.now in
    let fault = c.in_err-edges.field-0.0 in
    passed_on (GivesTo frame (λ setting instance. assign_given setting instance left right) start) c.from_residual-in_err-edges.result fault
    c.from_residual-in_err-edges.ensures.1
    (assign_fails frame left right start c.in_ok-numbers.numbers c.in_ok-numbers.ensures fault
    (subst (λ count. Excuses (after (next_of start) (assigned frame.placing.definition (wires_of frame) count right (next_of start))) fault)
    c.len.ensures c.in_err-edges.ensures.fault))

pub returns-clause-given : goal.returns-clause-given
returns-clause-given c =
    let frame = c.args.frame.now in
    let left = c.args.left.now in
    let right = c.args.right.now in
    let start = c.args.nodes.now in
    let next = next_of start in
    assign_gives frame left right start c.in_ok-numbers.numbers c.in_ok-numbers.ensures c.lower_assigned.new.nodes c.args.driven.now
    c.give_down.new.self c.in_ok-edges.edges
    (c.in_ok-edges.ensures.nodes ∙ ap (λ count. with_more start (assigned frame.placing.definition (wires_of frame) count right next)) c.len.ensures)
    (c.in_ok-edges.ensures.edges ∙ ap (λ count. (assigned frame.placing.definition (wires_of frame) count right next).edges) c.len.ensures)
    (c.give_down.ensures ∙ (λ j. given_all c.args.driven.now (zip (reverse (c.as_slice.ensures j)) (c.as_slice-2.ensures j))))
