use Rattle.std.proofs.Common.{ap, reverse, ◌∙◌}
use Rattle.std.specs.List.{zip}
use Rattle.drives.specs.Given.{given_all}
use Rattle.flat_items.specs.Parts.{name_edges}
use Rattle.flat_items.proofs.PortLemmas.{output_gives}
use Rattle.frames.specs.Framed.{wires_of}
use Rattle.lowering.specs.Lowered.{extended}
use Rattle.flat_items.proofs.ports.give_output.Goals as goal

pub returns-clause-given : goal.returns-clause-given
returns-clause-given c =
    let frame = c.args.frame.now in
    let inner = c.args.inner.now in
    output_gives frame inner c.args.port.now c.args.expr.now c.in_ok-numbers.numbers c.args.driven.now c.give_down.new.self c.in_ok-edges.edges
    c.in_ok-numbers.ensures
    (c.in_ok-edges.ensures.edges
    ∙ ap (λ count. extended count (name_edges inner.placing.definition (wires_of inner) c.args.port.now)) c.len.ensures)
    (c.give_down.ensures ∙ (λ j. given_all c.args.driven.now (zip (reverse (c.as_slice.ensures j)) (c.as_slice-2.ensures j))))
