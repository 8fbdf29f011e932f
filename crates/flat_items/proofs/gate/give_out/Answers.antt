use Rattle.std.proofs.Common.{ap, reverse, ◌∙◌}
use Rattle.drives.specs.Given.{given_all}
use Rattle.flat_items.specs.Framing.{number_by}
use Rattle.flat_items.specs.declared.side.Side.TheVariants.{Inside}
use Rattle.flat_items.proofs.AssignLemmas.{reversed_down}
use Rattle.flat_items.proofs.GateLemmas.{with_edge}
use Rattle.vlog_tree.specs.Meaning.Lefts.{left_bits}
use Rattle.flat_items.proofs.gate.give_out.Goals as goal

pub returns-clause-given : goal.returns-clause-given
returns-clause-given c =
    let frame = c.args.frame.now in
    let reversed =
    ap reverse (c.as_slice.ensures ∙ c.in_ok-numbers.ensures)
    ∙ reversed_down (number_by Inside frame) (left_bits frame.placing.definition c.args.out.now) in
    c.give_same.ensures ∙ ap (λ numbers. given_all c.args.driven.now (with_edge c.args.edge numbers)) reversed
