use Rattle.std.proofs.Common.{ap, length}
use Rattle.levelise.specs.Machine.{Level}
use Rattle.levelise.proofs.EvaluationLemmas.{shown_placed, shown_values}
use Rattle.levelise.proofs.levelled.Levelled.evaluate.Goals as goal

pub set_values-requires : goal.set_values-requires
set_values-requires c =
    shown_placed c.args.self.now.net c.self.inside.net (ap (λ (level : Level). level.net) c.self.view_is) c.self.invariant.0
    c.self.inside.row
    c.as_slice.result.now c.as_slice.ensures c.self.invariant.1 c.args.state.now c.args.row.now c.requires.state c.requires.row
    (length c.args.work.now) c.requires.work

pub returns-clause-values : goal.returns-clause-values
returns-clause-values c =
    shown_values c.args.self.now.net c.self.inside.net (ap (λ (level : Level). level.net) c.self.view_is) c.self.invariant.0
    c.self.inside.row
    c.as_slice.result.now c.as_slice.ensures c.self.invariant.1 c.args.state.now c.args.row.now c.requires.state c.requires.row
    c.args.work.now c.set_values.new.work c.requires.work c.set_values.ensures
