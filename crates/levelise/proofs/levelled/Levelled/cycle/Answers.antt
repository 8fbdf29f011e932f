use Rattle.std.proofs.Common.{◌∙◌}
use Rattle.levelise.proofs.EvaluationLemmas.{bad_is, next_counted, next_is}
use Rattle.levelise.proofs.levelled.Levelled.cycle.Goals as goal

pub returns-clause-next : goal.returns-clause-next
returns-clause-next c =
    c.move_on.ensures
    ∙ next_is c.args.self.now.net c.args.state.now c.args.row.now c.evaluate.new.work c.evaluate.ensures.values c.evaluate.ensures.net

pub returns-clause-bad : goal.returns-clause-bad
returns-clause-bad c =
    bad_is c.args.self.now.net c.args.state.now c.args.row.now c.evaluate.new.work c.evaluate.ensures.values c.evaluate.ensures.net
    c.is_bad.result c.is_bad.ensures

pub returns-clause-count : goal.returns-clause-count
returns-clause-count c = next_counted c.args.self.now.net c.evaluate.ensures.net _ c.move_on.new.next c.move_on.ensures
