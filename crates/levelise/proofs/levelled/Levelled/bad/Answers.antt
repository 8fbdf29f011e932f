use Rattle.levelise.proofs.EvaluationLemmas.{bad_is}
use Rattle.levelise.proofs.levelled.Levelled.bad.Goals as goal

pub returns-clause-bad : goal.returns-clause-bad
returns-clause-bad c =
    bad_is c.args.self.now.net c.args.state.now c.args.row.now c.evaluate.new.work c.evaluate.ensures.values c.evaluate.ensures.net
    c.is_bad.result c.is_bad.ensures
