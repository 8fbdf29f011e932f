use Rattle.std.proofs.lemmas.Result.{IfOk-weaker}
use Rattle.flatten.proofs.PlanLemmas.{planned_ready}
use Rattle.keys.proofs.PlannedLemmas.{planned_few, planned_key}
use Rattle.keys.proofs.planned.key_of.Goals as goal

pub key_of_modules-requires-clause-ready : goal.key_of_modules-requires-clause-ready
key_of_modules-requires-clause-ready c =
    planned_ready c.args.design.now c.args.plan.now c.in-Ok.hierarchy c.in-Ok.ensures.of_design c.ready.ensures
    (c.grammar_gives.ensures c.requires.spelled.0 c.args.design.now c.requires.spelled.1)
    c.requires.planned.0 c.requires.planned.1

pub key_of_modules-requires-clause-within : goal.key_of_modules-requires-clause-within
key_of_modules-requires-clause-within c =
    planned_few c.args.design.now c.args.plan.now c.in-Ok.hierarchy c.in-Ok.ensures.of_design c.requires.within
    c.requires.planned.0 c.requires.planned.1

pub returns-in-Ok : goal.returns-in-Ok
returns-in-Ok c =
    IfOk-weaker _ _ _ (planned_key c.args.design.now c.args.plan.now c.in-Ok.hierarchy c.in-Ok.ensures.of_design c.args.node)
    c.key_of_modules.ensures
