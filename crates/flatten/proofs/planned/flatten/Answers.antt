use Rattle.std.proofs.lemmas.Result.{IfErr-weaker, IfOk-weaker, on_ok_weaker}
use Rattle.flatten.proofs.PlanLemmas.{no_refusal, planned_flat, planned_next, planned_ready, planned_refused, planned_values, planned_within, unrefused}
use Rattle.flatten.proofs.planned.flatten.Goals as goal

pub flat_of_modules-requires : goal.flat_of_modules-requires
flat_of_modules-requires c =
    planned_ready c.args.design.now c.args.plan.now c.in-Ok.hierarchy c.in-Ok.ensures.of_design c.ready.ensures
    (c.grammar_gives.ensures c.requires.spelled.0 c.args.design.now c.requires.spelled.1)
    c.requires.planned.0 c.requires.planned.1

pub memory_of-requires : goal.memory_of-requires
memory_of-requires c =
    unrefused _ c.in-Err.fault c.in-Err.ensures.refused
    (no_refusal c.requires.planned.0 c.args.design.now c.args.plan.now c.requires.planned.1)

pub returns-in-Ok-clause-flat : goal.returns-in-Ok-clause-flat
returns-in-Ok-clause-flat c =
    IfOk-weaker _ _ _ (planned_flat c.args.design.now c.args.plan.now c.in-Ok.hierarchy c.in-Ok.ensures.of_design)
    c.flat_of_modules.ensures.flat

pub returns-in-Ok-clause-within : goal.returns-in-Ok-clause-within
returns-in-Ok-clause-within c =
    on_ok_weaker c.flat_of_modules.result (planned_within c.args.design.now c.args.plan.now c.in-Ok.hierarchy c.in-Ok.ensures.of_design)
    c.flat_of_modules.ensures.within

pub returns-in-Ok-clause-values : goal.returns-in-Ok-clause-values
returns-in-Ok-clause-values c =
    IfOk-weaker _ _ _
    (planned_values c.args.design.now c.args.plan.now c.in-Ok.hierarchy c.in-Ok.ensures.of_design c.ready.ensures c.values.ensures
    (c.grammar_gives.ensures c.requires.spelled.0 c.args.design.now c.requires.spelled.1))
    c.flat_of_modules.ensures.flat

pub returns-in-Ok-clause-next : goal.returns-in-Ok-clause-next
returns-in-Ok-clause-next c =
    IfOk-weaker _ _ _
    (planned_next c.args.design.now c.args.plan.now c.in-Ok.hierarchy c.in-Ok.ensures.of_design c.ready.ensures c.next.ensures
    (c.grammar_gives.ensures c.requires.spelled.0 c.args.design.now c.requires.spelled.1))
    c.flat_of_modules.ensures.flat

pub returns-in-Ok-clause-refused : goal.returns-in-Ok-clause-refused
returns-in-Ok-clause-refused c =
    IfErr-weaker _ _ _ (planned_refused c.args.design.now c.args.plan.now c.in-Ok.hierarchy c.in-Ok.ensures.of_design)
    c.flat_of_modules.ensures.refused
