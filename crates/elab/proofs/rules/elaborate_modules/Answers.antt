use Rattle.std.proofs.Common.{subst, ◌++◌}
use Rattle.std.specs.Result.{IfErr}
use Rattle.hierarchy.specs.Indexed.{Topped}
use Rattle.elab.specs.Refusals.{Refuses, inner_rules, port_rules}
use Rattle.elab.specs.Settings.{setting_of}
use Rattle.elab.proofs.rules.elaborate_modules.Goals as goal

pub returns-clause-refused : goal.returns-clause-refused
returns-clause-refused c =
    subst (λ (topped : Topped). IfErr c.plan_of.result (Refuses (inner_rules topped.design topped.top ++ port_rules (setting_of topped.design c.args.names.now))))
    c.in_ok-design.ensures c.plan_of.ensures.refused
