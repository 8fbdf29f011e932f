use Rattle.hierarchy.specs.Rules.{module_rules}
use Rattle.elab.specs.Refusals.{Refuses, inner_rules, port_rules, rules}
use Rattle.std.proofs.Common.{subst, ◌++◌}
use Rattle.std.specs.Result.{IfErr}
use Rattle.elab.specs.Settings.{setting_of}
use Rattle.elab.proofs.RefusalLemmas.{refused_behind, refused_by}
use Rattle.elab.proofs.rules.elaborate.Goals as goal

pub returns-in-Err-clause-refused : goal.returns-in-Err-clause-refused
unfolding rules
returns-in-Err-clause-refused c =
    refused_by (module_rules c.args.design.now c.args.names.now.top)
    (inner_rules c.args.design.now c.args.names.now.top ++ port_rules (setting_of c.args.design.now c.args.names.now)) c.hierarchy_fault.result c.in-Err.fault
    c.in-Err.ensures.refused c.hierarchy_fault.ensures

pub returns-in-Ok-clause-refused : goal.returns-in-Ok-clause-refused
unfolding rules
returns-in-Ok-clause-refused c =
    refused_behind (module_rules c.args.design.now c.args.names.now.top)
    (inner_rules c.args.design.now c.args.names.now.top ++ port_rules (setting_of c.args.design.now c.args.names.now)) c.elaborate_modules.result
    c.in-Ok.ensures.accepted
    (subst (λ topped. IfErr c.elaborate_modules.result (Refuses (inner_rules topped.design topped.top ++ port_rules (setting_of topped.design c.args.names.now))))
    c.in-Ok.ensures.of_design c.elaborate_modules.ensures.refused)
