use Rattle.std.proofs.Common.{◌++◌}
use Rattle.elab.specs.Refusals.{Refuses, inner_rules, port_rules}
use Rattle.elab.specs.Settings.{setting_of}
use Rattle.elab.proofs.NarrowLemmas.{names_kept}
use Rattle.elab.proofs.RefusalLemmas.{passed_on, refused_before}
use Rattle.elab.proofs.rules.plan_of.Goals as goal

pub returns-in_err-keeps_inner_rules-clause-refused : goal.returns-in_err-keeps_inner_rules-clause-refused
returns-in_err-keeps_inner_rules-clause-refused c =
    passed_on
    (Refuses (inner_rules c.args.design.now.design c.args.design.now.top ++ port_rules (setting_of c.args.design.now.design c.args.names.now)))
    c.from_residual.result c.in_err-keeps_inner_rules.field-0.0 c.from_residual.ensures.1
    (refused_before (inner_rules c.args.design.now.design c.args.design.now.top) (port_rules (setting_of c.args.design.now.design c.args.names.now))
    c.in_err-keeps_inner_rules.field-0.0 c.in_err-keeps_inner_rules.ensures.refused)

pub of-requires-clause-kept : goal.of-requires-clause-kept
of-requires-clause-kept c = names_kept c.args.design.now.design c.args.design.now.top c.in_ok-keeps_inner_rules.ensures.kept
