use Rattle.std.proofs.Common.{ap, fold, sym, ◌∙◌}
use Rattle.hierarchy.specs.Failures.{earlier}
use Rattle.vlog_tree.specs.Meaning.Instances.{module_named}
use Rattle.elab.specs.Ports.{bad_ports_of}
use Rattle.elab.specs.Settings.{setting_of}
use Rattle.elab.proofs.PortLemmas.{bad_setting_of}
use Rattle.elab.proofs.ports.bad_setting.Goals as goal

pub returns : goal.returns
returns c =
    c.note_bad_ports.ensures c.args.design.now.design
    ∙ ap (λ found. fold earlier found (bad_ports_of (setting_of c.args.design.now.design c.args.names.now) c.top.result.now)) c.new-found.ensures
    ∙ sym (bad_setting_of (setting_of c.args.design.now.design c.args.names.now) c.top.result.now
    (sym (ap (module_named c.args.design.now.design) c.requires) ∙ c.top.ensures))
