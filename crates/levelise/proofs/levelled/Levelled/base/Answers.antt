use Rattle.std.proofs.Common.{ap, sym, ◌∙◌}
use Rattle.flat_net.specs.declared.setup.Setup.{Setup}
use Rattle.flat_net.specs.Nets.{Net}
use Rattle.levelise.proofs.RowLemmas.{base_made}
use Rattle.levelise.proofs.levelled.Levelled.base.Goals as goal

pub returns-in_ok-zeros-in-None : goal.returns-in_ok-zeros-in-None
returns-in_ok-zeros-in-None c =
    base_made c.args.self.now.net c.inputs.result c.args.self.now.setup.reset c.in_ok-zeros-in-None.field-0 c.in_ok-zeros-in-None.ensures
    (c.inputs.ensures ∙ ap (λ (net : Net). net.inputs) c.net.ensures)
    (ap (λ (setup : Setup). setup.reset) (sym c.setup.ensures.setup) ∙ c.in-None.is)
