use Rattle.std.proofs.Common.{ap, ◌∙◌}
use Rattle.flat_net.specs.Nets.{Net}
use Rattle.levelise.proofs.RowLemmas.{row_made}
use Rattle.levelise.proofs.levelled.Levelled.row_with.Goals as goal

pub returns : goal.returns
returns c =
    row_made c.args.self.now.net c.inputs.result c.args.reset.bit c.args.value c.in_ok-row.row c.set.new.self c.in_ok-row.ensures
    (c.inputs.ensures ∙ ap (λ (net : Net). net.inputs) c.net.ensures) c.set.ensures
