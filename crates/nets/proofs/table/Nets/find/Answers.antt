use Rattle.std.proofs.Common.{ap, ◌∙◌}
use Rattle.nets.specs.Nets.{net_of}
use Rattle.nets.proofs.NameLemmas.{found_net}
use Rattle.nets.proofs.table.Nets.find.Goals as goal

pub returns : goal.returns
returns c =
    c.get.ensures.value
    ∙ found_net c.self.inside.m.now c.args.name.now c.self.inside.entries.entries c.self.invariant.0
    ∙ ap (λ m. net_of m c.args.name.now) c.self.view_is
