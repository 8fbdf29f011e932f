use Rattle.std.proofs.Common.{ap, ◌∙◌}
use Rattle.nets.specs.Nets.{net_of}
use Rattle.nets.proofs.NameLemmas.{found_net, found_range, found_with}
use Rattle.nets.proofs.table.Nets.get.Goals as goal

pub returns-clause-value : goal.returns-clause-value
returns-clause-value c =
    c.get.ensures.value
    ∙ found_net c.self.inside.m.now c.bytes.result.now c.self.inside.entries.entries c.self.invariant.0
    ∙ ap (net_of c.self.inside.m.now) c.bytes.ensures
    ∙ ap (λ m. net_of m c.args.name.now) c.self.view_is

pub returns-clause-range : goal.returns-clause-range
returns-clause-range c = found_range c.args.self.now c.args.name.now c.get.result (returns-clause-value c)

pub returns-clause-said : goal.returns-clause-said
returns-clause-said c = found_with c.args.self.now c.args.name.now c.get.result (returns-clause-value c)
