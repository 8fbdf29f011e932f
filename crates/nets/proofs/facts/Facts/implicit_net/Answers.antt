use Rattle.std.proofs.Common.{Some, true, false, sym, ap, ◌∙◌}
use Rattle.std.specs.Option.{unwrap_or}
use Rattle.nets.specs.Declaring.{implicit_net}
use Rattle.nets.specs.Nets.{Net}
use Rattle.nets.proofs.NetLemmas.{net_used}
use Rattle.nets.proofs.facts.Facts.implicit_net.Goals as goal

pub returns-then-has : goal.returns-then-has
returns-then-has c =
    ap (λ (net : Net). Some net) (c.implicit.ensures
    ∙ ap implicit_net (c.unwrap_or.ensures ∙ ap (λ place. unwrap_or place 0) (c.get.ensures ∙ c.args.self.now.told.first_used c.args.name.now)))
    ∙ net_used c.args.self.now.m.now c.args.name.now true
    (sym (c.args.self.now.told.declared c.args.name.now) ∙ c.requires)
    (sym c.if-has.true ∙ c.has.ensures ∙ c.args.self.now.told.stand c.args.name.now)

pub returns-else-has : goal.returns-else-has
returns-else-has c =
    net_used c.args.self.now.m.now c.args.name.now false
    (sym (c.args.self.now.told.declared c.args.name.now) ∙ c.requires)
    (sym c.if-has.false ∙ c.has.ensures ∙ c.args.self.now.told.stand c.args.name.now)
