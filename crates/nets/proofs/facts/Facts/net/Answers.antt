use Rattle.std.proofs.Common.{Some, sym, ap, ◌∙◌}
use Rattle.std.specs.Option.{option_copied}
use Rattle.nets.specs.Nets.{Net}
use Rattle.nets.proofs.NetLemmas.{net_declared}
use Rattle.nets.proofs.facts.Facts.net.Goals as goal

pub returns-in-Some : goal.returns-in-Some
returns-in-Some c =
    net_declared c.args.self.now.m.now c.args.name.now c.copy.result
    (sym (c.args.self.now.told.declared c.args.name.now) ∙ sym c.get.ensures ∙ ap option_copied c.in-Some.is
    ∙ ap (λ (net : Net). Some net) (sym c.copy.ensures))
