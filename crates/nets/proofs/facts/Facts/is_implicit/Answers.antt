use Rattle.std.proofs.Common.{sym, ap, ◌∙◌}
use Rattle.std.specs.Option.{option_copied}
use Rattle.nets.proofs.NetLemmas.{declared_not_implicit, used_implicit}
use Rattle.nets.proofs.facts.Facts.is_implicit.Goals as goal

pub returns-in-Some : goal.returns-in-Some
returns-in-Some c =
    declared_not_implicit c.args.self.now.m.now c.args.name.now _
    (sym (c.args.self.now.told.declared c.args.name.now) ∙ sym c.get.ensures ∙ ap option_copied c.in-Some.is)

pub returns-in-None : goal.returns-in-None
returns-in-None c =
    c.has.ensures ∙ c.args.self.now.told.stand c.args.name.now
    ∙ used_implicit c.args.self.now.m.now c.args.name.now
    (sym (c.args.self.now.told.declared c.args.name.now) ∙ sym c.get.ensures ∙ ap option_copied c.in-None.is)
