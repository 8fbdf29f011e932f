use Rattle.std.proofs.Common.{ap, sym, ◌∙◌}
use Rattle.std.specs.Option.{option_copied}
use Rattle.nets.proofs.ToldLemmas.{register_told, tells_register}
use Rattle.nets.proofs.table.Nets.is_register.Goals as goal

pub returns-in-Some : goal.returns-in-Some
returns-in-Some c =
    c.is_register.ensures
    ∙ ap tells_register (sym (ap option_copied c.in-Some.is) ∙ c.find.ensures)
    ∙ register_told c.args.self.now c.args.name.now

pub returns-in-None : goal.returns-in-None
returns-in-None c =
    ap tells_register (sym (ap option_copied c.in-None.is) ∙ c.find.ensures)
    ∙ register_told c.args.self.now c.args.name.now
