use Rattle.std.proofs.Common.{ap, sym, ◌∙◌}
use Rattle.std.specs.Option.{option_copied}
use Rattle.name_rules.proofs.NameLemmas.{direction_told, tells_direction}
use Rattle.name_rules.proofs.header.has_direction.Goals as goal

pub returns-in-Some : goal.returns-in-Some
returns-in-Some c =
    c.is_directed.ensures
    ∙ ap tells_direction (sym (ap option_copied c.in-Some.is) ∙ c.find.ensures)
    ∙ direction_told c.args.nets.now c.args.name.now

pub returns-in-None : goal.returns-in-None
returns-in-None c =
    ap tells_direction (sym (ap option_copied c.in-None.is) ∙ c.find.ensures)
    ∙ direction_told c.args.nets.now c.args.name.now
