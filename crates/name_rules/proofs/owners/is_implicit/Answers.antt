use Rattle.std.proofs.Common.{ap, not, sym, ◌∙◌}
use Rattle.std.specs.Option.{option_copied}
use Rattle.name_rules.proofs.NameLemmas.{implicit_told, tells_implicit}
use Rattle.name_rules.proofs.owners.is_implicit.Goals as goal

pub returns-in-Some : goal.returns-in-Some
returns-in-Some c =
    ap not c.is_declared.ensures
    ∙ ap tells_implicit (sym (ap option_copied c.in-Some.is) ∙ c.find.ensures)
    ∙ implicit_told c.args.nets.now c.args.name.now
