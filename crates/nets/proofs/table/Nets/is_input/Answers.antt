use Rattle.std.proofs.Common.{ap, sym, ◌∙◌}
use Rattle.std.specs.Option.{option_copied}
use Rattle.nets.proofs.ToldLemmas.{input_told, tells_input}
use Rattle.nets.proofs.table.Nets.is_input.Goals as goal

pub returns-in-Some : goal.returns-in-Some
returns-in-Some c =
    c.is_input.ensures
    ∙ ap tells_input (sym (ap option_copied c.in-Some.is) ∙ c.find.ensures)
    ∙ input_told c.args.self.now c.args.name.now

pub returns-in-None : goal.returns-in-None
returns-in-None c =
    ap tells_input (sym (ap option_copied c.in-None.is) ∙ c.find.ensures)
    ∙ input_told c.args.self.now c.args.name.now
