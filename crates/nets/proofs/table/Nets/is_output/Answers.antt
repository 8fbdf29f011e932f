use Rattle.std.proofs.Common.{ap, sym, ◌∙◌}
use Rattle.std.specs.Option.{option_copied}
use Rattle.nets.proofs.ToldLemmas.{output_told, tells_output}
use Rattle.nets.proofs.table.Nets.is_output.Goals as goal

pub returns-in-Some : goal.returns-in-Some
returns-in-Some c =
    c.is_output.ensures
    ∙ ap tells_output (sym (ap option_copied c.in-Some.is) ∙ c.find.ensures)
    ∙ output_told c.args.self.now c.args.name.now

pub returns-in-None : goal.returns-in-None
returns-in-None c =
    ap tells_output (sym (ap option_copied c.in-None.is) ∙ c.find.ensures)
    ∙ output_told c.args.self.now c.args.name.now
