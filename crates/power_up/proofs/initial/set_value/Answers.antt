use Rattle.std.proofs.Common.{ap, is_some, not, sym, ◌∙◌}
use Rattle.vlog_tree.specs.Meaning.Widths.{width}
use Rattle.power_up.proofs.ValueLemmas.{number_changes}
use Rattle.power_up.proofs.initial.set_value.Goals as goal

pub returns-clause-values : goal.returns-clause-values
returns-clause-values c =
    number_changes c.args.places.now.definition c.args.first c.args.name.now c.args.value.now
    c.in-Number.at c.in-Number.number c.args.bits.now c.set_number.new.bits
    c.in-Number.is
    (ap (λ m. is_some (width m c.args.value.now)) (sym c.nets.ensures)
    ∙ ap is_some (sym c.width_by.ensures) ∙ c.is_none.ensures ∙ ap not c.if-is_none.false)
    c.set_number.ensures.values
