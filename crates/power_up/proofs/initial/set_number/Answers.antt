use Rattle.std.proofs.Common.{ap, refl, ◌∙◌}
use Rattle.vlog_tree.specs.Meaning.Keys.{bit_count}
use Rattle.power_up.proofs.ChangeLemmas.{name_set, others_unchanged}
use Rattle.power_up.proofs.initial.set_number.Goals as goal

pub returns-in-Some-clause-values : goal.returns-in-Some-clause-values
returns-in-Some-clause-values c =
    name_set c.args.places.now.definition c.args.name.now c.args.number.now c.args.first
    c.in-Some.start c.in-Some.ensures.stands c.in-Some.ensures.some
    c.width_of.result _ c.args.bits.now c.set_bits.new.bits
    (c.width_of.ensures ∙ ap (λ m. bit_count m c.args.name.now) c.nets.ensures) refl c.set_bits.ensures.values

pub returns-in_default-clause-values : goal.returns-in_default-clause-values
returns-in_default-clause-values c =
    others_unchanged c.args.places.now.definition c.args.first c.args.name.now c.args.number.now c.args.bits.now
    (c.register_of.ensures.none c.in_default.is)
