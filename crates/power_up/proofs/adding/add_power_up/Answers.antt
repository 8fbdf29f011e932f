use Rattle.std.proofs.Common.{ap, ◌∙◌}
use Rattle.vlog_tree.specs.declared.design.Module.{Module}
use Rattle.power_up.proofs.ValueLemmas.{all_added}
use Rattle.power_up.proofs.adding.add_power_up.Goals as goal

pub returns-clause-added : goal.returns-clause-added
returns-clause-added c =
    all_added c.args.places.now.definition c.args.first c.as_slice.result.now c.args.bits.now c.set_all.new.bits
    (c.as_slice.ensures ∙ ap (λ (m : Module). m.items) (c.module.ensures ∙ c.nets.ensures)) c.set_all.ensures.values
