use Rattle.std.proofs.Common.{ap, sym, ◌∙◌}
use Rattle.design_nets.proofs.TableLemmas.{name_there_by}
use Rattle.clock_sets.specs.Sets.{Clocked}
use Rattle.clock_rules.proofs.data_reads.note_clock_as_data.Goals as goal

pub note_if_reached-requires-clause-name : goal.note_if_reached-requires-clause-name
note_if_reached-requires-clause-name c =
    name_there_by c.in_ok-rule.rule.names.design.modules c.modules-nets-items.result.now c.loop-place.place c.nets-item.result
    (c.modules-nets-items.ensures ∙ sym (ap (λ (clocked : Clocked). clocked.design.modules) c.in_ok-rule.ensures)) c.loop-place-test.true c.nets-item.is
