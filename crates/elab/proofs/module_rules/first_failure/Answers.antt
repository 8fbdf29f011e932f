use Rattle.std.proofs.Common.{arith}
use Rattle.design_nets.proofs.TableLemmas.{name_there_by}
use Rattle.elab.proofs.module_rules.first_failure.Goals as goal

pub note_if_reached-requires-clause-name : goal.note_if_reached-requires-clause-name
note_if_reached-requires-clause-name c =
    name_there_by c.args.design.now.design.modules c.modules-nets-items.result.now c.loop-place.place c.nets-item.result c.modules-nets-items.ensures
    (omega (arith, c.loop-place-test.true)) c.nets-item.is
