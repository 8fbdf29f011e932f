use Rattle.std.proofs.Common.{sym, ◌∙◌}
use Rattle.netlists.proofs.PlannedLemmas.{key_there}
use Rattle.netlists.proofs.planned.loop_fault.Goals as goal

pub unreachable-requires : goal.unreachable-requires
unreachable-requires c =
    key_there c.loop_free.ensures c.requires.planned.0 c.args.node (c.requires.least c.requires.planned.0 c.requires.planned.1)
    (sym c.in-Ok-None.field-0-is ∙ c.in-Ok-None.ensures c.requires.planned.0 c.requires.planned.1)
