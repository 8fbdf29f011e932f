use Rattle.vcd_reader.proofs.ChangeLemmas.{changes_grow, times_grow}
use Rattle.vcd_reader.proofs.laws.items_grow.Goals as goal

pub returns-clause-changes : goal.returns-clause-changes
returns-clause-changes c = changes_grow

pub returns-clause-times : goal.returns-clause-times
returns-clause-times c = times_grow
