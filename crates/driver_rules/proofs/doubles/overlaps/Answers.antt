use Rattle.driver_rules.specs.Runs.{kept_at}
use Rattle.driver_rules.proofs.DrivenLemmas.{has_told}
use Rattle.driver_rules.proofs.doubles.overlaps.Goals as goal

pub returns : goal.returns
returns c = has_told (kept_at c.args.driven.now.runs) c.args.select.now c.overlaps.result c.overlaps.ensures
