use Rattle.driver_rules.specs.Runs.{kept_at}
use Rattle.driver_rules.proofs.DrivenLemmas.{has_more_if}
use Rattle.driver_rules.proofs.doubles.add_select.Goals as goal

pub returns : goal.returns
returns c = has_more_if c.add.result (kept_at c.args.driven.now.runs) (kept_at c.add.new.self.runs) c.args.select.now c.add.ensures
