use Rattle.machine_laws.proofs.RunLemmas.{same_runs}
use Rattle.machine_laws.proofs.laws.runs.Goals as goal

pub returns : goal.returns
returns c = same_runs
