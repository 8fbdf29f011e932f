use Rattle.bm_cli.proofs.ExclusionLemmas.{minimise_one_status}
use Rattle.bm_cli.proofs.laws.minimise_has_one_status.Goals as goal

pub returns : goal.returns
returns c = minimise_one_status c.files_exclude.ensures
