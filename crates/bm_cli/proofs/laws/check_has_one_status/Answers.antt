use Rattle.bm_cli.proofs.ExclusionLemmas.{check_one_status}
use Rattle.bm_cli.proofs.laws.check_has_one_status.Goals as goal

pub returns : goal.returns
returns c = check_one_status c.files_exclude.ensures
