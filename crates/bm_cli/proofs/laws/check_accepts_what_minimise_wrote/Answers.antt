use Rattle.bm_cli.proofs.AgreementLemmas.{accepted_again}
use Rattle.bm_cli.proofs.laws.check_accepts_what_minimise_wrote.Goals as goal

pub returns : goal.returns
returns c = accepted_again c.waveforms_fit.ensures c.shorter_fits.ensures.shorter
