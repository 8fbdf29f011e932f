use Rattle.vcd_reader.proofs.FitLemmas.{waveforms_fit}
use Rattle.vcd_reader.proofs.laws.waveforms_fit.Goals as goal

pub returns : goal.returns
returns c = waveforms_fit
