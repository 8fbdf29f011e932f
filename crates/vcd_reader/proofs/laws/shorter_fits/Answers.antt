use Rattle.vcd_reader.proofs.LimitLemmas.{cycles_are_within, shorter_passes_none}
use Rattle.vcd_reader.proofs.laws.shorter_fits.Goals as goal

pub returns-clause-shorter : goal.returns-clause-shorter
returns-clause-shorter c = shorter_passes_none

pub returns-clause-cycles : goal.returns-clause-cycles
returns-clause-cycles c = cycles_are_within
