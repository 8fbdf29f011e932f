use Rattle.vcd_reader.proofs.FaultLemmas.{faults_are_of_bytes}
use Rattle.vcd_reader.proofs.laws.faults_are_of_bytes.Goals as goal

pub returns : goal.returns
returns c = faults_are_of_bytes
