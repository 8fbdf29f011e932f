use Rattle.numbering.proofs.NumberEdgeLemmas.{numbers_bits}
use Rattle.numbering.proofs.laws.numbers.Goals as goal

pub returns : goal.returns
returns c = numbers_bits
