use Rattle.bm_base.proofs.BitsLemmas.{length_from_values}
use Rattle.bm_base.proofs.bits.Bits.len.Goals as goal

pub returns : goal.returns
returns c = length_from_values _ _ _ c.self.view_is
