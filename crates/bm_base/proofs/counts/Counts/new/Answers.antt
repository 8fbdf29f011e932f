use Rattle.bm_base.proofs.TextMap.{text_map-empty}
use Rattle.bm_base.proofs.counts.Counts.new.Goals as goal

pub returns : goal.returns
returns c = text_map-empty (λ x. x) c.new.result c.new.ensures.empty
