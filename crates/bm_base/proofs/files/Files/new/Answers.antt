use Rattle.bm_base.proofs.TextMap.{text_map-empty}
use Rattle.bm_base.proofs.files.Files.new.Goals as goal

pub returns : goal.returns
returns c = text_map-empty (λ bytes. bytes.items) c.new.result c.new.ensures.empty
