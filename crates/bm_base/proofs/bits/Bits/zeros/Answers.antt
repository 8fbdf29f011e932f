use Rattle.std.proofs.Common.{ap, ◌∙◌}
use Rattle.bm_base.specs.Bits.{values}
use Rattle.bm_base.proofs.BitsLemmas.{values-replicate}
use Rattle.bm_base.proofs.bits.Bits.zeros.Goals as goal

pub returns : goal.returns
returns c =
    ap (λ words. values words c.args.len) (c.in_ok-words.ensures.items_if_clones_equal (λ _ is. is)) ∙ values-replicate _ _
