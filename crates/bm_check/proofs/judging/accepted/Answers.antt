use Rattle.std.proofs.Common.{sym, ◌∙◌}
use Rattle.bm_check.proofs.VerdictLemmas.{base_counted}
use Rattle.bm_check.proofs.judging.accepted.Goals as goal

pub events-requires : goal.events-requires
events-requires c = base_counted c.args.net.now c.in_ok-base.base c.in_ok-base.ensures ∙ sym c.requires
