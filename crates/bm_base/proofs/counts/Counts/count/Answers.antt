use Rattle.std.proofs.Common.{arith}
use Rattle.std.proofs.lemmas.Grind.{common_steps}
use Rattle.bm_base.proofs.TextMap.{get-seen_same}
use Rattle.bm_base.proofs.counts.Counts.count.Goals as goal

pub returns : goal.returns
returns c =
    let seen = get-seen_same c.self.inside.counts c.args.self.now c.args.name.now c.self.view_is in
    rw seen (grind (arith, common_steps))
