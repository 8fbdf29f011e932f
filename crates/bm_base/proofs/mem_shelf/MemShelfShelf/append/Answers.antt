use Rattle.std.proofs.Common.{arith, ap, ◌∙◌}
use Rattle.std.proofs.lemmas.Grind.{common_steps}
use Rattle.bm_base.specs.Counts.{risen}
use Rattle.bm_base.proofs.CountsLemmas.{risen-entered}
use Rattle.bm_base.proofs.mem_shelf.MemShelfShelf.append.Goals as goal

pub returns-in_ok-append-in-Some-clause-failed : goal.returns-in_ok-append-in-Some-clause-failed
returns-in_ok-append-in-Some-clause-failed c =
    let rose = c.raise.ensures.risen ∙ ap (risen c.args.name.now) c.in_ok-enter-in-Some.ensures.ok ∙ risen-entered c.args.name.now c.self.inside.writes in
    grind (arith, common_steps)
