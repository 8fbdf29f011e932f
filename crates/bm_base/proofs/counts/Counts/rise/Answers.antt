use Rattle.bm_base.proofs.CountsLemmas.{risen-entered, Rose-risen, RisesOnlyAt-cong}
use Rattle.std.proofs.Common.{ap, ◌∙◌}
use Rattle.bm_base.specs.Counts.{risen}
use Rattle.bm_base.proofs.counts.Counts.rise.Goals as goal

pub returns-clause-ok : goal.returns-clause-ok
returns-clause-ok c = c.raise.ensures.risen ∙ ap (risen c.args.name.now) c.in_ok-enter.ensures.ok ∙ risen-entered c.args.name.now c.args.self.now

pub returns-clause-rose : goal.returns-clause-rose
returns-clause-rose c = rw (returns-clause-ok c) (Rose-risen c.args.name.now c.args.self.now)

pub returns-clause-only : goal.returns-clause-only
returns-clause-only c =
    let entered_first = RisesOnlyAt-cong c.args.name.now c.args.self.now c.enter.new.self c.raise.new.self c.in_ok-enter.ensures.same in
    entered_first c.raise.ensures.only
