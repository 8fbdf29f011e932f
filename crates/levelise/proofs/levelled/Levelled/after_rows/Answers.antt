use Rattle.std.proofs.Common.{ap, sym, ◌∙◌}
use Rattle.levelise.specs.Machine.{next}
use Rattle.levelise.proofs.RunLemmas.{again}
use Rattle.levelise.proofs.levelled.Levelled.after_rows.Goals as goal

pub loop-cycle-preserved : goal.loop-cycle-preserved
loop-cycle-preserved c = record {
  before =
      c.step.ensures.next
      ∙ ap (λ state. next c.args.self.now.net state c.args.row.now) c.loop-cycle.invariant.before
      ∙ sym (again (next c.args.self.now.net) c.args.state c.args.row.now c.loop-cycle._cycle);
  before_count = c.step.ensures.count;
  after_count = c.loop-cycle.invariant.before_count;
  work_count = c.step.ensures.work;
}
