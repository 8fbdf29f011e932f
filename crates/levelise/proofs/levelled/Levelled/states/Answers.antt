use Rattle.std.proofs.Common.{◌≡◌, ◌+◌, ap, sym, ◌∙◌}
use Rattle.trace_rows.specs.Run.{state_at}
use Rattle.levelise.specs.Machine.{machine, next}
use Rattle.levelise.proofs.RunLemmas.{state_more, states_more}
use Rattle.levelise.proofs.levelled.Levelled.states.Goals as goal

pub loop-i-preserved : goal.loop-i-preserved
loop-i-preserved c =
    let after : c.step.new.next ≡ state_at (machine c.args.self.now) c.args.t.now.rows (c.loop-i.i + 1) =
    c.step.ensures.next
    ∙ ap (λ state. next c.args.self.now.net state c.row.result.now) c.loop-i.invariant.before
    ∙ sym (state_more (machine c.args.self.now) c.args.t.now.rows c.loop-i.i c.row.result.now c.row.ensures.row) in
    record {
      states =
          c.in_ok-push-2.ensures
          ∙ states_more (machine c.args.self.now) c.args.t.now.rows c.loop-i.i c.loop-i.states c.step.new.next c.loop-i.invariant.states
          after;
      before = after;
      before_count = c.step.ensures.count;
      after_count = c.loop-i.invariant.before_count;
      work_count = c.step.ensures.work;
    }
