use Rattle.std.proofs.Common.{ap, false, length, sym, ◌∙◌}
use Rattle.std.proofs.lemmas.List.{length-replicate}
use Rattle.levelise.specs.Machine.{machine}
use Rattle.levelise.proofs.EvaluationLemmas.{bad_is, next_counted, next_is}
use Rattle.levelise.proofs.RunLemmas.{first_left, found, left_more}
use Rattle.levelise.proofs.levelled.Levelled.first_bad.Goals as goal

pub loop-i-init : goal.loop-i-init
loop-i-init c = record {
  left = first_left (machine c.args.self.now) c.args.t.now.rows c.in_ok-before.before c.in_ok-before.ensures.start;
  before_count = c.in_ok-before.ensures.count;
  after_count = ap length c.in_ok-after.ensures ∙ length-replicate c.len.result false ∙ c.len.ensures ∙ c.in_ok-before.ensures.count;
  work_count = c.in_ok-work.ensures;
}

pub returns-then-is_bad : goal.returns-then-is_bad
returns-then-is_bad c =
    sym (found (machine c.args.self.now) c.args.t.now.rows c.loop-i.i c.loop-i.before c.row.result.now c.row.ensures.row
    c.loop-i.invariant.left
    c.is_bad.result
    (bad_is c.args.self.now.net c.loop-i.before c.row.result.now c.evaluate.new.work c.evaluate.ensures.values c.evaluate.ensures.net
    c.is_bad.result c.is_bad.ensures)
    c.if-is_bad.true)

pub loop-i-preserved : goal.loop-i-preserved
loop-i-preserved c = record {
  left =
      left_more (machine c.args.self.now) c.args.t.now.rows c.loop-i.i c.loop-i.before c.row.result.now c.row.ensures.row
      c.loop-i.invariant.left
      c.is_bad.result
      (bad_is c.args.self.now.net c.loop-i.before c.row.result.now c.evaluate.new.work c.evaluate.ensures.values c.evaluate.ensures.net
      c.is_bad.result c.is_bad.ensures)
      c.if-is_bad.false c.move_on.new.next
      (c.move_on.ensures
      ∙ next_is c.args.self.now.net c.loop-i.before c.row.result.now c.evaluate.new.work c.evaluate.ensures.values c.evaluate.ensures.net);
  before_count = next_counted c.args.self.now.net c.evaluate.ensures.net _ c.move_on.new.next c.move_on.ensures;
  after_count = c.loop-i.invariant.before_count;
  work_count = c.evaluate.ensures.values.count;
}
