use Rattle.std.proofs.Common.{◌∙◌}
use Rattle.driver_rules.specs.Begun.{begun_in}
use Rattle.driver_rules.proofs.InitialLemmas.{begun_step, initials_step}
use Rattle.driver_rules.proofs.initials.note_second_initials.Goals as goal

pub loop-item-preserved : goal.loop-item-preserved
loop-item-preserved c = record {
  same =
      initials_step c.args.m.now c.as_slice-item-items.result.now c.loop-item.item-index c.item-item.result c.loop-item-test.true c.item-item.is
      (begun_in c.loop-item.begun) c.loop-item.invariant.kept c.loop-item.found c.take.new.found c.in_ok-take.ensures.found
      ∙ c.loop-item.invariant.same;
  kept =
      begun_step c.as_slice-item-items.result.now c.loop-item.item-index c.item-item.result c.loop-item-test.true c.item-item.is
      (begun_in c.loop-item.begun) (begun_in c.take.new.self) c.loop-item.invariant.kept c.in_ok-take.ensures.begun;
}
