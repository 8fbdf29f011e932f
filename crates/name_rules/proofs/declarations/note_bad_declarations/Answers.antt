use Rattle.std.proofs.Common.{◌∙◌}
use Rattle.name_rules.specs.Headers.{has_in}
use Rattle.name_rules.specs.Histories.{history_in}
use Rattle.name_rules.proofs.HistoryLemmas.{declarations_step, said_step}
use Rattle.name_rules.proofs.declarations.note_bad_declarations.Goals as goal

pub loop-item-preserved : goal.loop-item-preserved
loop-item-preserved c = record {
  same =
      declarations_step c.args.m.now c.as_slice-item-items.result.now c.loop-item.item-index c.item-item.result c.loop-item-test.true c.item-item.is
      (has_in c.args.header.now) c.requires (history_in c.loop-item.histories) c.loop-item.invariant.kept
      c.loop-item.found c.take.new.found c.in_ok-take.ensures.found
      ∙ c.loop-item.invariant.same;
  kept =
      said_step c.as_slice-item-items.result.now c.loop-item.item-index c.item-item.result c.loop-item-test.true c.item-item.is
      (history_in c.loop-item.histories) (history_in c.take.new.self) c.loop-item.invariant.kept c.in_ok-take.ensures.said;
}
