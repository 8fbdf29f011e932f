use Rattle.std.proofs.Common.{ap, sym, ◌∙◌}
use Rattle.design_nets.proofs.TableLemmas.{name_there_by}
use Rattle.clock_sets.specs.Sets.{Clocked}
use Rattle.clock_rules.specs.Clocks.{bad_clocks, bad_clocks_in}
use Rattle.hierarchy.specs.Failures.{earlier}
use Rattle.std.proofs.Common.{fold}
use Rattle.clock_rules.specs.Ruled.{ruled}
use Rattle.clock_rules.specs.Told.{is_reached}
use Rattle.clock_rules.proofs.ListLemmas.{reached_step}
use Rattle.clock_rules.proofs.clocking.note_bad_clocks.Goals as goal

pub note_if_reached-requires-clause-name : goal.note_if_reached-requires-clause-name
note_if_reached-requires-clause-name c =
    name_there_by c.in_ok-rule.rule.design.now.design.modules c.modules-nets-items.result.now c.loop-place.place c.nets-item.result
    (c.modules-nets-items.ensures ∙ sym (ap (λ (clocked : Clocked). clocked.design.modules) c.in_ok-rule.ensures)) c.loop-place-test.true c.nets-item.is

pub loop-place-preserved : goal.loop-place-preserved
loop-place-preserved c = record {
  same =
      reached_step (bad_clocks_in (ruled c.in_ok-rule.rule)) (is_reached (ruled c.in_ok-rule.rule)) c.in_ok-rule.rule.design.now.design.modules c.modules-nets-items.result.now
      c.loop-place.place c.nets-item.result c.loop-place.found c.note_if_reached.new.found (fold earlier c.args.found.now (bad_clocks (ruled c.in_ok-rule.rule)))
      (c.modules-nets-items.ensures ∙ sym (ap (λ (clocked : Clocked). clocked.design.modules) c.in_ok-rule.ensures)) c.loop-place-test.true c.nets-item.is
      c.in_ok-note_if_reached.ensures c.loop-place.invariant.same;
}
