use Rattle.std.proofs.Common.{[], ap, flat_map, fold, refl, subst, sym, take, ◌∙◌}
use Rattle.std.proofs.lemmas.List.{drop_all}
use Rattle.hierarchy.specs.Failures.{earlier}
use Rattle.driver_rules.specs.Driven.{Has, assigned_by, doubles_by_item}
use Rattle.driver_rules.specs.Runs.{kept_at}
use Rattle.driver_rules.proofs.DoubleLemmas.{doubles_told}
use Rattle.driver_rules.proofs.DrivenLemmas.{has_none}
use Rattle.driver_rules.proofs.WalkLemmas.{assigned_more, items_step}
use Rattle.driver_rules.proofs.doubles.note_doubles.Goals as goal

pub loop-item-init : goal.loop-item-init
loop-item-init c = record {
  same = refl;
  has = has_none c.args.nets.now (kept_at c.new-driven.result.runs) c.new-driven.ensures;
}

pub loop-item-preserved : goal.loop-item-preserved
loop-item-preserved c =
    let design = c.args.design.now.design in
    let m = c.args.nets.now in
    let items = c.as_slice-item-items.result.now in
    let i = c.loop-item.item-index in
    let before = flat_map (assigned_by design m) (take i items) in
    record {
      same =
          items_step design m items i c.item-item.result c.loop-item-test.true c.item-item.is c.loop-item.found c.note_in_item.new.found
          (c.in_ok-note_in_item.ensures.found before c.loop-item.invariant.has)
          ∙ c.loop-item.invariant.same;
      has =
          subst (Has m (kept_at c.note_in_item.new.driven.runs)) (assigned_more design m items i c.item-item.result c.loop-item-test.true c.item-item.is)
          (c.in_ok-note_in_item.ensures.driven before c.loop-item.invariant.has);
    }

pub returns : goal.returns
returns c =
    let design = c.args.design.now.design in
    let m = c.args.nets.now in
    let items = c.as_slice-item-items.result.now in
    let i = c.loop-item.item-index in
    sym (ap (λ rest. fold earlier c.loop-item.found (doubles_by_item design m (flat_map (assigned_by design m) (take i items)) rest)) (drop_all i items c.loop-item-test.false))
    ∙ c.loop-item.invariant.same
    ∙ ap (λ all. fold earlier c.args.found.now (doubles_by_item design m [] all)) (c.as_slice-item-items.ensures ∙ ap (λ one. one.items) c.module-m.ensures)
    ∙ ap (fold earlier c.args.found.now) (doubles_told m design)
