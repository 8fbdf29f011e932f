use Rattle.std.proofs.Common.{◌++◌, [], ◌∷◌, ap, append-nil, cond, fold, subst, sym, take, ◌∙◌}
use Rattle.std.proofs.lemmas.List.{drop_all}
use Rattle.hierarchy.specs.Failures.{earlier, failure}
use Rattle.vlog_tree.specs.declared.design.Module.{Module}
use Rattle.driver_rules.specs.Driven.{Has, doubles_in_group}
use Rattle.driver_rules.specs.Runs.{kept_at}
use Rattle.driver_rules.specs.Selects.{shown}
use Rattle.driver_rules.proofs.WalkLemmas.{group_step}
use Rattle.driver_rules.proofs.DrivenLemmas.{numbered_at, shown_more}
use Rattle.driver_rules.proofs.doubles.note_in_group.Goals as goal

pub loop-select-init : goal.loop-select-init
loop-select-init c = record {
  same = λ before others has more.
      ap (λ here. fold earlier c.args.found.now (doubles_in_group c.args.nets.now before here (shown c.args.group.now))) (append-nil others);
  has = λ others has. subst (Has c.args.nets.now (kept_at c.args.here.now.runs)) (sym (append-nil others)) has;
}

pub loop-select-preserved : goal.loop-select-preserved
loop-select-preserved c =
    let m = c.args.nets.now in
    let group = c.args.group.now in
    let i = c.loop-select.select-index in
    let select = c.select-item.result in
    let found = c.loop-select.found in
    let run = numbered_at m group i select c.loop-select-test.true c.select-item.is c.requires in
    record {
      same = λ before others has more.
          group_step m before others group i select c.loop-select-test.true c.select-item.is found c.note_if.new.found
          (c.note_if.ensures
          ∙ ap (λ (m : Module). fold earlier found (cond c.is_double-is_double.result (failure select.at m.name select.name.now ∷ []) [])) c.module.ensures
          ∙ ap (λ e. fold earlier found (cond e (failure select.at m.name select.name.now ∷ []) []))
          (c.is_double-is_double.ensures m before (others ++ shown (take i group)) run has (c.loop-select.invariant.has others more)))
          ∙ c.loop-select.invariant.same before others has more;
      has = λ others more.
          subst (Has m (kept_at c.add_select.new.driven.runs)) (shown_more group i select c.loop-select-test.true c.select-item.is others)
          (c.in_ok-add_select.ensures m (others ++ shown (take i group)) run (c.loop-select.invariant.has others more));
    }

pub returns : goal.returns
returns c = λ before others has more.
    let m = c.args.nets.now in
    let group = c.args.group.now in
    let i = c.loop-select.select-index in
    sym (ap (λ rest. fold earlier c.loop-select.found (doubles_in_group m before (others ++ shown (take i group)) (shown rest))) (drop_all i group c.loop-select-test.false))
    ∙ c.loop-select.invariant.same before others has more
