use Rattle.std.proofs.Common.{◌++◌, append-nil, subst, sym, take}
use Rattle.std.proofs.lemmas.List.{take_all}
use Rattle.driver_rules.specs.Driven.{Has}
use Rattle.driver_rules.specs.Runs.{kept_at}
use Rattle.driver_rules.specs.Selects.{shown}
use Rattle.driver_rules.proofs.DrivenLemmas.{numbered_at, shown_more}
use Rattle.driver_rules.proofs.doubles.add_group.Goals as goal

pub loop-select-init : goal.loop-select-init
loop-select-init c = record { has = λ m before numbered has. subst (Has m (kept_at c.args.driven.now.runs)) (sym (append-nil before)) has }

pub loop-select-preserved : goal.loop-select-preserved
loop-select-preserved c = record {
  has = λ m before numbered has.
      let group = c.args.group.now in
      let i = c.loop-select.select-index in
      subst (Has m (kept_at c.add_select.new.driven.runs)) (shown_more group i c.select-item.result c.loop-select-test.true c.select-item.is before)
      (c.in_ok-add_select.ensures m (before ++ shown (take i group)) (numbered_at m group i c.select-item.result c.loop-select-test.true c.select-item.is numbered)
      (c.loop-select.invariant.has m before numbered has));
}

pub returns : goal.returns
returns c = λ m before numbered has.
    subst (λ list. Has m (kept_at c.loop-select.driven.runs) (before ++ shown list)) (take_all c.loop-select.select-index c.args.group.now c.loop-select-test.false)
    (c.loop-select.invariant.has m before numbered has)
