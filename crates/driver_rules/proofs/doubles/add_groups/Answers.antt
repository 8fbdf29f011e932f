use Rattle.std.proofs.Common.{◌++◌, append-nil, subst, sym, take}
use Rattle.std.proofs.lemmas.List.{take_all}
use Rattle.driver_rules.specs.Driven.{Has}
use Rattle.driver_rules.specs.Groups.{groups_shown, joined}
use Rattle.driver_rules.specs.Runs.{kept_at}
use Rattle.driver_rules.specs.Selects.{AreNumbered, shown}
use Rattle.driver_rules.proofs.DrivenLemmas.{group_at, groups_more}
use Rattle.driver_rules.proofs.doubles.add_groups.Goals as goal

pub loop-added-init : goal.loop-added-init
loop-added-init c = record { has = λ m before numbered has. subst (Has m (kept_at c.args.driven.now.runs)) (sym (append-nil before)) has }

pub loop-added-preserved : goal.loop-added-preserved
loop-added-preserved c = record {
  has = λ m before numbered has.
      let groups = c.args.groups.now in
      let i = c.loop-added.added-index in
      let list = before ++ joined (groups_shown (take i groups)) in
      subst (Has m (kept_at c.add_group.new.driven.runs)) (groups_more groups i c.added-item.result c.loop-added-test.true c.added-item.is before)
      (subst (λ group. Has m (kept_at c.add_group.new.driven.runs) (list ++ shown group)) c.as_slice.ensures
      (c.in_ok-add_group.ensures m list
      (subst (AreNumbered m) (sym c.as_slice.ensures) (group_at m groups i c.added-item.result c.loop-added-test.true c.added-item.is numbered))
      (c.loop-added.invariant.has m before numbered has)));
}

pub returns : goal.returns
returns c = λ m before numbered has.
    subst (λ list. Has m (kept_at c.loop-added.driven.runs) (before ++ joined (groups_shown list))) (take_all c.loop-added.added-index c.args.groups.now c.loop-added-test.false)
    (c.loop-added.invariant.has m before numbered has)
