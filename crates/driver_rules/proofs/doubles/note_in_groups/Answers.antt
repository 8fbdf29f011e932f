use Rattle.std.proofs.Common.{[], ap, fold, subst, sym, ◌∙◌}
use Rattle.std.proofs.lemmas.List.{drop_all}
use Rattle.hierarchy.specs.Failures.{earlier}
use Rattle.driver_rules.specs.Driven.{doubles_in_group, doubles_in_groups}
use Rattle.driver_rules.specs.Groups.{groups_shown}
use Rattle.driver_rules.specs.Runs.{kept_at}
use Rattle.driver_rules.specs.Selects.{AreNumbered, shown}
use Rattle.driver_rules.proofs.DrivenLemmas.{group_at, has_none}
use Rattle.driver_rules.proofs.WalkLemmas.{groups_step}
use Rattle.driver_rules.proofs.doubles.note_in_groups.Goals as goal

pub note_in_group-requires : goal.note_in_group-requires
note_in_group-requires c =
    let m = c.args.nets.now in
    subst (AreNumbered m) (sym c.as_slice.ensures)
    (group_at m c.args.groups.now c.loop-group.group-index c.group-item.result c.loop-group-test.true c.group-item.is c.requires)

pub loop-group-preserved : goal.loop-group-preserved
loop-group-preserved c =
    let m = c.args.nets.now in
    let found = c.loop-group.found in
    let none = has_none m (kept_at c.new-here.result.runs) c.new-here.ensures in
    record {
      same = λ before has.
          groups_step m before c.args.groups.now c.loop-group.group-index c.group-item.result c.loop-group-test.true c.group-item.is found c.note_in_group.new.found
          (c.in_ok-note_in_group.ensures before [] has none ∙ ap (λ group. fold earlier found (doubles_in_group m before [] (shown group))) c.as_slice.ensures)
          ∙ c.loop-group.invariant.same before has;
    }

pub returns : goal.returns
returns c = λ before has.
    sym (ap (λ rest. fold earlier c.loop-group.found (doubles_in_groups c.args.nets.now before (groups_shown rest))) (drop_all c.loop-group.group-index c.args.groups.now c.loop-group-test.false))
    ∙ c.loop-group.invariant.same before has
