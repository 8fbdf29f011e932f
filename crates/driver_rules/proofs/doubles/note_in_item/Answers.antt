use Rattle.std.proofs.Common.{◌++◌, ap, fold, subst, sym, ◌∙◌}
use Rattle.hierarchy.specs.Failures.{earlier}
use Rattle.driver_rules.specs.Driven.{Has, doubles_in_groups}
use Rattle.driver_rules.specs.Groups.{GroupsAreNumbered, groups_shown, joined}
use Rattle.driver_rules.specs.Runs.{kept_at}
use Rattle.driver_rules.proofs.doubles.note_in_item.Goals as goal

pub note_in_groups-requires : goal.note_in_groups-requires
note_in_groups-requires c = subst (GroupsAreNumbered c.args.nets.now) (sym c.as_slice.ensures) c.in_ok-groups.ensures.numbered

pub returns-clause-found : goal.returns-clause-found
returns-clause-found c = λ before has.
    c.in_ok-note_in_groups.ensures before has
    ∙ ap (λ groups. fold earlier c.args.found.now (doubles_in_groups c.args.nets.now before groups)) (ap groups_shown c.as_slice.ensures ∙ c.in_ok-groups.ensures.shown)

pub returns-clause-driven : goal.returns-clause-driven
returns-clause-driven c = λ before has.
    let m = c.args.nets.now in
    subst (λ groups. Has m (kept_at c.add_groups.new.driven.runs) (before ++ joined groups)) (ap groups_shown c.as_slice-2.ensures ∙ c.in_ok-groups.ensures.shown)
    (c.in_ok-add_groups.ensures m before (subst (GroupsAreNumbered m) (sym c.as_slice-2.ensures) c.in_ok-groups.ensures.numbered) has)
