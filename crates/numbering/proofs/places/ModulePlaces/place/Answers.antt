use Rattle.std.proofs.Common.{sym, ◌∙◌, ap, is_some, subst}
use Rattle.std.specs.Option.{IfSome}
use Rattle.vlog_tree.specs.Meaning.Keys.{bit_count}
use Rattle.vlog_tree.specs.Meaning.Ranges.{range_of}
use Rattle.numbering.specs.Places.{IsPlace, IsWithinNodes, Placing}
use Rattle.numbering.proofs.PlacedLemmas.{is_found, is_right, is_within}
use Rattle.numbering.proofs.places.ModulePlaces.place.Goals as goal

pub returns-in-Some-clause-found : goal.returns-in-Some-clause-found
returns-in-Some-clause-found c =
    is_found _ c.self.inside.places c.self.inside.counts c.self.invariant c.args.name.now c.in-Some.index (sym c.in-Some.ensures.place)
    c.copied.result (c.copied.ensures ∙ c.get.ensures.value)
    ∙ c.in-Some.ensures.found
    ∙ ap (λ (it : Placing). is_some (range_of it.definition c.args.name.now)) c.self.view_is

pub returns-in-Some-clause-place : goal.returns-in-Some-clause-place
returns-in-Some-clause-place c =
    let P : Placing → Type 0 = λ it. IfSome c.copied.result (IsPlace it c.args.name.now) in
    subst P c.self.view_is
    (is_right _ c.self.inside.places c.self.inside.counts c.self.invariant c.args.name.now c.in-Some.index (sym c.in-Some.ensures.place)
    c.copied.result (c.copied.ensures ∙ c.get.ensures.value))

pub returns-in-Some-clause-within : goal.returns-in-Some-clause-within
returns-in-Some-clause-within c =
    let P : Placing → Type 0 = λ it. IfSome c.copied.result (λ place. IsWithinNodes place (bit_count it.definition c.args.name.now)) in
    subst P c.self.view_is
    (is_within _ c.self.inside.places c.self.inside.counts c.self.invariant c.args.name.now c.in-Some.index (sym c.in-Some.ensures.place)
    c.copied.result (c.copied.ensures ∙ c.get.ensures.value))
