use Rattle.std.proofs.Common.{◌≡◌, ◌<◌, ◌∙◌, ap, sym, ℕ, length, IfSome, Option, option_and_then, slice_get, subst}
use Rattle.vlog_tree.specs.Meaning.Instances.{module_named}
use Rattle.hierarchy.specs.Graph.{AreDistinct, place_among}
use Rattle.hierarchy.specs.Indexed.{Topped}
use Rattle.hierarchy.specs.Places.{place_in}
use Rattle.hierarchy.proofs.RuleLemmas.{module_is, place_below, place_is}
use Rattle.hierarchy.proofs.modules.Hierarchy.place_of.Goals as goal

pub returns-clause-distinct : goal.returns-clause-distinct
returns-clause-distinct c =
    subst (λ (it : Topped). AreDistinct it.design.modules) c.self.view_is c.self.invariant.distinct

pub returns-clause-place : goal.returns-clause-place
returns-clause-place c =
    let P : Topped → Type 0 = λ it. place_in c.self.inside.places c.args.name.now ≡ place_among it.design.modules c.args.name.now in
    c.get.ensures ∙ subst P c.self.view_is
    (place_is c.self.inside.design.now c.self.inside.top (place_in c.self.inside.places) c.self.inside.reach c.self.invariant c.args.name.now)

pub returns-clause-named : goal.returns-clause-named
returns-clause-named c =
    let P : Topped → Type 0 =
    λ it. option_and_then (slice_get it.design.modules) (place_in c.self.inside.places c.args.name.now) ≡ module_named it.design c.args.name.now in
    ap (option_and_then (slice_get c.args.self.now.design.modules)) c.get.ensures ∙ subst P c.self.view_is
    (module_is c.self.inside.design.now c.self.inside.top (place_in c.self.inside.places) c.self.inside.reach c.self.invariant c.args.name.now)

pub returns-clause-within : goal.returns-clause-within
returns-clause-within c =
    let P : Topped → Type 0 = λ it. IfSome (place_in c.self.inside.places c.args.name.now) (λ place. place < length it.design.modules) in
    subst (λ (o : Option ℕ). IfSome o (λ place. place < length c.args.self.now.design.modules)) (sym c.get.ensures)
    (subst P c.self.view_is (place_below c.self.inside.design.now c.self.inside.top (place_in c.self.inside.places) c.self.inside.reach c.self.invariant c.args.name.now))
