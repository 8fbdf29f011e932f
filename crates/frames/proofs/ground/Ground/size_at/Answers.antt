use Rattle.std.proofs.Common.{◌≡◌, ◌<◌, ◌≤◌, ◌+◌, ap, arith, length, ◌∙◌, sym, subst, Some}
use Rattle.instances.specs.Shapes.{shapes_from, size_at}
use Rattle.vlog_tree.specs.declared.design.Module.{Module}
use Rattle.vlog_tree.specs.Meaning.Instances.{greatest_depth, instances, top_module}
use Rattle.frames.specs.Numbered.{Numbered, setting_with}
use Rattle.frames.proofs.GroundLemmas.{counted, shaped_by, sized_within}
use Rattle.frames.proofs.ground.Ground.size_at.Goals as goal

pub size_at-requires : goal.size_at-requires
size_at-requires c =
    subst (λ n. c.args.place < n)
    (sym (counted _ c.self.inside.instances c.self.inside.places c.self.invariant
    ∙ ap (λ it. length (instances (setting_with it))) c.self.view_is))
    c.requires

pub returns-clause-size : goal.returns-clause-size
returns-clause-size c =
    let P : Numbered → Type 0 = λ it. (m : Module) → top_module (setting_with it) ≡ Some m
    → c.size_at.result ≡ size_at (shapes_from it.design greatest_depth m) c.args.place in
    subst P c.self.view_is
    (λ m top. c.size_at.ensures.size _ _ (shaped_by _ c.self.inside.instances c.self.inside.places c.self.invariant m top))

pub returns-clause-within : goal.returns-clause-within
returns-clause-within c =
    let P : Numbered → Type 0 = λ it. c.args.place < length (instances (setting_with it))
    → c.args.place + c.size_at.result ≤ length (instances (setting_with it)) in
    subst P c.self.view_is
    (sized_within _ c.self.inside.instances c.self.inside.places c.self.invariant c.args.place c.size_at.result
    (c.size_at.ensures.size _ _ c.self.invariant.shapes))
    c.requires

pub returns-clause-limited : goal.returns-clause-limited
returns-clause-limited c =
    let few = sized_within _ c.self.inside.instances c.self.inside.places c.self.invariant c.args.place c.size_at.result
    (c.size_at.ensures.size _ _ c.self.invariant.shapes)
    (subst (λ it. c.args.place < length (instances (setting_with it))) (sym c.self.view_is) c.requires) in
    let many = counted _ c.self.inside.instances c.self.inside.places c.self.invariant in
    let limit = c.self.invariant.limited in
    omega (arith, few, many, limit)
