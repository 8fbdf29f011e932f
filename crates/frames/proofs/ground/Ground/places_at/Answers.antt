use Rattle.std.proofs.Common.{◌≡◌, ◌<◌, ap, length, ◌∙◌, sym, subst, Some, slice_get, refl}
use Rattle.bm_base.specs.Size.{limit_of}
use Rattle.bm_base.specs.declared.size.Size.TheVariants.{Nodes}
use Rattle.vlog_tree.specs.Meaning.Instances.{Instance, instances}
use Rattle.numbering.specs.Numbering.{first_of_expressions}
use Rattle.frames.specs.Found.{placing_for}
use Rattle.frames.specs.Numbered.{Numbered, setting_with}
use Rattle.frames.proofs.GroundLemmas.{counted, placed_so, too_many_bits}
use Rattle.frames.proofs.ground.Ground.places_at.Goals as goal

pub module_at-m-requires : goal.module_at-m-requires
module_at-m-requires c =
    subst (λ n. c.args.place < n)
    (sym (counted _ c.self.inside.instances c.self.inside.places c.self.invariant
    ∙ ap (λ it. length (instances (setting_with it))) c.self.view_is))
    c.requires

pub returns-in-Some-clause-places : goal.returns-in-Some-clause-places
returns-in-Some-clause-places c =
    let P : Numbered → Type 0 = λ it. (instance : Instance) → slice_get (instances (setting_with it)) c.args.place ≡ Some instance
    → c.in-Some.places ≡ placing_for it instance in
    subst P c.self.view_is
    (placed_so _ c.self.inside.instances c.self.inside.places c.self.invariant c.args.place c.module_at-m.result c.index-as_slice-m.result
    c.as_slice.result.now (c.module_at-m.ensures.within _ c.self.invariant.within)
    (c.module_at-m.ensures.definition _ _ c.self.invariant.shapes) c.as_slice.ensures c.index-as_slice-m.is c.in-Some.places c.in-Some.is)

pub returns-in-None-clause-fault : goal.returns-in-None-clause-fault
returns-in-None-clause-fault c =
    let P : Numbered → Type 0 = λ it. c.args.place < length (instances (setting_with it)) → limit_of Nodes < first_of_expressions (setting_with it) in (
      refl,
      subst P c.self.view_is
          (too_many_bits _ c.self.inside.instances c.self.inside.places c.self.invariant c.args.place c.module_at-m.result c.index-as_slice-m.result
          c.as_slice.result.now (c.module_at-m.ensures.within _ c.self.invariant.within)
          (c.module_at-m.ensures.definition _ _ c.self.invariant.shapes) c.as_slice.ensures c.index-as_slice-m.is c.in-None.is) c.requires,
    )

pub returns-in-None-clause-large : goal.returns-in-None-clause-large
returns-in-None-clause-large c =
    let P : Numbered → Type 0 = λ it. c.args.place < length (instances (setting_with it)) → limit_of Nodes < first_of_expressions (setting_with it) in
    subst P c.self.view_is
    (too_many_bits _ c.self.inside.instances c.self.inside.places c.self.invariant c.args.place c.module_at-m.result c.index-as_slice-m.result
    c.as_slice.result.now (c.module_at-m.ensures.within _ c.self.invariant.within)
    (c.module_at-m.ensures.definition _ _ c.self.invariant.shapes) c.as_slice.ensures c.index-as_slice-m.is c.in-None.is) c.requires
