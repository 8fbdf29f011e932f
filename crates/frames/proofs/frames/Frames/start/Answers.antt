use Rattle.std.proofs.Common.{◌<◌, ap, arith, length, subst, sym, ◌∙◌}
use Rattle.vlog_tree.specs.Meaning.Instances.{instances}
use Rattle.frames.specs.Numbered.{setting_with}
use Rattle.frames.specs.Standing.{start_at}
use Rattle.frames.proofs.AtLemmas.{start_is, start_there}
use Rattle.frames.proofs.frames.Frames.start.Goals as goal

pub bounds-as_slice-place : goal.bounds-as_slice-place
bounds-as_slice-place c =
    start_there c.self.inside.ground _ _ _ c.self.invariant c.args.place
    (subst (λ it. c.args.place < length (instances (setting_with it))) (sym c.self.view_is) c.requires) c.as_slice.result.now c.as_slice.ensures

pub offset_bounds-as_slice-place : goal.offset_bounds-as_slice-place
offset_bounds-as_slice-place c =
    let few = start_there c.self.inside.ground _ _ _ c.self.invariant c.args.place
    (subst (λ it. c.args.place < length (instances (setting_with it))) (sym c.self.view_is) c.requires) c.as_slice.result.now c.as_slice.ensures in
    omega (arith, few, c.as_slice.type_inv.1)

pub returns : goal.returns
returns c =
    start_is c.self.inside.ground _ _ _ c.self.invariant c.args.place
    (subst (λ it. c.args.place < length (instances (setting_with it))) (sym c.self.view_is) c.requires) c.as_slice.result.now c.as_slice.ensures
    ∙ ap (λ it. start_at (instances (setting_with it)) c.args.place) c.self.view_is
