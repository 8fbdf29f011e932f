use Rattle.std.proofs.Common.{◌≡◌, ◌<◌, ◌+◌, ℕ, Some, arith, length, option_map, slice_get, subst, sym}
use Rattle.vlog_tree.specs.Meaning.Instances.{Instance, instances}
use Rattle.vlog_tree.specs.Meaning.Uses.{Text}
use Rattle.numbering.specs.Numbering.{driven_keys, key_in, wires_in}
use Rattle.numbering.specs.Numbers.{place_of}
use Rattle.numbering.specs.Places.{placed_driven}
use Rattle.vlog_tree.specs.Meaning.Lefts.{Bit, number_in}
use Rattle.frames.specs.Framed.{wires_of}
use Rattle.frames.specs.Numbered.{Numbered, setting_with}
use Rattle.frames.proofs.AtLemmas.{frame_driven, frame_inside, frame_wires, start_there}
use Rattle.frames.proofs.frames.Frames.at.Goals as goal

pub bounds-as_slice-place : goal.bounds-as_slice-place
bounds-as_slice-place c =
    start_there c.self.inside.ground _ _ _ c.self.invariant c.args.place
    (subst (λ it. c.args.place < length (instances (setting_with it))) (sym c.self.view_is) c.requires) c.as_slice.result.now c.as_slice.ensures

pub offset_bounds-as_slice-place : goal.offset_bounds-as_slice-place
offset_bounds-as_slice-place c =
    let few = start_there c.self.inside.ground _ _ _ c.self.invariant c.args.place
    (subst (λ it. c.args.place < length (instances (setting_with it))) (sym c.self.view_is) c.requires) c.as_slice.result.now c.as_slice.ensures in
    omega (arith, few, c.as_slice.type_inv.1)

pub of-requires : goal.of-requires
of-requires c =
    frame_inside c.self.inside.ground _ _ _ c.self.invariant c.args.place
    (subst (λ it. c.args.place < length (instances (setting_with it))) (sym c.self.view_is) c.requires) c.as_slice.result.now c.as_slice.ensures
    c.in-Ok.places.now c.in-Ok.ensures.places

pub unreachable-requires : goal.unreachable-requires
unreachable-requires c =
    let large = c.in-Err.ensures.large in
    let small = c.self.invariant.starts.within in
    omega (arith, large, small)

pub returns-clause-wires : goal.returns-clause-wires
returns-clause-wires c =
    let P : Numbered → Type 0 = λ it. (instance : Instance) → slice_get (instances (setting_with it)) c.args.place ≡ Some instance
    → (name : Text) (bit : ℕ) → wires_of c.of.result name bit ≡ wires_in (setting_with it) instance.path name bit in
    subst P c.self.view_is
    (frame_wires c.self.inside.ground _ _ _ c.self.invariant c.args.place
    (subst (λ it. c.args.place < length (instances (setting_with it))) (sym c.self.view_is) c.requires) c.as_slice.result.now c.as_slice.ensures
    c.in-Ok.places.now c.in-Ok.ensures.places c.of.result c.of.ensures)

pub returns-clause-driven : goal.returns-clause-driven
returns-clause-driven c =
    let P : Numbered → Type 0 = λ it. (instance : Instance) → slice_get (instances (setting_with it)) c.args.place ≡ Some instance
    → (bit : Bit) → place_of (driven_keys (setting_with it)) (key_in instance.path bit)
    ≡ option_map (λ number. c.of.result.first_driven + number) (number_in (placed_driven c.of.result.placing) bit) in
    subst P c.self.view_is
    (frame_driven c.self.inside.ground _ _ _ c.self.invariant c.args.place
    (subst (λ it. c.args.place < length (instances (setting_with it))) (sym c.self.view_is) c.requires) c.as_slice.result.now c.as_slice.ensures
    c.in-Ok.places.now c.in-Ok.ensures.places c.of.result c.of.ensures)
