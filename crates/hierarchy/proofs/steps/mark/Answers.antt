use Rattle.std.proofs.Common.{◌||◌, arith, ap, ◌∙◌}
use Rattle.std.proofs.lemmas.List.{take_all}
use Rattle.hierarchy.specs.Graph.{has, is_marked}
use Rattle.hierarchy.proofs.MarkLemmas.{has-at, marked_more}
use Rattle.hierarchy.proofs.steps.mark.Goals as goal

pub bounds-marks-place : goal.bounds-marks-place
bounds-marks-place c =
    let h = c.requires _ (has-at c.args.places.now c.loop-place.place-index c.loop-place-test.true) in
    omega arith

pub loop-place-preserved : goal.loop-place-preserved
loop-place-preserved c =
    let h = c.requires _ (has-at c.args.places.now c.loop-place.place-index c.loop-place-test.true) in
    marked_more c.args.places.now c.args.marks.now c.loop-place.marks c.loop-place.place-index c.loop-place-test.true (omega arith) c.loop-place.invariant

pub returns : goal.returns
returns c = λ place.
    c.loop-place.invariant place
    ∙ ap (λ xs. is_marked c.args.marks.now place || has xs place) (take_all c.loop-place.place-index c.args.places.now c.loop-place-test.false)
