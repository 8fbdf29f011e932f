use Rattle.std.proofs.Common.{◌<◌, length, get_or, arith, ap, ◌∙◌}
use Rattle.hierarchy.proofs.MarkLemmas.{has-at, visits_kept, visits_turn}
use Rattle.hierarchy.proofs.search.visit.Goals as goal
use Rattle.hierarchy.proofs.search.visit.Goals.{then-not-marks-place+in_ok-push, else-not-marks-place}

pub bounds-marks-place : goal.bounds-marks-place
bounds-marks-place c =
    let h = c.requires _ (has-at c.args.places.now c.loop-place.place-index c.loop-place-test.true) in
    omega arith

pub bounds-marks-place-then-not-marks-place : goal.bounds-marks-place-then-not-marks-place
bounds-marks-place-then-not-marks-place c =
    let h = c.requires _ (has-at c.args.places.now c.loop-place.place-index c.loop-place-test.true) in
    omega arith

pub loop-place-preserved : goal.loop-place-preserved
loop-place-preserved c =
    let h = c.requires _ (has-at c.args.places.now c.loop-place.place-index c.loop-place-test.true) in
    let within : get_or c.args.places.now c.loop-place.place-index 0 < length c.loop-place.marks = omega arith in
    elim c.if-not-marks-place.branch [
      | then-not-marks-place+in_ok-push w ↦
          visits_turn c.args.places.now c.args.marks.now c.args.to_visit.now.items c.loop-place.marks c.loop-place.to_visit.items c.loop-place.place-index
          c.if-not-marks-place.marks c.if-not-marks-place.to_visit.items c.loop-place-test.true within
          w.if-not-marks-place.true c.loop-place.invariant w.marks-is (ap (λ v. v.items) w.to_visit-is ∙ w.in_ok-push.ensures.items)
      | else-not-marks-place w ↦
          visits_kept c.args.places.now c.args.marks.now c.args.to_visit.now.items c.loop-place.marks c.loop-place.to_visit.items c.loop-place.place-index
          c.if-not-marks-place.marks c.if-not-marks-place.to_visit.items c.loop-place-test.true
          w.if-not-marks-place.false c.loop-place.invariant w.marks-is (ap (λ v. v.items) w.to_visit-is)
    ]
