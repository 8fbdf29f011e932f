use Rattle.std.proofs.Common.{map, vec_items, sym, subst, ap, ◌∙◌, ◌≡◌, ◌<◌, true, length}
use Rattle.hierarchy.specs.Graph.{has}
use Rattle.hierarchy.proofs.GraphLemmas.{ahead_is, stepped_turn, stepped_skip}
use Rattle.hierarchy.proofs.steps.step.Goals as goal
use Rattle.hierarchy.proofs.steps.step.Goals.{then-marks-place, else-marks-place}

pub mark-requires : goal.mark-requires
mark-requires c = λ place h.
    let edges = ahead_is vec_items c.args.graph.now c.loop-place.place c.index-graph-place.result c.loop-place-test.true c.index-graph-place.is in
    let within = c.requires.closed c.loop-place.place place (subst (λ ps. has ps place ≡ true) (c.deref.ensures.value ∙ sym edges) h) in
    subst (λ n. place < n) (sym c.loop-place.invariant.len ∙ ap length (sym c.deref_mut.ensures.value)) within

pub loop-place-preserved : goal.loop-place-preserved
loop-place-preserved c =
    let graph = map vec_items c.args.graph.now in
    let edges = ahead_is vec_items c.args.graph.now c.loop-place.place c.index-graph-place.result c.loop-place-test.true c.index-graph-place.is in
    elim c.if-marks-place.branch [
      | then-marks-place w ↦
          stepped_turn graph c.args.marks.now c.loop-place.place c.loop-place.next.items w.deref_mut.result.now w.mark.new.marks w.deref.result.now
          c.loop-place.invariant w.if-marks-place.true (w.deref.ensures.value ∙ sym edges) w.deref_mut.ensures.value w.mark.auto.marks w.mark.ensures
          c.loop-place.next.len c.loop-place.next.ok.0 c.if-marks-place.next.items (ap (λ v. v.items) w.next-is)
      | else-marks-place w ↦
          stepped_skip graph c.args.marks.now c.loop-place.place c.loop-place.next.items c.if-marks-place.next.items c.loop-place.invariant
          w.if-marks-place.false (ap (λ v. v.items) w.next-is)
    ]
