use Rattle.std.proofs.Common.{◌≡◌, ◌≢◌, true, map, vec_items, arith, sym, subst, ◌∙◌, nat_eq, inl, inr}
use Rattle.std.proofs.lemmas.Bool.{cases_Bool, eqb-true, eqb-false, false≢true}
use Rattle.hierarchy.specs.Graph.{ahead, has, is_marked}
use Rattle.hierarchy.proofs.GraphLemmas.{marked_within, none_ahead}
use Rattle.hierarchy.proofs.reach.none_leads_on.Goals as goal
use Rattle.hierarchy.proofs.reach.none_leads_on.Goals.{else-marks-place-via-then-marks-place+else-not-is_empty, else-marks-place-via-else-marks-place}

pub returns : goal.returns
returns c = λ _ from to marked edge.
    let within = marked_within c.args.marks.now from marked in
    c.loop-place.invariant from to (omega arith) marked edge

pub loop-place-preserved : goal.loop-place-preserved
loop-place-preserved c = λ from to h marked edge.
    elim (cases_Bool (nat_eq from c.loop-place.place)) [
      | inl same ↦
          let here : from ≡ c.loop-place.place = eqb-true from c.loop-place.place same in
          elim c.else-marks-place.branch [
            | else-marks-place-via-then-marks-place+else-not-is_empty w ↦
                let none = none_ahead vec_items c.args.graph.now c.loop-place.place c.index-graph-place.result c.loop-place-test.true c.index-graph-place.is (omega (arith, eqb-true _ 0 (sym w.is_empty.ensures ∙ w.if-not-is_empty.false), c.index-graph-place.result.ok.0)) to in
                false≢true (sym none ∙ subst (λ p. has (ahead (map vec_items c.args.graph.now) p) to ≡ true) here edge)
            | else-marks-place-via-else-marks-place w ↦
                false≢true (sym w.if-marks-place.false ∙ subst (λ p. is_marked c.args.marks.now p ≡ true) here marked)
          ]
      | inr other ↦
          let ne : from ≢ c.loop-place.place = eqb-false from c.loop-place.place other in
          c.loop-place.invariant from to (omega arith) marked edge
    ]
