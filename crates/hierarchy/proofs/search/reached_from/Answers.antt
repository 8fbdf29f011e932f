use Rattle.std.proofs.Common.{map, vec_items, arith, rules, sym, ◌∙◌}
use Rattle.hierarchy.proofs.GraphLemmas.{popped_ahead, popped_place, popped_visit, searched_all, visit_within}
use Rattle.hierarchy.proofs.search.reached_from.Goals as goal

pub bounds-graph-place : goal.bounds-graph-place
bounds-graph-place c =
    popped_place vec_items c.args.graph.now c.args.start c.loop-place.marks.items c.loop-place.to_visit.items c.pop.new.self.items c.in-Some.place
    c.in-Some.ensures.items c.loop-place.invariant

pub offset_bounds-graph-place : goal.offset_bounds-graph-place
offset_bounds-graph-place c =
    let within =
    popped_place vec_items c.args.graph.now c.args.start c.loop-place.marks.items c.loop-place.to_visit.items c.pop.new.self.items c.in-Some.place
    c.in-Some.ensures.items c.loop-place.invariant in
    search rules

pub visit-requires : goal.visit-requires
visit-requires c =
    let ahead =
    popped_ahead vec_items c.args.graph.now c.args.start c.loop-place.marks.items c.loop-place.to_visit.items c.pop.new.self.items c.in-Some.place
    c.in-Some.ensures.items c.loop-place.invariant c.index-graph-place.result c.index-graph-place.is in
    visit_within (map vec_items c.args.graph.now) c.args.start c.loop-place.marks.items c.loop-place.to_visit.items c.in-Some.place
    c.requires.closed c.loop-place.invariant c.deref.result.now (c.deref.ensures.value ∙ sym ahead) c.deref_mut.result.now c.deref_mut.ensures.value

pub loop-place-preserved : goal.loop-place-preserved
loop-place-preserved c =
    popped_visit vec_items c.args.graph.now c.args.start c.loop-place.marks.items c.loop-place.to_visit.items c.pop.new.self.items c.in-Some.place
    c.in-Some.ensures.items c.loop-place.invariant c.index-graph-place.result c.index-graph-place.is c.deref.result.now c.deref.ensures.value
    c.deref_mut.result.now c.deref_mut.ensures.value c.visit.new.marks c.visit.new.to_visit.items c.in_ok-visit.ensures
    c.loop-place.marks.len c.loop-place.marks.ok.0

pub returns-clause-marks : goal.returns-clause-marks
returns-clause-marks c = λ place h.
    searched_all (map vec_items c.args.graph.now) c.args.start c.loop-place.marks.items c.loop-place.to_visit.items
    (omega (arith, c.in_default.ensures.cases, c.loop-place.to_visit.ok.0)) c.loop-place.invariant place
