use Rattle.std.proofs.Common.{map, vec_items, sym, ap, ◌∙◌, length}
use Rattle.std.proofs.lemmas.List.{length-map}
use Rattle.hierarchy.specs.Graph.{is_stepped_to}
use Rattle.hierarchy.proofs.GraphLemmas.{stepped_walks_more}
use Rattle.hierarchy.proofs.steps.ends_of_paths.Goals as goal

pub loop-step-preserved : goal.loop-step-preserved
loop-step-preserved c = record {
  len = c.in_ok-marks-2.ensures.len;
  marks = λ place h.
      c.in_ok-marks-2.ensures.marks place
      ∙ ap (λ marks. is_stepped_to (map vec_items c.args.graph.now) marks (length c.args.graph.now) place) c.deref.ensures.value
      ∙ stepped_walks_more (map vec_items c.args.graph.now) c.loop-step.marks.items c.args.start c.loop-step._step (length c.args.graph.now) place
      (sym (length-map c.args.graph.now vec_items)) c.loop-step.invariant.marks;
}
