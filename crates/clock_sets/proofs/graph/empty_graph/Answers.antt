use Rattle.std.proofs.Common.{ap, length, length-append, ◌∙◌, ◌+◌, vec_items}
use Rattle.clock_sets.proofs.EdgeLemmas.{empty_more}
use Rattle.clock_sets.proofs.graph.empty_graph.Goals as goal

pub loop-place-preserved : goal.loop-place-preserved
loop-place-preserved c = record {
  len = ap length c.in_ok-push.ensures.items ∙ length-append c.loop-place.graph.items _ ∙ ap (λ n. n + 1) c.loop-place.invariant.len;
  empty = empty_more vec_items c.loop-place.graph.items c.push.new.self.items c.new.result c.in_ok-push.ensures.items c.new.ensures.items c.loop-place.invariant.empty;
}
