use Rattle.std.proofs.Common.{map, vec_items}
use Rattle.clock_sets.specs.Steps.{step}
use Rattle.clock_sets.proofs.EdgeLemmas.{graph_read, graph_started}
use Rattle.clock_sets.proofs.graph.graph_of.Goals as goal

pub loop-step-init : goal.loop-step-init
loop-step-init c = record {
  graph_is = graph_started vec_items c.args.count c.args.starts.now c.in_ok-graph.graph.items c.push.new.self.items c.in_ok-from_slice.field-0
      c.in_ok-push.ensures.items c.in_ok-from_slice.ensures.items c.in_ok-graph.ensures.len c.in_ok-graph.ensures.empty;
}

pub loop-step-preserved : goal.loop-step-preserved
loop-step-preserved c = record {
  graph_is = graph_read c.args.count c.args.steps.now c.args.starts.now (map vec_items c.loop-step.graph.items) (map vec_items c.add_edge.new.graph.items)
      c.loop-step.step-index (step 0 0) c.loop-step-test.true c.requires c.loop-step.invariant.graph_is c.in_ok-add_edge.ensures;
}
