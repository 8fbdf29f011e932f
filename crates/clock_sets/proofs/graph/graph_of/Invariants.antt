use Rattle.std.proofs.Common.{map, take, vec_items}
use Rattle.clock_sets.specs.Steps.{IsGraph}
use Rattle.clock_sets.proofs.graph.graph_of.Given as goal

abbrev pub invariant-loop-step : goal.invariant-loop-step
invariant-loop-step l = record {
  graph_is : IsGraph l.count (take l.step-index l.steps) l.starts (map vec_items l.graph.items);
}
