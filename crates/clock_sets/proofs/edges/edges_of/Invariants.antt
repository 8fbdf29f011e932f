use Rattle.std.proofs.Common.{◌≡◌, [], drop, filter, flat_map, fold}
use Rattle.hierarchy.specs.Reach.{reaches}
use Rattle.clock_sets.specs.Numbers.{number_of}
use Rattle.clock_sets.specs.Sets.{edge_in, edges}
use Rattle.clock_sets.specs.Steps.{with_signal}
use Rattle.clock_sets.proofs.edges.edges_of.Given as goal

abbrev pub invariant-loop-place : goal.invariant-loop-place
invariant-loop-place l = record {
  same : fold (with_signal (number_of l.numbers.design.modules)) l.found
      (flat_map (λ m. flat_map (edge_in m) m.items) (filter (λ m. reaches l.numbers.design l.numbers.top m.name) (drop l.place l.numbers.design.modules)))
      ≡ fold (with_signal (number_of l.numbers.design.modules)) [] (edges l.numbers.design l.numbers.top);
}
