use Rattle.std.proofs.Common.{◌≡◌, drop, flat_map, fold}
use Rattle.clock_sets.specs.Numbers.{number_of}
use Rattle.clock_sets.specs.Sets.{edge_in}
use Rattle.clock_sets.specs.Steps.{with_signal}
use Rattle.clock_sets.proofs.edges.add_module.Given as goal

abbrev pub invariant-loop-item : goal.invariant-loop-item
invariant-loop-item l = record {
  same : fold (with_signal (number_of l.numbers.design.modules)) l.found (flat_map (edge_in l.nets) (drop l.item-index l.items))
      ≡ fold (with_signal (number_of l.numbers.design.modules)) l.initial.found (flat_map (edge_in l.nets) l.items);
}
