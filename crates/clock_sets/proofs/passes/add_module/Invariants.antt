use Rattle.std.proofs.Common.{◌≡◌, drop, flat_map, fold}
use Rattle.clock_sets.specs.Numbers.{number_of}
use Rattle.clock_sets.specs.Passing.{passes_in}
use Rattle.clock_sets.specs.Steps.{with_pass}
use Rattle.clock_sets.proofs.passes.add_module.Given as goal

abbrev pub invariant-loop-item : goal.invariant-loop-item
invariant-loop-item l = record {
  same : fold (with_pass (number_of l.numbers.design.modules)) l.steps (flat_map (passes_in l.numbers.design l.nets) (drop l.item-index l.items))
      ≡ fold (with_pass (number_of l.numbers.design.modules)) l.initial.steps (flat_map (passes_in l.numbers.design l.nets) l.items);
}
