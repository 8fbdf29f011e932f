use Rattle.std.proofs.Common.{◌≡◌, [], drop, filter, flat_map, fold}
use Rattle.hierarchy.specs.Reach.{reaches}
use Rattle.clock_sets.specs.Numbers.{number_of}
use Rattle.clock_sets.specs.Passing.{passes, passes_in}
use Rattle.clock_sets.specs.Steps.{with_pass}
use Rattle.clock_sets.proofs.passes.steps_of.Given as goal

abbrev pub invariant-loop-place : goal.invariant-loop-place
invariant-loop-place l = record {
  same : fold (with_pass (number_of l.numbers.design.modules)) l.steps
      (flat_map (λ m. flat_map (passes_in l.numbers.design m) m.items) (filter (λ m. reaches l.numbers.design l.numbers.top m.name) (drop l.place l.numbers.design.modules)))
      ≡ fold (with_pass (number_of l.numbers.design.modules)) [] (passes l.numbers.design l.numbers.top);
}
