use Rattle.std.proofs.Common.{◌≡◌, drop, flat_map, fold}
use Rattle.std.specs.List.{enumerate_from}
use Rattle.clock_sets.specs.Numbers.{number_of}
use Rattle.clock_sets.specs.Steps.{link_passes, with_pass}
use Rattle.clock_sets.proofs.passes.add_instance.Given as goal

abbrev pub invariant-loop-place : goal.invariant-loop-place
invariant-loop-place l = record {
  same : fold (with_pass (number_of l.numbers.design.modules)) l.steps (flat_map (link_passes l.nets l.inner) (enumerate_from l.place (drop l.place l.links)))
      ≡ fold (with_pass (number_of l.numbers.design.modules)) l.initial.steps (flat_map (link_passes l.nets l.inner) (enumerate_from 0 l.links));
}
