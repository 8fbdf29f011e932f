use Rattle.std.proofs.Common.{◌≡◌, ◌++◌, drop, map}
use Rattle.clock_sets.specs.Steps.{turned}
use Rattle.clock_sets.proofs.steps.turned.Given as goal

abbrev pub invariant-loop-step : goal.invariant-loop-step
invariant-loop-step l = record {
  same : l.others ++ map turned (drop l.step-index l.steps) ≡ map turned l.steps;
}
