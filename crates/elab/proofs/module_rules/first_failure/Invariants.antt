use Rattle.std.proofs.Common.{◌≡◌, drop, filter, flat_map, fold}
use Rattle.hierarchy.specs.Failures.{earlier, earliest}
use Rattle.elab.specs.ModuleRules.{failures_of}
use Rattle.elab.specs.Refusals.{in_reached, is_reached}
use Rattle.elab.proofs.module_rules.first_failure.Given as goal

abbrev pub invariant-loop-place : goal.invariant-loop-place
invariant-loop-place l = record {
  same : fold earlier l.found (flat_map (failures_of l.rule l.design.design) (filter (is_reached l.design.design l.design.top) (drop l.place l.design.design.modules)))
      ≡ earliest (in_reached l.design.design l.design.top (failures_of l.rule l.design.design));
}
