use Rattle.std.proofs.Common.{◌≡◌, ◌++◌, drop, map}
use Rattle.driver_rules.specs.Doubles.{target_assigned}
use Rattle.driver_rules.specs.Groups.{joined}
use Rattle.driver_rules.specs.Selects.{AreNumbered, shown}
use Rattle.driver_rules.proofs.assigned.+targets.Given as goal

-- What is there, and then what is left, is what was there, and then all.
abbrev pub invariant-add_targets-loop-part : goal.invariant-add_targets-loop-part
invariant-add_targets-loop-part l = record {
  same : shown l.selects ++ joined (map (target_assigned l.nets) (drop l.part-index l.parts)) ≡ shown l.initial.selects ++ joined (map (target_assigned l.nets) l.parts);
  numbered : AreNumbered l.nets l.initial.selects → AreNumbered l.nets l.selects;
}
