use Rattle.std.proofs.Common.{◌≡◌, ◌++◌, drop, map}
use Rattle.driver_rules.specs.Doubles.{left_assigned}
use Rattle.driver_rules.specs.Groups.{joined}
use Rattle.driver_rules.specs.Selects.{AreNumbered, shown}
use Rattle.driver_rules.proofs.assigned.+lefts.Given as goal

-- What is there, and then what is left, is what was there, and then all.
abbrev pub invariant-add_lefts-loop-left : goal.invariant-add_lefts-loop-left
invariant-add_lefts-loop-left l = record {
  same : shown l.selects ++ joined (map (left_assigned l.nets) (drop l.left-index l.lefts)) ≡ shown l.initial.selects ++ joined (map (left_assigned l.nets) l.lefts);
  numbered : AreNumbered l.nets l.initial.selects → AreNumbered l.nets l.selects;
}
