use Rattle.std.proofs.Common.{◌≡◌, ◌++◌, drop, flat_map}
use Rattle.std.specs.List.{enumerate_from}
use Rattle.driver_rules.specs.Groups.{link_assigned}
use Rattle.driver_rules.specs.Selects.{AreNumbered, shown}
use Rattle.driver_rules.proofs.outputs.add_links.Given as goal

-- What is there, and then what is left, is what was there, and then all.
abbrev pub invariant-loop-place : goal.invariant-loop-place
invariant-loop-place l = record {
  same : shown l.selects ++ flat_map (link_assigned l.nets l.inner) (enumerate_from l.place (drop l.place l.links)) ≡ shown l.initial.selects ++ flat_map (link_assigned l.nets l.inner) (enumerate_from 0 l.links);
  numbered : AreNumbered l.nets l.initial.selects → AreNumbered l.nets l.selects;
}
