use Rattle.std.proofs.Common.{◌≡◌, fold, drop}
use Rattle.hierarchy.specs.Failures.{earlier, earliest}
use Rattle.hierarchy.specs.Graph.{bad_items_from}
use Rattle.hierarchy.specs.Places.{place_in}
use Rattle.hierarchy.proofs.instances.first_bad.Given as goal

abbrev pub invariant-loop-place : goal.invariant-loop-place
invariant-loop-place l =
    fold earlier l.found (bad_items_from l.reach (place_in l.places) l.place (drop l.place l.modules)) ≡ earliest (bad_items_from l.reach (place_in l.places) 0 l.modules)
