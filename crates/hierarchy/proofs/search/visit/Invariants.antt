use Rattle.std.proofs.Common.{take}
use Rattle.hierarchy.specs.Marks.{Visits}
use Rattle.hierarchy.proofs.search.visit.Given as goal

abbrev pub invariant-loop-place : goal.invariant-loop-place
invariant-loop-place l =
    Visits (take l.place-index l.places) l.initial.marks l.initial.to_visit.items l.marks l.to_visit.items
