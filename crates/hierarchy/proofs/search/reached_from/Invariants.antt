use Rattle.std.proofs.Common.{◌+◌, ◌-◌, ◌*◌, length, map, vec_items}
use Rattle.hierarchy.specs.Marks.{count_marks}
use Rattle.hierarchy.proofs.GraphLemmas.{Searched}
use Rattle.hierarchy.proofs.search.reached_from.Given as goal

abbrev pub invariant-loop-place : goal.invariant-loop-place
invariant-loop-place l = Searched (map vec_items l.graph) l.start l.marks.items l.to_visit.items

abbrev pub decreases-loop-place : goal.decreases-loop-place
decreases-loop-place l = length l.to_visit.items + 2 * (length l.marks.items - count_marks l.marks.items)
