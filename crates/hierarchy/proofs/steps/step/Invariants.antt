use Rattle.std.proofs.Common.{map, vec_items}
use Rattle.hierarchy.proofs.GraphLemmas.{Stepped}
use Rattle.hierarchy.proofs.steps.step.Given as goal

abbrev pub invariant-loop-place : goal.invariant-loop-place
invariant-loop-place l = Stepped (map vec_items l.graph) l.marks l.place l.next.items
