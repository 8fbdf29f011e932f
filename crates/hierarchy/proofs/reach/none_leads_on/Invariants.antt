use Rattle.std.proofs.Common.{◌≡◌, ◌<◌, ℕ, true, map, vec_items}
use Rattle.hierarchy.specs.Graph.{ahead, has, is_marked}
use Rattle.hierarchy.proofs.reach.none_leads_on.Given as goal

abbrev pub invariant-loop-place : goal.invariant-loop-place
invariant-loop-place l =
    (from to : ℕ) → from < l.place → is_marked l.marks from ≡ true → has (ahead (map vec_items l.graph) from) to ≡ true → ⊥
