use Rattle.std.proofs.Common.{◌≡◌, ℕ, [], get_or, length, map, vec_items}
use Rattle.clock_sets.proofs.graph.empty_graph.Given as goal

abbrev pub invariant-loop-place : goal.invariant-loop-place
invariant-loop-place l = record {
  len : length l.graph.items ≡ l._place;
  empty : (from : ℕ) → get_or (map vec_items l.graph.items) from [] ≡ [];
}
