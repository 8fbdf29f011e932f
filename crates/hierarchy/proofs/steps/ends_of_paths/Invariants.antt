use Rattle.std.proofs.Common.{◌≡◌, ◌<◌, ℕ, length, map, vec_items}
use Rattle.hierarchy.specs.Graph.{is_marked, walks}
use Rattle.hierarchy.proofs.steps.ends_of_paths.Given as goal

abbrev pub invariant-loop-step : goal.invariant-loop-step
invariant-loop-step l = record {
  len : length l.marks.items ≡ length l.graph;
  marks : (place : ℕ) → place < length l.graph → is_marked l.marks.items place ≡ walks (map vec_items l.graph) l._step l.start place;
}
