use Rattle.std.proofs.Common.{◌≡◌, ◌||◌, ℕ, take}
use Rattle.hierarchy.specs.Graph.{has, is_marked}
use Rattle.hierarchy.proofs.steps.mark.Given as goal

abbrev pub invariant-loop-place : goal.invariant-loop-place
invariant-loop-place l =
    (place : ℕ) → is_marked l.marks place ≡ (is_marked l.initial.marks place || has (take l.place-index l.places) place)
