-- Lists of failures that are noted one after another.
use Rattle.std.specs.Prelude.{◌≡◌, List, ◌++◌, Option, flat_map, fold, map}
use Rattle.std.proofs.Common.{ap, sym, ◌∙◌}
use Rattle.std.proofs.lemmas.List.Folds.{flat_map-map}
use Rattle.std.proofs.lemmas.List.Sums.{fold-append}
use Rattle.hierarchy.specs.Failures.{Failure, earlier}
use Rattle.width_rules.specs.Widths.{Shape, failures_of}

abbrev Found : Type 0
Found = Option Failure

-- what shapes have inside, one thing's after another's
pub each_noted : {X Y : Type 0} (first : X → Shape) (second : Y → Shape) (xs : List X) (ys : List Y) (before middle after : Found)
    → middle ≡ fold earlier before (failures_of (map first xs)) → after ≡ fold earlier middle (failures_of (map second ys))
    → after ≡ fold earlier before (flat_map (λ x. (first x).failures) xs ++ flat_map (λ y. (second y).failures) ys)
each_noted first second xs ys before middle after h k =
    k
    ∙ (ap (λ found. fold earlier found (failures_of (map second ys))) h
    ∙ (ap (λ failures. fold earlier (fold earlier before failures) (failures_of (map second ys))) (flat_map-map (λ (part : Shape). part.failures) first xs)
    ∙ (ap (fold earlier (fold earlier before (flat_map (λ x. (first x).failures) xs))) (flat_map-map (λ (part : Shape). part.failures) second ys)
    ∙ sym (fold-append earlier before (flat_map (λ x. (first x).failures) xs) (flat_map (λ y. (second y).failures) ys)))))
