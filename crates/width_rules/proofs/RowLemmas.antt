-- Parts that stand one beside the other.
use Rattle.std.specs.Prelude.{◌≡◌, refl, ℕ, ◌+◌, List, [], ◌∷◌, Option, None, Some, map, sum, unwrap_or}
use Rattle.std.specs.Option.{option_or}
use Rattle.std.proofs.Common.{ap, arith, sym, ◌∙◌}
use Rattle.std.proofs.lemmas.List.Sums.{sum_by-cons}
use Rattle.width_rules.proofs.ShapeLemmas.{or_none}
use Rattle.width_rules.specs.Capped.{Capped, beside, cap, capped, empty_row, row_after, row_of}
use Rattle.width_rules.specs.Widths.{Shape, first_name, widths_of}

or_either : {T : Type 0} (first second third : Option T) →
    option_or (option_or first second) third ≡ option_or first (option_or second third)
or_either None second third = refl
or_either (Some x) second third = refl

abbrev kept : ℕ → Option (List ℕ) → ℕ → Capped
kept at name width = record { at = at; name = name; width = width }

cap_sum : (first second : ℕ) (rest : ℕ) → cap (cap (first + cap second) + rest) ≡ cap (first + (second + rest))
cap_sum first second rest = grind arith

cap_first : (first rest : ℕ) → cap (cap first + rest) ≡ cap (first + rest)
cap_first first rest = grind arith

no_more : (width : ℕ) → width ≡ width + 0
no_more width = omega arith

cap_again : (width : ℕ) → cap (cap width) ≡ cap width
cap_again width = grind arith

sum_more : (width : ℕ) (widths : List ℕ) → sum (width ∷ widths) ≡ width + sum widths
sum_more width widths = sum_by-cons (λ n. n) width widths

kept_after : (before : Capped) → before.width ≡ cap before.width → (shapes : List Shape) →
    row_after (Some before) (map capped shapes)
    ≡ kept before.at (option_or before.name (first_name shapes)) (cap (before.width + widths_of shapes))
kept_after before small [] =
    ap (λ name. kept before.at name before.width) (sym (or_none before.name))
    ∙ ap (kept before.at (option_or before.name None)) (small ∙ ap cap (no_more before.width))
kept_after before small (shape ∷ shapes) =
    kept_after (beside before (capped shape)) (sym (cap_again (before.width + cap shape.width))) shapes
    ∙ (ap (λ name. kept before.at name (cap (cap (before.width + cap shape.width) + widths_of shapes))) (or_either before.name shape.name (first_name shapes))
    ∙ ap (kept before.at (option_or before.name (option_or shape.name (first_name shapes))))
    (cap_sum before.width shape.width (widths_of shapes)
    ∙ ap (λ width. cap (before.width + width)) (sym (sum_more shape.width (map (λ (part : Shape). part.width) shapes)))))

pub row_kept : (shapes : List Shape) → row_after None (map capped shapes) ≡ capped (row_of shapes)
row_kept [] = refl
row_kept (shape ∷ shapes) =
    kept_after (capped shape) (sym (cap_again shape.width)) shapes
    ∙ ap (kept shape.at (option_or shape.name (first_name shapes)))
    (cap_first shape.width (widths_of shapes)
    ∙ ap cap (sym (sum_more shape.width (map (λ (part : Shape). part.width) shapes))))

-- the end of a loop over parts
pub row_ends : {X : Type 0} (shapes : X → Shape) (parts rest : List X) (row : Option Capped) (whole : Capped)
    → whole ≡ unwrap_or row empty_row → rest ≡ []
    → row_after row (map capped (map shapes rest)) ≡ row_after None (map capped (map shapes parts))
    → whole ≡ capped (row_of (map shapes parts))
row_ends shapes parts rest row whole is done same =
    is ∙ (sym (ap (λ rest. row_after row (map capped (map shapes rest))) done) ∙ (same ∙ row_kept (map shapes parts)))
