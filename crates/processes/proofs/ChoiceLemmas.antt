-- Choices bit by bit.
use Rattle.std.proofs.Common.{◌≡◌, ◌≤◌, ◌<◌, ◌+◌, ℕ, List, [], ◌∷◌, refl, ◌∙◌, arith, drop, get_or, inl, inr, length, min}
use Rattle.std.proofs.lemmas.Bool.{cases_lt}
use Rattle.std.proofs.lemmas.List.{at_drop_all, at_drop_more}
use Rattle.flat_net.specs.declared.edge.Edge.{Edge}
use Rattle.lowering.specs.Gates.{chosen, chosen_bits}
use Rattle.lowering.specs.Loops.{continued}
use Rattle.lowering.specs.Lowered.{after, lowered}

pub one_chosen : (choice : Edge) (firsts seconds : List Edge) (i : ℕ) (d e : Edge) (next : ℕ) → i < length firsts → i < length seconds
    → chosen_bits choice (drop i firsts) (drop i seconds) next
    ≡ continued (chosen choice (get_or firsts i d) (get_or seconds i e) next)
    (chosen_bits choice (drop (i + 1) firsts) (drop (i + 1) seconds) (after next (chosen choice (get_or firsts i d) (get_or seconds i e) next)))
one_chosen choice firsts seconds i d e next in_firsts in_seconds =
    at_drop_more (λ edges. chosen_bits choice edges (drop i seconds) next) firsts i d in_firsts
    ∙ at_drop_more (λ edges. chosen_bits choice (get_or firsts i d ∷ drop (i + 1) firsts) edges next) seconds i e in_seconds

none_zipped : (choice : Edge) (firsts : List Edge) (next : ℕ) → chosen_bits choice firsts [] next ≡ lowered [] []
none_zipped choice [] next = refl
none_zipped choice (first ∷ firsts) next = refl

-- where one of both ends
pub none_chosen : (choice : Edge) (firsts seconds : List Edge) (i : ℕ) (next : ℕ) → min (length firsts) (length seconds) ≤ i
    → chosen_bits choice (drop i firsts) (drop i seconds) next ≡ lowered [] []
none_chosen choice firsts seconds i next le =
    elim (cases_lt i (length firsts)) [
      | inl below ↦
          at_drop_all (λ edges. chosen_bits choice (drop i firsts) edges next) seconds i (omega (arith, le, below)) ∙ none_zipped choice (drop i firsts) next
      | inr above ↦ at_drop_all (λ edges. chosen_bits choice edges (drop i seconds) next) firsts i above
    ]
