-- Walks over lists that note failures.
use Rattle.std.proofs.Common.{ℕ, ◌+◌, ◌<◌, ◌≡◌, ◌++◌, List, [], ◌∷◌, Option, drop, fold, get_or, length, take, ap, sym, ◌∙◌}
use Rattle.std.proofs.lemmas.List.{drop_more, take_more}
use Rattle.std.proofs.lemmas.List.Sums.{fold-append}
use Rattle.hierarchy.specs.Failures.{Failure, earlier}

-- One item more of a walk that knows the items before: what is wrong with it is noted.
pub after_step : {X : Type 0} (one : List X → X → List Failure) (after : List X → List X → List Failure)
    → ((before : List X) (x : X) (rest : List X) → after before (x ∷ rest) ≡ one before x ++ after (before ++ x ∷ []) rest)
    → (items : List X) (i : ℕ) (x : X) → i < length items → x ≡ get_or items i x
    → (found next : Option Failure) → next ≡ fold earlier found (one (take i items) x)
    → fold earlier next (after (take (i + 1) items) (drop (i + 1) items)) ≡ fold earlier found (after (take i items) (drop i items))
after_step one after step items i x within is found next noted =
    ap (λ found. fold earlier found (after (take (i + 1) items) (drop (i + 1) items))) noted
    ∙ sym (fold-append earlier found (one (take i items) x) (after (take (i + 1) items) (drop (i + 1) items)))
    ∙ ap (λ before. fold earlier found (one (take i items) x ++ after before (drop (i + 1) items))) taken
    ∙ ap (fold earlier found) (sym (step (take i items) x (drop (i + 1) items)))
    ∙ ap (λ rest. fold earlier found (after (take i items) rest)) (sym dropped)
  where
    taken : take (i + 1) items ≡ take i items ++ x ∷ []
    taken = take_more items i x within ∙ ap (λ y. take i items ++ y ∷ []) (sym is)

    dropped : drop i items ≡ x ∷ drop (i + 1) items
    dropped = drop_more items i x within ∙ ap (λ y. y ∷ drop (i + 1) items) (sym is)
