-- Lists, one item after the other.
use Rattle.std.proofs.Common.{◌≡◌, ℕ, ◌+◌, ◌<◌, List, [], ◌∷◌, ◌++◌, Bool, true, false, cond, Option, Some, drop, filter, flat_map, fold, get_or, length, map, slice_get, refl, sym, ap, ◌∙◌}
use Rattle.std.proofs.lemmas.List.{append_assoc, drop_more}
use Rattle.std.proofs.lemmas.Grind.{flat_map-append}
use Rattle.std.proofs.lemmas.List.Sums.{fold-append}
use Rattle.std.proofs.lemmas.Option.{get_or_from_slice_get, slice_get_within}
use Rattle.hierarchy.specs.Failures.{Failure, earlier}

-- the next item of a list, where a loop goes over it
pub next_item : {X : Type 0} (xs : List X) (i : ℕ) (x : X) → i < length xs → x ≡ get_or xs i x → drop i xs ≡ x ∷ drop (i + 1) xs
next_item xs i x within is = drop_more xs i x within ∙ ap (λ y. y ∷ drop (i + 1) xs) (sym is)

-- the same where the item is looked up
pub next_found : {X : Type 0} (xs : List X) (i : ℕ) (x : X) → slice_get xs i ≡ Some x → drop i xs ≡ x ∷ drop (i + 1) xs
next_found xs i x is = next_item xs i x (slice_get_within xs i x is) (sym (get_or_from_slice_get xs i x x is))

pub filter_first : {X : Type 0} (p : X → Bool) (x : X) (xs : List X) → filter p (x ∷ xs) ≡ filter p (x ∷ []) ++ filter p xs
filter_first p x xs = first (p x)
  where
    first : (b : Bool) → cond b (x ∷ filter p xs) (filter p xs) ≡ cond b (x ∷ []) [] ++ filter p xs
    first true = refl
    first false = refl

-- One name more is kept, if it passes.
pub name_kept : {X Y : Type 0} (p : X → Bool) (entries : List (X × Y)) (i : ℕ) (entry : X × Y) → slice_get entries i ≡ Some entry
    → (kept next whole : List X) → next ≡ kept ++ filter p (entry.0 ∷ [])
    → kept ++ filter p (map (λ (entry : X × Y). entry.0) (drop i entries)) ≡ whole
    → next ++ filter p (map (λ (entry : X × Y). entry.0) (drop (i + 1) entries)) ≡ whole
name_kept {X = X} {Y = Y} p entries i entry is kept next whole added so_far =
    ap (λ list. list ++ filter p (names (drop (i + 1) entries))) added
    ∙ append_assoc kept (filter p (entry.0 ∷ [])) (filter p (names (drop (i + 1) entries)))
    ∙ ap (λ list. kept ++ list) (sym (filter_first p entry.0 (names (drop (i + 1) entries))) ∙ ap (λ rest. filter p (names rest)) (sym (next_found entries i entry is)))
    ∙ so_far
  where
    names : List (X × Y) → List X
    names entries = map (λ (entry : X × Y). entry.0) entries

-- ---- walks that note failures

-- One entry more is looked at, where what is left is a list of entries.
pub entry_noted : {X : Type 0} (f : X → List Failure) (xs : List X) (i : ℕ) (x : X) → slice_get xs i ≡ Some x
    → (found next whole : Option Failure) → next ≡ fold earlier found (f x)
    → fold earlier found (flat_map f (drop i xs)) ≡ whole → fold earlier next (flat_map f (drop (i + 1) xs)) ≡ whole
entry_noted f xs i x is found next whole noted so_far =
    ap (λ found. fold earlier found (flat_map f (drop (i + 1) xs))) noted
    ∙ sym (fold-append earlier found (f x) (flat_map f (drop (i + 1) xs)))
    ∙ sym (ap (λ rest. fold earlier found (flat_map f rest)) (next_found xs i x is))
    ∙ so_far

-- ---- the modules that are reached, one after the other

-- One module more is judged, if it is reached.
pub reached_step : {X : Type 0} (f : X → List Failure) (p : X → Bool) (modules items : List X) (i : ℕ) (m : X) (found next whole : Option Failure) → items ≡ modules → i < length items → m ≡ get_or items i m
    → next ≡ fold earlier found (flat_map f (filter p (m ∷ []))) → fold earlier found (flat_map f (filter p (drop i modules))) ≡ whole
    → fold earlier next (flat_map f (filter p (drop (i + 1) modules))) ≡ whole
reached_step f p modules items i m found next whole same within is noted so_far =
    ap (λ list. fold earlier next (flat_map f (filter p (drop (i + 1) list)))) (sym same)
    ∙ ap (λ now. fold earlier now (flat_map f (filter p (drop (i + 1) items)))) noted
    ∙ sym (fold-append earlier found (flat_map f (filter p (m ∷ []))) (flat_map f (filter p (drop (i + 1) items))))
    ∙ ap (fold earlier found) (sym (flat_map-append f (filter p (m ∷ [])) (filter p (drop (i + 1) items))))
    ∙ ap (λ list. fold earlier found (flat_map f list)) (sym (filter_first p m (drop (i + 1) items)))
    ∙ ap (λ list. fold earlier found (flat_map f (filter p list))) (sym (next_item items i m within is))
    ∙ ap (λ list. fold earlier found (flat_map f (filter p (drop i list)))) same
    ∙ so_far
