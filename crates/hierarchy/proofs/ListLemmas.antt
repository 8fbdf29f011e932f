-- Lists that grow at their end.
use Rattle.std.proofs.Common.{◌≡◌, ℕ, zero, suc, ◌+◌, ◌<◌, true, nat_eq, arith, List, [], ◌∷◌, ◌++◌, length, get_or, take, refl, sym, ◌∙◌, ap, Option, None, Some}
use Rattle.std.specs.List.{cons_option, filter_map}
use Rattle.std.proofs.lemmas.Bool.{or_left, or_right, eq-eqb}
use Rattle.hierarchy.specs.Graph.{has}
use Rattle.std.proofs.lemmas.List.{take_more}
use Rattle.std.proofs.lemmas.List.Elements.{filter_map-append}

-- the next item of a list, where a loop goes over it
pub next_item : {X : Type 0} (xs : List X) (i : ℕ) (x : X) → i < length xs → x ≡ get_or xs i x → take (i + 1) xs ≡ take i xs ++ x ∷ []
next_item xs i x h e = take_more xs i x h ∙ ap (λ y. take i xs ++ y ∷ []) (sym e)

pub filter_map-next : {X Y : Type 0} (f : X → Option Y) (xs : List X) (i : ℕ) (x : X) → i < length xs → x ≡ get_or xs i x → filter_map f (take (i + 1) xs) ≡ filter_map f (take i xs) ++ cons_option (f x) []
filter_map-next f xs i x h e = ap (filter_map f) (next_item xs i x h e) ∙ filter_map-append f (take i xs) (x ∷ [])

-- a list that grows by what the next item gives, where the whole is the `filter_map`
pub filter_map-push : {X Y : Type 0} (f : X → Option Y) (xs : List X) (i : ℕ) (x : X) (o : Option Y) (before after : List Y) → i < length xs → x ≡ get_or xs i x → before ≡ filter_map f (take i xs) → o ≡ f x → after ≡ before ++ cons_option o [] → after ≡ filter_map f (take (i + 1) xs)
filter_map-push f xs i x o before after h e so_far gives pushed =
    pushed ∙ ap (λ ys. ys ++ cons_option o []) so_far ∙ ap (λ p. filter_map f (take i xs) ++ cons_option p []) gives
    ∙ sym (filter_map-next f xs i x h e)

cons_option-has : (o : Option ℕ) (xs : List ℕ) (y : ℕ) → has xs y ≡ true → has (cons_option o xs) y ≡ true
cons_option-has None xs y h = h
cons_option-has (Some x) xs y h = or_right (nat_eq x y) _ h

-- What an item of a list gives is among what all give.
pub filter_map-has : {X : Type 0} (f : X → Option ℕ) (xs : List X) (i : ℕ) (x : X) → i < length xs → x ≡ get_or xs i x → (y : ℕ) → f x ≡ Some y → has (filter_map f xs) y ≡ true
filter_map-has f [] i x h is y gives = absurd (omega arith)
filter_map-has f (z ∷ xs) zero x h is y gives =
    ap (λ o. has (cons_option o (filter_map f xs)) y) (ap f (sym is) ∙ gives) ∙ or_left _ (has (filter_map f xs) y) (eq-eqb y y refl)
filter_map-has f (z ∷ xs) (suc i) x h is y gives = cons_option-has (f z) (filter_map f xs) y (filter_map-has f xs i x (omega arith) is y gives)
