-- What stands at a place of a list.
use Rattle.std.proofs.Common.{◌≡◌, ℕ, zero, suc, ◌+◌, ◌-◌, ◌<◌, ◌≤◌, Bool, true, false, ◌&&◌, cond, List, [], ◌∷◌, ◌++◌, Some, refl, sym, ap, arith, add-one, drop, filter, flat_map, get_or, length, map, slice_get, ◌∙◌}
use Rattle.std.specs.List.{range_with_len}
use Rattle.std.proofs.lemmas.Option.{same_Some, slice_get_read}
use Rattle.numbering.proofs.NumberListLemmas.{before}

pub get_left : {X : Type 0} (xs ys : List X) (i : ℕ) → i < length xs → slice_get (xs ++ ys) i ≡ slice_get xs i
get_left [] ys i within = absurd (omega arith)
get_left (x ∷ xs) ys zero within = refl
get_left (x ∷ xs) ys (suc i) within = get_left xs ys i (omega arith)

pub get_right : {X : Type 0} (xs ys : List X) (i j : ℕ) → i ≡ length xs + j → slice_get (xs ++ ys) i ≡ slice_get ys j
get_right [] ys i j e = ap (slice_get ys) (let same : i ≡ j = omega arith in same)
get_right (x ∷ xs) ys zero j e = absurd (omega arith)
get_right (x ∷ xs) ys (suc i) j e = get_right xs ys i j (omega arith)

-- the rest of a list from a place on
pub drop_there : {X : Type 0} (xs : List X) (i : ℕ) (x : X) → slice_get xs i ≡ Some x → drop i xs ≡ x ∷ drop (suc i) xs
drop_there [] i x at = absurd (cc)
drop_there (y ∷ xs) zero x at = ap (λ x. x ∷ xs) (same_Some y x at)
drop_there (y ∷ xs) (suc i) x at = drop_there xs i x at

pub left_there : {X : Type 0} (xs : List X) (i : ℕ) (x : X) → i < length xs → x ≡ get_or xs i x → drop i xs ≡ x ∷ drop (i + 1) xs
left_there xs i x within is =
    drop_there xs i x (slice_get_read xs (length xs) i x refl within is) ∙ ap (λ n. x ∷ drop n xs) (sym (add-one i))

pub drop_past : {X : Type 0} (xs : List X) (i : ℕ) → length xs ≤ i → drop i xs ≡ []
drop_past [] zero past = refl
drop_past [] (suc i) past = refl
drop_past (x ∷ xs) zero past = absurd (omega arith)
drop_past (x ∷ xs) (suc i) past = drop_past xs i (omega arith)

pub range_there : {X : Type 0} (f : ℕ → X) (low count i : ℕ) → i < count
    → slice_get (map f (range_with_len low count)) i ≡ Some (f (low + i))
range_there f low zero i within = absurd (omega arith)
range_there f low (suc count) zero within = ap (λ n. Some (f n)) {x = low} {y = low + 0} (omega arith)
range_there f low (suc count) (suc i) within =
    range_there f (low + 1) count i (omega arith) ∙ ap (λ n. Some (f n)) {x = low + 1 + i} {y = low + suc i} (omega arith)

-- what stands in the list of a member, by its place in all of the lists
pub flat_there : {X Y : Type 0} (f : X → List Y) (xs : List X) (i : ℕ) (x : X) (place : ℕ) → slice_get xs i ≡ Some x
    → before f xs i ≤ place → place < before f xs (suc i)
    → slice_get (flat_map f xs) place ≡ slice_get (f x) (place - before f xs i)
flat_there f [] i x place at from to = absurd (cc)
flat_there f (y ∷ xs) zero x place at from to =
    get_left (f y) (flat_map f xs) place (omega arith)
    ∙ ap (slice_get (f y)) {x = place} {y = place - 0} (omega arith)
    ∙ ap (λ x. slice_get (f x) (place - 0)) (same_Some y x at)
flat_there f (y ∷ xs) (suc i) x place at from to =
    get_right (f y) (flat_map f xs) place (place - length (f y)) (omega arith)
    ∙ flat_there f xs i x (place - length (f y)) at (omega arith) (omega arith)
    ∙ ap (slice_get (f x)) {x = place - length (f y) - before f xs i} {y = place - (length (f y) + before f xs i)} (omega arith)

-- A test after another is both of them.
pub filter_both : {X : Type 0} (p q : X → Bool) (xs : List X) → filter p (filter q xs) ≡ filter (λ x. q x && p x) xs
filter_both p q [] = refl
filter_both {X = X} p q (x ∷ xs) = by (q x) (filter_both p q xs)
  where
    rest : (c : Bool) → filter p (filter q xs) ≡ filter (λ x. q x && p x) xs
        → cond c (x ∷ filter p (filter q xs)) (filter p (filter q xs))
        ≡ cond c (x ∷ filter (λ x. q x && p x) xs) (filter (λ x. q x && p x) xs)
    rest true same = ap (λ xs. x ∷ xs) same
    rest false same = same

    by : (b : Bool) → filter p (filter q xs) ≡ filter (λ x. q x && p x) xs
        → filter p (cond b (x ∷ filter q xs) (filter q xs))
        ≡ cond (b && p x) (x ∷ filter (λ x. q x && p x) xs) (filter (λ x. q x && p x) xs)
    by true same = rest (p x) same
    by false same = same
