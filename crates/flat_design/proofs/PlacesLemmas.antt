-- What stands at places of lists, and lists that are made of lists.
use Rattle.std.specs.Prelude.{◌≡◌, ℕ, zero, suc, ◌+◌, ◌-◌, ◌<◌, ◌≤◌, List, [], ◌∷◌, ◌++◌, Bool, true, false, Option, None, Some, cond, filter, filter_map, find, flat_map, length, map, refl, replicate, reverse, slice_get}
use Rattle.std.specs.List.{cons_option, enumerate_from, list_all, range_with_len}
use Rattle.std.specs.Option.{option_to_list}
use Rattle.std.proofs.Common.{ap, arith, drop, get_or, sym, ◌∙◌}
use Rattle.std.proofs.lemmas.Bool.{and_parts}
use Rattle.std.proofs.lemmas.List.{reverse-append, reverse-reverse}
use Rattle.std.proofs.lemmas.List.Concat.{flat_map-append}
use Rattle.std.proofs.lemmas.Option.{same_Some}

-- ---- places

pub left_place : {X : Type 0} (xs ys : List X) (n : ℕ) → n < length xs → slice_get (xs ++ ys) n ≡ slice_get xs n
left_place [] ys n within = absurd (omega arith)
left_place (x ∷ xs) ys zero within = refl
left_place (x ∷ xs) ys (suc n) within = left_place xs ys n (omega arith)

pub right_place : {X : Type 0} (xs ys : List X) (n : ℕ) → length xs ≤ n → slice_get (xs ++ ys) n ≡ slice_get ys (n - length xs)
right_place [] ys n past = ap (slice_get ys) {x = n} {y = n - 0} (omega arith)
right_place (x ∷ xs) ys zero past = absurd (omega arith)
right_place (x ∷ xs) ys (suc n) past =
    right_place xs ys n (omega arith) ∙ ap (slice_get ys) {x = n - length xs} {y = suc n - suc (length xs)} (omega arith)

pub run_place : {X : Type 0} (f : ℕ → X) (first count n : ℕ) → n < count
    → slice_get (map f (range_with_len first count)) n ≡ Some (f (first + n))
run_place f first zero n within = absurd (omega arith)
run_place f first (suc count) zero within = ap (λ place. Some (f place)) {x = first} {y = first + 0} (omega arith)
run_place f first (suc count) (suc n) within =
    run_place f (first + 1) count n (omega arith) ∙ ap (λ place. Some (f place)) {x = first + 1 + n} {y = first + suc n} (omega arith)

pub same_place : {X : Type 0} (count : ℕ) (x : X) (n : ℕ) → n < count → slice_get (replicate count x) n ≡ Some x
same_place zero x n within = absurd (omega arith)
same_place (suc count) x zero within = refl
same_place (suc count) x (suc n) within = same_place count x n (omega arith)

pub only_place : {X : Type 0} (o : Option X) (j : ℕ) (x : X) → slice_get (option_to_list o) j ≡ Some x → o ≡ Some x
only_place None j x at = absurd cc
only_place (Some y) zero x at = at
only_place (Some y) (suc j) x at = absurd cc

pub passes_at : {X : Type 0} (test : X → Bool) (xs : List X) (j : ℕ) (x : X) → list_all test xs ≡ true → slice_get xs j ≡ Some x
    → test x ≡ true
passes_at test [] j x all at = absurd cc
passes_at test (y ∷ xs) zero x all at = ap test (sym (same_Some y x at)) ∙ (and_parts (test y) (list_all test xs) all).0
passes_at test (y ∷ xs) (suc j) x all at = passes_at test xs j x (and_parts (test y) (list_all test xs) all).1 at

-- what an item gives stands among what all give
pub given_place : {X Y : Type 0} (f : X → Option Y) (xs : List X) (j : ℕ) (x : X) (y : Y) → slice_get xs j ≡ Some x → f x ≡ Some y
    → (place : ℕ) × (slice_get (filter_map f xs) place ≡ Some y)
given_place f [] j x y at gives = absurd cc
given_place f (z ∷ xs) zero x y at gives =
    (0, ap (λ o. slice_get (cons_option o (filter_map f xs)) 0) (ap f (same_Some z x at) ∙ gives))
given_place {Y = Y} f (z ∷ xs) (suc j) x y at gives = by (f z) (given_place f xs j x y at gives)
  where
    by : (o : Option Y) → (place : ℕ) × (slice_get (filter_map f xs) place ≡ Some y)
        → (place : ℕ) × (slice_get (cons_option o (filter_map f xs)) place ≡ Some y)
    by None rest = rest
    by (Some first) rest = (suc rest.0, rest.1)

-- what is found stands in the list
pub found_place : {X : Type 0} (test : X → Bool) (xs : List X) (x : X) → find test xs ≡ Some x → (j : ℕ) × (slice_get xs j ≡ Some x)
found_place test [] x found = absurd cc
found_place test (y ∷ xs) x found = by (test y) found (found_place test xs x)
  where
    by : (b : Bool) → cond b (Some y) (find test xs) ≡ Some x → (find test xs ≡ Some x → (j : ℕ) × (slice_get xs j ≡ Some x))
        → (j : ℕ) × (slice_get (y ∷ xs) j ≡ Some x)
    by true found rest = (0, found)
    by false found rest = let there = rest found in (suc there.0, there.1)

-- an item that gave what stands at a place
pub giver_at : {X Y : Type 0} (f : X → Option Y) (xs : List X) (place : ℕ) (y : Y) → slice_get (filter_map f xs) place ≡ Some y
    → (j : ℕ) × (x : X) × (slice_get xs j ≡ Some x) × (f x ≡ Some y)
giver_at f [] place y at = absurd cc
giver_at {X = X} {Y = Y} f (x ∷ xs) place y at = by (f x) refl place at (λ place at. giver_at f xs place y at)
  where
    by : (o : Option Y) → f x ≡ o → (place : ℕ) → slice_get (cons_option o (filter_map f xs)) place ≡ Some y
        → ((place : ℕ) → slice_get (filter_map f xs) place ≡ Some y → (j : ℕ) × (z : X) × (slice_get xs j ≡ Some z) × (f z ≡ Some y))
        → (j : ℕ) × (z : X) × (slice_get (x ∷ xs) j ≡ Some z) × (f z ≡ Some y)
    by None is place at rest = let there = rest place at in (suc there.0, there.1, there.2, there.3)
    by (Some first) is zero at rest = (0, x, refl, is ∙ at)
    by (Some first) is (suc place) at rest = let there = rest place at in (suc there.0, there.1, there.2, there.3)

-- ---- lists of lists

cons_append : {X : Type 0} (o : Option X) (xs : List X) → cons_option o xs ≡ option_to_list o ++ xs
cons_append None xs = refl
cons_append (Some x) xs = refl

pub flat_given : {X Y Z : Type 0} (f : Y → List Z) (h : X → Option Y) (xs : List X)
    → flat_map f (filter_map h xs) ≡ flat_map (λ x. flat_map f (option_to_list (h x))) xs
flat_given f h [] = refl
flat_given f h (x ∷ xs) =
    ap (flat_map f) (cons_append (h x) (filter_map h xs))
    ∙ flat_map-append f (option_to_list (h x)) (filter_map h xs)
    ∙ ap (λ rest. flat_map f (option_to_list (h x)) ++ rest) (flat_given f h xs)

pub given_flat : {X Y : Type 0} (h : X → Option Y) (xs : List X) → filter_map h xs ≡ flat_map (λ x. option_to_list (h x)) xs
given_flat h [] = refl
given_flat h (x ∷ xs) = cons_append (h x) (filter_map h xs) ∙ ap (λ rest. option_to_list (h x) ++ rest) (given_flat h xs)

pub flat_kept : {X Y : Type 0} (f : X → List Y) (test : X → Bool) (xs : List X)
    → flat_map f (filter test xs) ≡ flat_map (λ x. cond (test x) (f x) []) xs
flat_kept f test [] = refl
flat_kept f test (x ∷ xs) = by (test x) (flat_kept f test xs)
  where
    by : (b : Bool) → flat_map f (filter test xs) ≡ flat_map (λ x. cond (test x) (f x) []) xs
        → flat_map f (cond b (x ∷ filter test xs) (filter test xs)) ≡ cond b (f x) [] ++ flat_map (λ x. cond (test x) (f x) []) xs
    by true rest = ap (λ ys. f x ++ ys) rest
    by false rest = rest

-- ---- last items

first_is : {X : Type 0} (x y : X) (xs ys : List X) → x ∷ xs ≡ y ∷ ys → x ≡ y
first_is x y xs ys same = ap (λ list. get_or list 0 x) same

rest_is : {X : Type 0} (x y : X) (xs ys : List X) → x ∷ xs ≡ y ∷ ys → xs ≡ ys
rest_is x y xs ys same = ap (drop 1) same

pub last_is : {X : Type 0} (xs ys : List X) (x y : X) → xs ++ x ∷ [] ≡ ys ++ y ∷ [] → (xs ≡ ys) × (x ≡ y)
last_is xs ys x y same =
    let turned : x ∷ reverse xs ≡ y ∷ reverse ys =
    sym (reverse-append xs (x ∷ [])) ∙ ap reverse same ∙ reverse-append ys (y ∷ []) in (
      sym (reverse-reverse xs) ∙ ap reverse (rest_is x y (reverse xs) (reverse ys) turned) ∙ reverse-reverse ys,
      first_is x y (reverse xs) (reverse ys) turned,
    )

-- what stands beside a number
pub numbered_at : {X : Type 0} (first : ℕ) (xs : List X) (j : ℕ) (x : ℕ × X) → slice_get (enumerate_from first xs) j ≡ Some x
    → slice_get xs j ≡ Some x.1
numbered_at first [] j x at = absurd cc
numbered_at first (y ∷ xs) zero x at = ap Some (ap (λ (pair : ℕ × _). pair.1) (same_Some (first, y) x at))
numbered_at first (y ∷ xs) (suc j) x at = numbered_at (first + 1) xs j x at
