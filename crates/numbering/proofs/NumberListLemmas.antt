-- Places in lists that are put one behind the other.
use Rattle.std.proofs.Common.{◌≡◌, ℕ, zero, suc, ◌+◌, ◌<◌, Bool, true, false, ◌==◌, List, [], ◌∷◌, ◌++◌, Option, Some, None, ◌⊎◌, inl, inr, refl, sym, ◌∙◌, ap, arith, cond, flat_map, length, map, option_map, slice_get, sum, take}
use Rattle.std.specs.List.{position, position_from, range_with_len}
use Rattle.std.specs.Option.{option_or}
use Rattle.std.proofs.lemmas.Bool.{false_from_ne_true}
use Rattle.std.proofs.lemmas.Bool.Decides.{Decides-eqb}
use Rattle.std.proofs.lemmas.Iterator.Adapters.{position_from-zero}
use Rattle.std.proofs.lemmas.List.{length-append}
use Rattle.std.proofs.lemmas.List.Sums.{sum_by-cons}
use Rattle.std.proofs.lemmas.Option.{same_Some}

-- ---- the first place that passes a test

pub from_start : {X : Type 0} (test : X → Bool) (xs : List X) → position test xs ≡ position_from test 0 xs
from_start test xs = position_from-zero test xs

pub mapped_alike : (f g : ℕ → ℕ) → ((n : ℕ) → f n ≡ g n) → (o : Option ℕ) → option_map f o ≡ option_map g o
mapped_alike f g same o = λ j. option_map (λ n. same n j) o

pub shifted : {X : Type 0} (test : X → Bool) (a i j : ℕ) (xs : List X) → a + i ≡ j
    → position_from test j xs ≡ option_map (λ n. a + n) (position_from test i xs)
shifted test a i j [] e = refl
shifted test a i j (x ∷ xs) e = by (test x) (shifted test a (i + 1) (j + 1) xs (omega arith))
  where
    by : (b : Bool) → position_from test (j + 1) xs ≡ option_map (λ n. a + n) (position_from test (i + 1) xs)
        → cond b (Some j) (position_from test (j + 1) xs) ≡ option_map (λ n. a + n) (cond b (Some i) (position_from test (i + 1) xs))
    by true rest = ap Some (sym e)
    by false rest = rest

pub from_zero : {X : Type 0} (test : X → Bool) (i : ℕ) (xs : List X)
    → position_from test i xs ≡ option_map (λ n. i + n) (position_from test 0 xs)
from_zero test i xs = shifted test i 0 i xs (omega arith)

pub from_append : {X : Type 0} (test : X → Bool) (i : ℕ) (xs ys : List X)
    → position_from test i (xs ++ ys) ≡ option_or (position_from test i xs) (position_from test (i + length xs) ys)
from_append test i [] ys = ap (λ n. position_from test n ys) {x = i} {y = i + 0} (omega arith)
from_append test i (x ∷ xs) ys =
    by (test x) (from_append test (i + 1) xs ys
    ∙ ap (λ n. option_or (position_from test (i + 1) xs) (position_from test n ys)) {x = i + 1 + length xs} {y = i + suc (length xs)}
    (omega arith))
  where
    by : (b : Bool) → position_from test (i + 1) (xs ++ ys)
        ≡ option_or (position_from test (i + 1) xs) (position_from test (i + suc (length xs)) ys)
        → cond b (Some i) (position_from test (i + 1) (xs ++ ys))
        ≡ option_or (cond b (Some i) (position_from test (i + 1) xs)) (position_from test (i + suc (length xs)) ys)
    by true rest = refl
    by false rest = rest

pub from_map : {X Y : Type 0} (test : Y → Bool) (f : X → Y) (i : ℕ) (xs : List X)
    → position_from test i (map f xs) ≡ position_from (λ x. test (f x)) i xs
from_map test f i [] = refl
from_map test f i (x ∷ xs) = ap (cond (test (f x)) (Some i)) (from_map test f (i + 1) xs)

pub from_never : {X : Type 0} (i : ℕ) (xs : List X) → position_from (λ x. false) i xs ≡ None
from_never i [] = refl
from_never i (x ∷ xs) = from_never (i + 1) xs

pub or_none : (o : Option ℕ) → option_or o None ≡ o
or_none None = refl
or_none (Some n) = refl

none_moved : {X : Type 0} (test : X → Bool) (i : ℕ) (xs : List X) → position_from test 0 xs ≡ None → position_from test i xs ≡ None
none_moved test i xs none = from_zero test i xs ∙ ap (option_map (λ n. i + n)) none

-- ---- lists of members

-- how many stand in the lists of the first members
abbrev pub before : {X Y : Type 0} → (X → List Y) → List X → ℕ → ℕ
before f xs zero = 0
before f [] (suc i) = 0
before f (x ∷ xs) (suc i) = length (f x) + before f xs i

-- as a sum of numbers that are these lengths
pub sum_before : {X Y : Type 0} (f : X → List Y) (count : X → ℕ) → ((x : X) → count x ≡ length (f x)) → (xs : List X) (i : ℕ)
    → sum (map count (take i xs)) ≡ before f xs i
sum_before f count same xs zero = refl
sum_before f count same [] (suc i) = refl
sum_before f count same (x ∷ xs) (suc i) =
    sum_by-cons (λ (n : ℕ). n) (count x) (map count (take i xs))
    ∙ ap (λ n. n + sum (map count (take i xs))) (same x)
    ∙ ap (λ n. length (f x) + n) (sum_before f count same xs i)

pub count_all : {X Y : Type 0} (f : X → List Y) (xs : List X) → length (flat_map f xs) ≡ before f xs (length xs)
count_all f [] = refl
count_all f (x ∷ xs) = length-append (f x) (flat_map f xs) ∙ ap (λ n. length (f x) + n) (count_all f xs)

pub flat_none : {X Y : Type 0} (f : X → List Y) (test : Y → Bool) (xs : List X) (s : ℕ)
    → ((j : ℕ) (y : X) → slice_get xs j ≡ Some y → position_from test 0 (f y) ≡ None) → position_from test s (flat_map f xs) ≡ None
flat_none f test [] s none = refl
flat_none f test (x ∷ xs) s none =
    from_append test s (f x) (flat_map f xs)
    ∙ ap (λ o. option_or o (position_from test (s + length (f x)) (flat_map f xs))) (none_moved test s (f x) (none 0 x refl))
    ∙ flat_none f test xs (s + length (f x)) (λ j y at. none (suc j) y at)

-- The place in all of the lists, where no other member has it.
pub flat_place : {X Y : Type 0} (f : X → List Y) (test : Y → Bool) (xs : List X) (i : ℕ) (x : X) (s : ℕ) → slice_get xs i ≡ Some x
    → ((j : ℕ) (y : X) → slice_get xs j ≡ Some y → (j ≡ i → ⊥) → position_from test 0 (f y) ≡ None)
    → position_from test s (flat_map f xs) ≡ option_map (λ o. s + (before f xs i + o)) (position_from test 0 (f x))
flat_place f test [] i x s at others = absurd (cc)
flat_place f test (y ∷ xs) zero x s at others =
    from_append test s (f y) (flat_map f xs)
    ∙ ap (option_or (position_from test s (f y)))
    (flat_none f test xs (s + length (f y)) (λ j z there. others (suc j) z there (λ e. omega (arith, e))))
    ∙ or_none (position_from test s (f y))
    ∙ from_zero test s (f y)
    ∙ mapped_alike (λ n. s + n) (λ n. s + (0 + n)) (λ n. omega arith) (position_from test 0 (f y))
    ∙ ap (λ z. option_map (λ n. s + (0 + n)) (position_from test 0 (f z))) (same_Some y x at)
flat_place f test (y ∷ xs) (suc i) x s at others =
    from_append test s (f y) (flat_map f xs)
    ∙ ap (λ o. option_or o (position_from test (s + length (f y)) (flat_map f xs)))
    (none_moved test s (f y) (others 0 y refl (λ e. omega (arith, e))))
    ∙ flat_place f test xs i x (s + length (f y)) at (λ j z there apart. others (suc j) z there (λ e. apart (omega arith)))
    ∙ mapped_alike (λ o. (s + length (f y)) + (before f xs i + o)) (λ o. s + ((length (f y) + before f xs i) + o)) (λ n. omega arith)
    (position_from test 0 (f x))

-- ---- the way back

-- what stands at a place of one list behind another
pub append_cases : {X : Type 0} (xs ys : List X) (place : ℕ) (x : X) → slice_get (xs ++ ys) place ≡ Some x
    → (slice_get xs place ≡ Some x) ⊎ ((rest : ℕ) × (place ≡ length xs + rest) × (slice_get ys rest ≡ Some x))
append_cases [] ys place x at = inr (place, omega arith, at)
append_cases (y ∷ xs) ys zero x at = inl at
append_cases (y ∷ xs) ys (suc place) x at = elim (append_cases xs ys place x at) [
  | inl left ↦ inl left
  | inr right ↦ inr (right.0, (let e : place ≡ length xs + right.0 = right.1 in omega arith), right.2)
]

-- The place in all of the lists is one in the list of a member.
pub record IsIn {X Y : Type 0} (f : X → List Y) (xs : List X) (place : ℕ) (y : Y) : Type 0 where
  pub i : ℕ
  pub member : X
  pub rest : ℕ
  pub there : slice_get xs i ≡ Some member
  pub here : slice_get (f member) rest ≡ Some y
  pub is : place ≡ before f xs i + rest

pub flat_member : {X Y : Type 0} (f : X → List Y) (xs : List X) (place : ℕ) (y : Y) → slice_get (flat_map f xs) place ≡ Some y
    → IsIn f xs place y
flat_member f [] place y at = absurd (cc)
flat_member f (x ∷ xs) place y at = elim (append_cases (f x) (flat_map f xs) place y at) [
  | inl left ↦ record { i = 0; member = x; rest = place; there = refl; here = left; is = omega arith }
  | inr right ↦ behind right.0 right.1 (flat_member f xs right.0 y right.2)
]
  where
    behind : (rest : ℕ) → place ≡ length (f x) + rest → IsIn f xs rest y → IsIn f (x ∷ xs) place y
    behind rest e found = record {
      i = suc found.i;
      member = found.member;
      rest = found.rest;
      there = found.there;
      here = found.here;
      is = (let more : rest ≡ before f xs found.i + found.rest = found.is in omega arith);
    }

-- ---- numbers in order

pub range_place : (number low count start rest : ℕ) → number ≡ low + rest → rest < count
    → position_from (λ k. number == k) start (range_with_len low count) ≡ Some (start + rest)
range_place number low zero start rest e within = absurd (omega arith)
range_place number low (suc count) start zero e within =
    let same : (number == low) ≡ true = (Decides-eqb number low).1 (omega arith) in
    ap (λ b. cond b (Some start) (position_from (λ k. number == k) (start + 1) (range_with_len (low + 1) count))) same
    ∙ ap Some {x = start} {y = start + 0} (omega arith)
range_place number low (suc count) start (suc rest) e within =
    let differ : (number == low) ≡ false =
    false_from_ne_true (number == low) (λ h. let same : number ≡ low = (Decides-eqb number low).0 h in omega arith) in
    ap (λ b. cond b (Some start) (position_from (λ k. number == k) (start + 1) (range_with_len (low + 1) count))) differ
    ∙ range_place number (low + 1) count (start + 1) rest (omega arith) (omega arith)
    ∙ ap Some {x = start + 1 + rest} {y = start + suc rest} (omega arith)

pub range_at : (low count i k : ℕ) → slice_get (range_with_len low count) i ≡ Some k → (k ≡ low + i) × (i < count)
range_at low zero i k at = absurd (cc)
range_at low (suc count) zero k at = (let e : low ≡ k = same_Some low k at in omega arith, omega arith)
range_at low (suc count) (suc i) k at =
    let rest : (k ≡ (low + 1) + i) × (i < count) = range_at (low + 1) count i k at in
    (let e : k ≡ (low + 1) + i = rest.0 in omega arith, let l : i < count = rest.1 in omega arith)

-- what stands at a place of a mapped list
pub map_at : {X Y : Type 0} (f : X → Y) (xs : List X) (i : ℕ) (y : Y) → slice_get (map f xs) i ≡ Some y
    → (x : X) × (slice_get xs i ≡ Some x) × (y ≡ f x)
map_at f [] i y at = absurd (cc)
map_at f (x ∷ xs) zero y at = (x, refl, sym (same_Some (f x) y at))
map_at f (x ∷ xs) (suc i) y at = map_at f xs i y at
