-- Members of lists, by their places.
use Rattle.std.proofs.Common.{◌≡◌, ℕ, zero, suc, List, [], ◌∷◌, ◌++◌, Bool, true, false, ◌&&◌, ◌||◌, cond, Option, None, Some, refl, ap, sym, subst, ◌∙◌, filter, flat_map, slice_get, ◌⊎◌, inl, inr}
use Rattle.std.specs.List.{cons_option, filter_map, find, list_all, list_any}
use Rattle.std.specs.Option.{unwrap_or}

-- A list has a member.
abbrev pub Has : {X : Type 0} → List X → X → Type 0
Has xs x = (i : ℕ) × (slice_get xs i ≡ Some x)

pub some_same : {X : Type 0} (x y : X) → Some x ≡ Some y → x ≡ y
some_same x y is = ap (λ found. unwrap_or found x) is

pub has_none : {X : Type 0} (x : X) → Has [] x → ⊥
has_none x (i, is) = cc

pub has_first : {X : Type 0} (x : X) (xs : List X) → Has (x ∷ xs) x
has_first x xs = (0, refl)

pub has_later : {X : Type 0} (y : X) (xs : List X) (x : X) → Has xs x → Has (y ∷ xs) x
has_later y xs x (i, is) = (suc i, is)

pub has_cases : {X : Type 0} (y : X) (xs : List X) (x : X) → Has (y ∷ xs) x → (y ≡ x) ⊎ Has xs x
has_cases y xs x (zero, is) = inl (some_same y x is)
has_cases y xs x (suc i, is) = inr (i, is)

pub has_left : {X : Type 0} (xs ys : List X) (x : X) → Has xs x → Has (xs ++ ys) x
has_left [] ys x (i, is) = absurd cc
has_left (y ∷ xs) ys x (zero, is) = (0, is)
has_left (y ∷ xs) ys x (suc i, is) = has_later y (xs ++ ys) x (has_left xs ys x (i, is))

pub has_right : {X : Type 0} (xs ys : List X) (x : X) → Has ys x → Has (xs ++ ys) x
has_right [] ys x has = has
has_right (y ∷ xs) ys x has = has_later y (xs ++ ys) x (has_right xs ys x has)

pub has_in : {X : Type 0} (xs ys : List X) (x : X) → Has (xs ++ ys) x → Has xs x ⊎ Has ys x
has_in [] ys x has = inr has
has_in (y ∷ xs) ys x (zero, is) = inl (0, is)
has_in (y ∷ xs) ys x (suc i, is) = elim (has_in xs ys x (i, is)) [
  | inl has ↦ inl (has_later y xs x has)
  | inr has ↦ inr has
]

pub has_each : {X Y : Type 0} (f : X → List Y) (xs : List X) (x : X) (y : Y) → Has xs x → Has (f x) y → Has (flat_map f xs) y
has_each f [] x y (i, is) has = absurd cc
has_each f (z ∷ xs) x y (zero, is) has =
    has_left (f z) (flat_map f xs) y (subst (λ z. Has (f z) y) (sym (some_same z x is)) has)
has_each f (z ∷ xs) x y (suc i, is) has = has_right (f z) (flat_map f xs) y (has_each f xs x y (i, is) has)

-- where a member of what is made of each comes from
pub has_from : {X Y : Type 0} (f : X → List Y) (xs : List X) (y : Y) → Has (flat_map f xs) y → (x : X) × Has xs x × Has (f x) y
has_from f [] y (i, is) = absurd cc
has_from f (z ∷ xs) y has = elim (has_in (f z) (flat_map f xs) y has) [
  | inl here ↦ (z, has_first z xs, here)
  | inr later ↦ (let from = has_from f xs y later in (from.0, has_later z xs from.0 from.1, from.2))
]

pub has_kept : {X Y : Type 0} (f : X → Option Y) (xs : List X) (y : Y) → Has (filter_map f xs) y → (x : X) × Has xs x × (f x ≡ Some y)
has_kept {X = X} {Y = Y} f [] y (i, is) = absurd cc
has_kept {X = X} {Y = Y} f (z ∷ xs) y has = by (f z) refl (has_kept f xs y) has
  where
    by : (found : Option Y) → f z ≡ found → (Has (filter_map f xs) y → (x : X) × Has xs x × (f x ≡ Some y))
        → Has (cons_option found (filter_map f xs)) y → (x : X) × Has (z ∷ xs) x × (f x ≡ Some y)
    by None at rest has = let from = rest has in (from.0, has_later z xs from.0 from.1, from.2)
    by (Some w) at rest (zero, is) = (z, has_first z xs, at ∙ is)
    by (Some w) at rest (suc i, is) = let from = rest (i, is) in (from.0, has_later z xs from.0 from.1, from.2)

pub found_has : {X : Type 0} (test : X → Bool) (xs : List X) (x : X) → find test xs ≡ Some x → Has xs x × (test x ≡ true)
found_has {X = X} test [] x is = absurd cc
found_has {X = X} test (y ∷ xs) x is = by (test y) refl is (found_has test xs x)
  where
    by : (b : Bool) → test y ≡ b → cond b (Some y) (find test xs) ≡ Some x → (find test xs ≡ Some x → Has xs x × (test x ≡ true))
        → Has (y ∷ xs) x × (test x ≡ true)
    by true at is rest = let same : y ≡ x = some_same y x is in ((0, is), ap test (sym same) ∙ at)
    by false at is rest = let later = rest is in (has_later y xs x later.0, later.1)

-- ---- lists without members

pub left_none : {X : Type 0} (xs ys : List X) → xs ++ ys ≡ [] → xs ≡ []
left_none [] ys is = refl
left_none (x ∷ xs) ys is = absurd cc

pub right_none : {X : Type 0} (xs ys : List X) → xs ++ ys ≡ [] → ys ≡ []
right_none [] ys is = is
right_none (x ∷ xs) ys is = absurd cc

pub each_none : {X Y : Type 0} (f : X → List Y) (xs : List X) (x : X) → flat_map f xs ≡ [] → Has xs x → f x ≡ []
each_none f [] x none (i, is) = absurd cc
each_none f (y ∷ xs) x none (zero, is) = ap f (sym (some_same y x is)) ∙ left_none (f y) (flat_map f xs) none
each_none f (y ∷ xs) x none (suc i, is) = each_none f xs x (right_none (f y) (flat_map f xs) none) (i, is)

pub has_passing : {X : Type 0} (test : X → Bool) (xs : List X) (x : X) → Has xs x → test x ≡ true → Has (filter test xs) x
has_passing test [] x (i, is) passes = absurd cc
has_passing test (y ∷ xs) x (zero, is) passes =
    let same : y ≡ x = some_same y x is in
    subst (λ b. Has (cond b (y ∷ filter test xs) (filter test xs)) x) (sym (ap test same ∙ passes)) (0, is)
has_passing test (y ∷ xs) x (suc i, is) passes = by (test y) (has_passing test xs x (i, is) passes)
  where
    by : (b : Bool) → Has (filter test xs) x → Has (cond b (y ∷ filter test xs) (filter test xs)) x
    by true has = has_later y (filter test xs) x has
    by false has = has

pub not_noted : {X : Type 0} (b : Bool) (x : X) → cond b (x ∷ []) [] ≡ [] → b ≡ false
not_noted false x is = refl
not_noted true x is = absurd cc

pub is_noted : {X : Type 0} (b : Bool) (x : X) → cond b [] (x ∷ []) ≡ [] → b ≡ true
is_noted true x is = refl
is_noted false x is = absurd cc

-- ---- tests on members

pub all_by : {X : Type 0} (test : X → Bool) (xs : List X) → ((x : X) → Has xs x → test x ≡ true) → list_all test xs ≡ true
all_by test [] each = refl
all_by test (x ∷ xs) each =
    ap (λ b. b && list_all test xs) (each x (has_first x xs)) ∙ all_by test xs (λ y has. each y (has_later x xs y has))

pub both : (a b : Bool) → a ≡ true → b ≡ true → (a && b) ≡ true
both true true one other = refl
both true false one other = other
both false b one other = one

pub any_member : {X : Type 0} (test : X → Bool) (xs : List X) → list_any test xs ≡ true → (x : X) × Has xs x × (test x ≡ true)
any_member {X = X} test [] is = absurd cc
any_member {X = X} test (x ∷ xs) is = by (test x) refl is (any_member test xs)
  where
    by : (b : Bool) → test x ≡ b → (b || list_any test xs) ≡ true
        → (list_any test xs ≡ true → (x : X) × Has xs x × (test x ≡ true)) → (y : X) × Has (x ∷ xs) y × (test y ≡ true)
    by true at is rest = (x, has_first x xs, at)
    by false at is rest = let later = rest is in (later.0, has_later x xs later.0 later.1, later.2)

pub any_by : {X : Type 0} (test : X → Bool) (xs : List X) (x : X) → Has xs x → test x ≡ true → list_any test xs ≡ true
any_by test [] x (i, is) passes = absurd cc
any_by test (y ∷ xs) x (zero, is) passes = by (test y) (ap test (some_same y x is) ∙ passes)
  where
    by : (b : Bool) → b ≡ true → (b || list_any test xs) ≡ true
    by true is = refl
    by false is = absurd cc
any_by test (y ∷ xs) x (suc i, is) passes = by (test y) (any_by test xs x (i, is) passes)
  where
    by : (b : Bool) → list_any test xs ≡ true → (b || list_any test xs) ≡ true
    by true is = refl
    by false is = is
