-- Tests of some element of a list.
use Rattle.std.proofs.Common.{◌≡◌, ℕ, zero, suc, ◌+◌, Bool, true, false, ◌||◌, ◌&&◌, List, [], ◌∷◌, map, refl, sym, ◌∙◌, ap, add-one}
use Rattle.std.specs.List.{list_any, range_with_len}

pub any_same : {X : Type 0} (f g : X → Bool) (xs : List X) → ((x : X) → f x ≡ g x) → list_any f xs ≡ list_any g xs
any_same f g xs same = ap (λ test. list_any test xs) (λ i x. same x i)

pub any_map : {X Y : Type 0} (f : Y → Bool) (h : X → Y) (xs : List X) → list_any f (map h xs) ≡ list_any (λ x. f (h x)) xs
any_map f h [] = refl
any_map f h (x ∷ xs) = ap (λ b. f (h x) || b) (any_map f h xs)

any_never : {X : Type 0} (xs : List X) → list_any (λ x. false) xs ≡ false
any_never [] = refl
any_never (x ∷ xs) = any_never xs

or_mixed : (a b c d : Bool) → ((a || b) || (c || d)) ≡ ((a || c) || (b || d))
or_mixed true b c d = refl
or_mixed false true true d = refl
or_mixed false true false d = refl
or_mixed false false c d = refl

any_or : {X : Type 0} (f g : X → Bool) (xs : List X) → list_any (λ x. f x || g x) xs ≡ (list_any f xs || list_any g xs)
any_or f g [] = refl
any_or f g (x ∷ xs) = ap (λ b. (f x || g x) || b) (any_or f g xs) ∙ or_mixed (f x) (g x) (list_any f xs) (list_any g xs)

-- in which order the elements are chosen does not matter
pub any_swap : {X Y : Type 0} (f : X → Y → Bool) (xs : List X) (ys : List Y) → list_any (λ x. list_any (f x) ys) xs ≡ list_any (λ y. list_any (λ x. f x y) xs) ys
any_swap f [] ys = sym (any_never ys)
any_swap f (x ∷ xs) ys =
    ap (λ b. list_any (f x) ys || b) (any_swap f xs ys) ∙ sym (any_or (f x) (λ y. list_any (λ z. f z y) xs) ys)

pub any_and : {X : Type 0} (b : Bool) (f : X → Bool) (xs : List X) → (b && list_any f xs) ≡ list_any (λ x. b && f x) xs
any_and true f xs = refl
any_and false f xs = sym (any_never xs)

pub and_swap : (a b : Bool) → (a && b) ≡ (b && a)
and_swap true true = refl
and_swap true false = refl
and_swap false true = refl
and_swap false false = refl

pub and_and : (a b c : Bool) → (a && (b && c)) ≡ (c && (a && b))
and_and true b c = and_swap b c
and_and false b true = refl
and_and false b false = refl

-- numbers that are counted from one on
pub any_shift : (f : ℕ → Bool) (a n : ℕ) → list_any f (range_with_len (a + 1) n) ≡ list_any (λ k. f (suc k)) (range_with_len a n)
any_shift f a zero = refl
any_shift f a (suc n) = ap (λ k. f k || list_any f (range_with_len (a + 1 + 1) n)) (rw add-one refl) ∙ ap (λ b. f (suc a) || b) (any_shift f (a + 1) n)
