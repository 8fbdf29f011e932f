-- A number is still there where each stands once.
use Rattle.std.proofs.Common.{◌≡◌, ◌==◌, ℕ, suc, eqb, arith, get_or, sym, List, [], ◌∷◌, Bool, true, false, ◌||◌, refl}
use Rattle.std.proofs.lemmas.Bool.{eq-eqb, eqb-true}
use Rattle.std.proofs.lemmas.List.Folds.{list_any_at}
use Rattle.std.proofs.lemmas.List.Kept.{Contains-dedup_nat, Contains-from_dedup}
use Rattle.std.specs.List.{Contains, dedup, list_any}

contains_more : (x y : ℕ) (ys : List ℕ) → Contains ys x → Contains (y ∷ ys) x
contains_more x y ys (k, within, is) = (suc k, omega (arith, within), is)

found : (n : ℕ) (xs : List ℕ) → list_any (λ other. n == other) xs ≡ true → Contains xs n
found n [] is = absurd (cc)
found n (x ∷ xs) is = by (n == x) refl is (found n xs)
  where
    by : (b : Bool) → (n == x) ≡ b → (b || list_any (λ other. n == other) xs) ≡ true → (list_any (λ other. n == other) xs ≡ true → Contains xs n) → Contains (x ∷ xs) n
    by true same is ih = (0, omega arith, sym (eqb-true n x same))
    by false same is ih = contains_more n x xs (ih is)

any_there : (n : ℕ) (xs : List ℕ) → Contains xs n → list_any (λ other. n == other) xs ≡ true
any_there n xs (k, within, is) = list_any_at (λ other. n == other) xs k n within (eq-eqb n (get_or xs k n) (sym is))

pub once : (n : ℕ) (xs : List ℕ) → list_any (λ other. n == other) (dedup eqb xs) ≡ list_any (λ other. n == other) xs
once n xs = by (list_any (λ other. n == other) (dedup eqb xs)) refl (list_any (λ other. n == other) xs) refl
  where
    by : (b : Bool) → list_any (λ other. n == other) (dedup eqb xs) ≡ b → (c : Bool) → list_any (λ other. n == other) xs ≡ c → b ≡ c
    by true is true here = refl
    by false is false here = refl
    by true is false here = absurd (let it = any_there n xs (Contains-from_dedup eqb xs n (found n (dedup eqb xs) is)) in cc)
    by false is true here = absurd (let it = any_there n (dedup eqb xs) (Contains-dedup_nat xs n (found n xs here)) in cc)
