-- Lists whose members differ in what is taken of them.
use Rattle.std.proofs.Common.{◌≡◌, ℕ, zero, suc, List, [], ◌∷◌, ◌++◌, Bool, true, false, cond, Some, refl, ap, sym, ◌∙◌, flat_map, slice_get, inl, inr}
use Rattle.std.specs.List.{find}
use Rattle.design_laws.proofs.Members.{Has, has_first, has_from, has_in, has_later, some_same}

-- No two members have the same taken of them.
abbrev pub AreApart : {X Y : Type 0} → (X → Y) → List X → Type 0
AreApart f [] = Unit {0}
AreApart f (x ∷ xs) = ((y : _) → Has xs y → f x ≡ f y → ⊥) × AreApart f xs

module _ {X Y : Type 0} (f : X → Y) where
  pub same_place : (xs : List X) (i j : ℕ) (a b : X) → AreApart f xs → slice_get xs i ≡ Some a → slice_get xs j ≡ Some b → f a ≡ f b → i ≡ j
  same_place [] i j a b apart at other same = absurd cc
  same_place (x ∷ xs) zero zero a b apart at other same = refl
  same_place (x ∷ xs) zero (suc j) a b apart at other same = absurd (apart.0 b (j, other) (ap f (some_same x a at) ∙ same))
  same_place (x ∷ xs) (suc i) zero a b apart at other same = absurd (apart.0 a (i, at) (ap f (some_same x b other) ∙ sym same))
  same_place (x ∷ xs) (suc i) (suc j) a b apart at other same = ap suc (same_place xs i j a b apart.1 at other same)

  pub apart_joined : (xs ys : List X) → AreApart f xs → AreApart f ys → ((x y : X) → Has xs x → Has ys y → f x ≡ f y → ⊥)
      → AreApart f (xs ++ ys)
  apart_joined [] ys apart others between = others
  apart_joined (x ∷ xs) ys apart others between = (
    λ y has same. elim (has_in xs ys y has) [
      | inl here ↦ apart.0 y here same
      | inr there ↦ between x y (has_first x xs) there same
    ],
    apart_joined xs ys apart.1 others (λ a b has other same. between a b (has_later x xs a has) other same),
  )

  -- Lists of members are apart where each is, and where members of two are.
  pub apart_each : {Z W : Type 0} (g : Z → List X) (h : Z → W) (zs : List Z) → AreApart h zs
      → ((z : Z) → Has zs z → AreApart f (g z))
      → ((z w : Z) (x y : X) → Has (g z) x → Has (g w) y → f x ≡ f y → h z ≡ h w) → AreApart f (flat_map g zs)
  apart_each g h [] apart inside between = tt
  apart_each g h (z ∷ zs) apart inside between =
      apart_joined (g z) (flat_map g zs) (inside z (has_first z zs))
      (apart_each g h zs apart.1 (λ w has. inside w (has_later z zs w has)) between)
      (λ x y has other same.
      let from = has_from g zs y other in
      apart.0 from.0 from.1 (between z from.0 x y has from.2 same))

-- A member is found by what is taken of it.
pub found_apart : {X Y : Type 0} (f : X → Y) (same : Y → Y → Bool) (xs : List X) (x : X) → ((a b : Y) → same a b ≡ true → a ≡ b)
    → ((a : Y) → same a a ≡ true) → AreApart f xs → Has xs x → find (λ y. same (f y) (f x)) xs ≡ Some x
found_apart f same [] x is_same own apart (i, is) = absurd cc
found_apart f same (y ∷ xs) x is_same own apart (zero, is) =
    let here : y ≡ x = some_same y x is in
    ap (λ b. cond b (Some y) (find (λ y. same (f y) (f x)) xs)) (ap (λ y. same (f y) (f x)) here ∙ own (f x)) ∙ ap Some here
found_apart f same (y ∷ xs) x is_same own apart (suc i, is) =
    by (same (f y) (f x)) refl (found_apart f same xs x is_same own apart.1 (i, is))
  where
    by : (b : Bool) → same (f y) (f x) ≡ b → find (λ y. same (f y) (f x)) xs ≡ Some x
        → cond b (Some y) (find (λ y. same (f y) (f x)) xs) ≡ Some x
    by false at rest = rest
    by true at rest = absurd (apart.0 x (i, is) (is_same (f y) (f x) at))
