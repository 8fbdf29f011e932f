-- Lemmas on lists.
use Rattle.std.proofs.Common.{◌≡◌, ℕ, ◌+◌, ◌<◌, ◌≤◌, suc, List, [], ◌∷◌, ◌++◌, Bool, true, false, cond, not, ◌||◌, length, take, drop, arith, refl, sym, ap, ◌∙◌}
use Rattle.std.proofs.lemmas.List.{length-drop}
use Rattle.std.specs.List.{after_first, before_first, list_any, position_or_len}

one_more : (n : ℕ) → 1 + n ≡ suc n
one_more n = omega arith

two_more : (n : ℕ) → 1 + n + 1 ≡ suc (n + 1)
two_more n = omega arith

one_behind : (n : ℕ) → n + 1 ≡ suc n
one_behind n = omega arith

module _ {X : Type 0} (p : X → Bool) where
  -- a test that is passed, or not, at the front of a list
  pub any_within : (xs : List X) → position_or_len p xs < length xs → list_any p xs ≡ true
  any_within [] h = absurd (omega arith)
  any_within (x ∷ xs) h = by (p x) h (any_within xs)
    where
      by : (b : Bool) → cond (not b) (1 + position_or_len p xs) 0 < suc (length xs) → (position_or_len p xs < length xs → list_any p xs ≡ true) → (b || list_any p xs) ≡ true
      by true h ih = refl
      by false h ih = ih (omega arith)

  pub none_within : (xs : List X) → length xs ≤ position_or_len p xs → list_any p xs ≡ false
  none_within [] h = refl
  none_within (x ∷ xs) h = by (p x) h (none_within xs)
    where
      by : (b : Bool) → suc (length xs) ≤ cond (not b) (1 + position_or_len p xs) 0 → (length xs ≤ position_or_len p xs → list_any p xs ≡ false) → (b || list_any p xs) ≡ false
      by true h ih = absurd (omega arith)
      by false h ih = ih (omega arith)

  -- what stands before and behind the first that passes, where the first of all does not
  pub before_more : (x : X) (xs : List X) → p x ≡ false → before_first p (x ∷ xs) ≡ x ∷ before_first p xs
  before_more x xs h = rw h (ap (λ n. take n (x ∷ xs)) (one_more (position_or_len p xs)))

  pub after_more : (x : X) (xs : List X) → p x ≡ false → after_first p (x ∷ xs) ≡ after_first p xs
  after_more x xs h =
      rw h (ap (λ n. drop n (x ∷ xs)) (two_more (position_or_len p xs)))

  pub before_now : (x : X) (xs : List X) → p x ≡ true → before_first p (x ∷ xs) ≡ []
  before_now x xs h = rw h refl

  pub after_now : (x : X) (xs : List X) → p x ≡ true → after_first p (x ∷ xs) ≡ xs
  after_now x xs h = rw h refl

  pub any_more : (x : X) (xs : List X) → p x ≡ false → list_any p (x ∷ xs) ≡ list_any p xs
  any_more x xs h = rw h refl

  pub any_now : (x : X) (xs : List X) → p x ≡ true → list_any p (x ∷ xs) ≡ true
  any_now x xs h = rw h refl

  pub taken_now : (x : X) (xs : List X) → p x ≡ true → take (position_or_len p (x ∷ xs) + 1) (x ∷ xs) ≡ x ∷ []
  taken_now x xs h = rw h refl

  pub taken_more : (x : X) (xs : List X) → p x ≡ false → take (position_or_len p (x ∷ xs) + 1) (x ∷ xs) ≡ x ∷ take (position_or_len p xs + 1) xs
  taken_more x xs h = rw h (ap (λ n. take n (x ∷ xs)) (two_more (position_or_len p xs)))

  -- through the first that passes, where none at the front does
  pub take_through : (front xs : List X) → list_any p front ≡ false → take (position_or_len p (front ++ xs) + 1) (front ++ xs) ≡ front ++ take (position_or_len p xs + 1) xs
  take_through [] xs none = refl
  take_through (x ∷ front) xs none = by (p x) none (take_through front xs)
    where
      by : (b : Bool) → (b || list_any p front) ≡ false → (list_any p front ≡ false → take (position_or_len p (front ++ xs) + 1) (front ++ xs) ≡ front ++ take (position_or_len p xs + 1) xs)
          → take (cond (not b) (1 + position_or_len p (front ++ xs)) 0 + 1) (x ∷ (front ++ xs)) ≡ x ∷ (front ++ take (position_or_len p xs + 1) xs)
      by true none ih = absurd (cc)
      by false none ih = ap (λ n. take n (x ∷ (front ++ xs))) (two_more (position_or_len p (front ++ xs))) ∙ ap (λ rest. x ∷ rest) (ih none)

  pub drop_through : (front xs : List X) → list_any p front ≡ false → drop (position_or_len p (front ++ xs) + 1) (front ++ xs) ≡ drop (position_or_len p xs + 1) xs
  drop_through [] xs none = refl
  drop_through (x ∷ front) xs none = by (p x) none (drop_through front xs)
    where
      by : (b : Bool) → (b || list_any p front) ≡ false → (list_any p front ≡ false → drop (position_or_len p (front ++ xs) + 1) (front ++ xs) ≡ drop (position_or_len p xs + 1) xs)
          → drop (cond (not b) (1 + position_or_len p (front ++ xs)) 0 + 1) (x ∷ (front ++ xs)) ≡ drop (position_or_len p xs + 1) xs
      by true none ih = absurd (cc)
      by false none ih = ap (λ n. drop n (x ∷ (front ++ xs))) (two_more (position_or_len p (front ++ xs))) ∙ ih none

  pub any_append : (front xs : List X) → list_any p front ≡ false → list_any p (front ++ xs) ≡ list_any p xs
  any_append [] xs none = refl
  any_append (x ∷ front) xs none = by (p x) none (any_append front xs)
    where
      by : (b : Bool) → (b || list_any p front) ≡ false → (list_any p front ≡ false → list_any p (front ++ xs) ≡ list_any p xs) → (b || list_any p (front ++ xs)) ≡ list_any p xs
      by true none ih = absurd (cc)
      by false none ih = ih none

  -- the first is taken in any case
  pub take_first : (x : X) (xs : List X) → take (position_or_len p (x ∷ xs) + 1) (x ∷ xs) ≡ x ∷ take (position_or_len p (x ∷ xs)) xs
  take_first x xs = ap (λ n. take n (x ∷ xs)) (one_behind (position_or_len p (x ∷ xs)))

  -- where all up to the first that passes are taken, it is there as before, and so is what stands before it
  pub before_taken : (xs : List X) → before_first p (take (position_or_len p xs + 1) xs) ≡ before_first p xs
  before_taken [] = refl
  before_taken (x ∷ xs) = by (p x) refl (before_taken xs)
    where
      by : (b : Bool) → p x ≡ b → before_first p (take (position_or_len p xs + 1) xs) ≡ before_first p xs → before_first p (take (position_or_len p (x ∷ xs) + 1) (x ∷ xs)) ≡ before_first p (x ∷ xs)
      by true is ih = ap (before_first p) (taken_now x xs is) ∙ before_now x [] is ∙ sym (before_now x xs is)
      by false is ih = ap (before_first p) (taken_more x xs is) ∙ before_more x (take (position_or_len p xs + 1) xs) is ∙ ap (λ rest. x ∷ rest) ih ∙ sym (before_more x xs is)

  pub any_taken : (xs : List X) → list_any p (take (position_or_len p xs + 1) xs) ≡ list_any p xs
  any_taken [] = refl
  any_taken (x ∷ xs) = by (p x) refl (any_taken xs)
    where
      by : (b : Bool) → p x ≡ b → list_any p (take (position_or_len p xs + 1) xs) ≡ list_any p xs → list_any p (take (position_or_len p (x ∷ xs) + 1) (x ∷ xs)) ≡ list_any p (x ∷ xs)
      by true is ih = ap (list_any p) (taken_now x xs is) ∙ any_now x [] is ∙ sym (any_now x xs is)
      by false is ih = ap (list_any p) (taken_more x xs is) ∙ any_more x (take (position_or_len p xs + 1) xs) is ∙ ih ∙ sym (any_more x xs is)

  pub after_none : (xs : List X) → list_any p xs ≡ false → after_first p xs ≡ []
  after_none [] none = refl
  after_none (x ∷ xs) none = by (p x) refl none (after_none xs)
    where
      by : (b : Bool) → p x ≡ b → (b || list_any p xs) ≡ false → (list_any p xs ≡ false → after_first p xs ≡ []) → after_first p (x ∷ xs) ≡ []
      by true is none ih = absurd (cc)
      by false is none ih = after_more x xs is ∙ ih none

  pub after_shorter : (xs : List X) → length (after_first p xs) ≤ length xs
  after_shorter xs = omega (arith, length-drop (position_or_len p xs + 1) xs)
