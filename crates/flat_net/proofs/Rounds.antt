-- Values that are found in rounds: each round gives the values that follow from those of the round before.
use Rattle.std.proofs.Common.{◌≡◌, ℕ, zero, suc, ◌+◌, ◌<◌, ◌≤◌, Bool, true, false, cond, not, ◌&&◌, List, [], ◌∷◌, length, slice_get, refl, sym, ◌∙◌, ap, arith, ◌⊎◌, inl, inr, Option, Some, None, is_some}
use Rattle.std.specs.List.{list_any, count_by}
use Rattle.std.proofs.lemmas.Bool.{cases_Bool, cases_lt, or_cases, or_parts, false≢true}
use Rattle.std.proofs.lemmas.List.Sums.{count_by-le-length, sum_by-cons}
use Rattle.std.proofs.lemmas.Option.{none-some, same_Some}
use Rattle.flat_net.specs.Orders.{IsBelow}

-- ---- values that may be missing

pub below_self : (first : Option Bool) → IsBelow first first
below_self first value h = h

pub below_through : (first second third : Option Bool) → IsBelow first second → IsBelow second third → IsBelow first third
below_through first second third h k value e = k value (h value e)

pub below_equal : (first second : Option Bool) → first ≡ second → IsBelow first second
below_equal first second same value e = sym same ∙ e

pub none_below : (first second : Option Bool) → first ≡ None → IsBelow first second
none_below first second none value e = absurd (none-some value (sym none ∙ e))

pub equal_by_below : (first second : Option Bool) → IsBelow first second → IsBelow second first → first ≡ second
equal_by_below None None h k = refl
equal_by_below None (Some value) h k = absurd (none-some value (k value refl))
equal_by_below (Some value) second h k = sym (h value refl)

some_is_value : (first : Option Bool) → is_some first ≡ true → (value : Bool) × (first ≡ Some value)
some_is_value None h = absurd (false≢true h)
some_is_value (Some value) h = (value, refl)

value_is_some : (first : Option Bool) (value : Bool) → first ≡ Some value → is_some first ≡ true
value_is_some first value e = ap is_some e

-- ---- counts of a list's members

counted_here : {X : Type 0} (p : X → Bool) (x : X) (xs : List X) → count_by p (x ∷ xs) ≡ cond (p x) 1 0 + count_by p xs
counted_here p x xs = sum_by-cons (λ y. cond (p y) 1 0) x xs

counts_below : (a b : Bool) → (a ≡ true → b ≡ true) → cond a 1 0 ≤ cond b 1 0
counts_below true true h = omega arith
counts_below true false h = absurd (false≢true (h refl))
counts_below false true h = omega arith
counts_below false false h = omega arith

-- the second test holds, and the first does not
abbrev pub is_new : {X : Type 0} → (X → Bool) → (X → Bool) → X → Bool
is_new p q x = q x && not (p x)

counts_new : (a b : Bool) → (b && not a) ≡ true → cond a 1 0 < cond b 1 0
counts_new true true h = absurd (false≢true h)
counts_new true false h = absurd (false≢true h)
counts_new false true h = omega arith
counts_new false false h = absurd (false≢true h)

-- a test that holds of more members counts no fewer
pub count_grows : {X : Type 0} (p q : X → Bool) → ((x : X) → p x ≡ true → q x ≡ true) → (xs : List X) →
    count_by p xs ≤ count_by q xs
count_grows p q more [] = omega arith
count_grows p q more (x ∷ xs) =
    let first = counted_here p x xs in
    let second = counted_here q x xs in
    let here = counts_below (p x) (q x) (more x) in
    let rest = count_grows p q more xs in
    omega (arith, first, second, here, rest)

-- and more, where it holds of a member that the other test does not hold of
pub count_grows_more : {X : Type 0} (p q : X → Bool) → ((x : X) → p x ≡ true → q x ≡ true) → (xs : List X) →
    list_any (is_new p q) xs ≡ true → count_by p xs < count_by q xs
count_grows_more p q more [] new = absurd (false≢true new)
count_grows_more p q more (x ∷ xs) new =
    let first = counted_here p x xs in
    let second = counted_here q x xs in
    elim (or_cases (is_new p q x) (list_any (is_new p q) xs) new) [
      | inl e ↦
          let here = counts_new (p x) (q x) e in
          let rest = count_grows p q more xs in
          omega (arith, first, second, here, rest)
      | inr e ↦
          let here = counts_below (p x) (q x) (more x) in
          let rest = count_grows_more p q more xs e in
          omega (arith, first, second, here, rest)
    ]

-- what holds of no member does not hold of the one at a place
pub none_at : {X : Type 0} (p : X → Bool) (xs : List X) → list_any p xs ≡ false → (place : ℕ) (x : X) →
    slice_get xs place ≡ Some x → p x ≡ false
none_at p [] none place x at_place = absurd (none-some x at_place)
none_at p (y ∷ ys) none zero x at_place = ap p (sym (same_Some y x at_place)) ∙ (or_parts (p y) (list_any p ys) none).0
none_at p (y ∷ ys) none (suc place) x at_place = none_at p ys (or_parts (p y) (list_any p ys) none).1 place x at_place

-- where an equality that is a test finds a thing in the list, it has a place there
pub place_by_test : {X : Type 0} (same : X → X → Bool) → ((x y : X) → same x y ≡ true → x ≡ y) → (xs : List X) (x : X) →
    list_any (same x) xs ≡ true → (place : ℕ) × (slice_get xs place ≡ Some x)
place_by_test same equal [] x h = absurd (false≢true h)
place_by_test same equal (y ∷ ys) x h =
    elim (or_cases (same x y) (list_any (same x) ys) h) [
      | inl e ↦ (zero, ap Some (sym (equal x y e)))
      | inr e ↦ let rest = place_by_test same equal ys x e in (suc rest.0, rest.1)
    ]

-- ---- rounds

-- Each round takes one step from the round before, and the first has no value. A step from more values gives more.
pub record IsRounds {X : Type 0} (step : (X → Option Bool) → X → Option Bool) (rounds : ℕ → X → Option Bool) : Type 0 where
  pub first : (x : X) → rounds zero x ≡ None
  pub next : (n : ℕ) (x : X) → rounds (suc n) x ≡ step (rounds n) x
  pub monotone : (read other : X → Option Bool) → ((x : X) → IsBelow (read x) (other x)) → (x : X) →
      IsBelow (step read x) (step other x)

-- The list has each thing that a step can give a value.
pub record HasAll {X : Type 0} (step : (X → Option Bool) → X → Option Bool) (among : X → Bool) (xs : List X) : Type 0 where
  pub covered : (x : X) → among x ≡ true → (place : ℕ) × (slice_get xs place ≡ Some x)
  pub outside : (read : X → Option Bool) (x : X) → among x ≡ false → step read x ≡ None

-- whether a thing has a value in a round
abbrev has_value : {X : Type 0} → (ℕ → X → Option Bool) → ℕ → X → Bool
has_value rounds n x = is_some (rounds n x)

-- the next round gives nothing more
abbrev StandsStill : {X : Type 0} (rounds : ℕ → X → Option Bool) (n : ℕ) → Type 0
StandsStill {X = X} rounds n = (x : X) → IsBelow (rounds (suc n) x) (rounds n x)

module _ {X : Type 0} (step : (X → Option Bool) → X → Option Bool)
    (rounds : ℕ → X → Option Bool) (are : IsRounds step rounds) where
  -- a step from equal values gives equal values
  pub step_equal : (read other : X → Option Bool) → ((x : X) → read x ≡ other x) → (x : X) → step read x ≡ step other x
  step_equal read other same x =
      equal_by_below (step read x) (step other x)
      (are.monotone read other (λ y. below_equal (read y) (other y) (same y)) x)
      (are.monotone other read (λ y. below_equal (other y) (read y) (sym (same y))) x)

  -- a later round keeps each value
  pub grows : (n m : ℕ) → n ≤ m → (x : X) → IsBelow (rounds n x) (rounds m x)
  grows zero m h x = none_below (rounds zero x) (rounds m x) (are.first x)
  grows (suc n) zero h x = absurd (omega arith)
  grows (suc n) (suc m) h x =
      let stepped : IsBelow (step (rounds n) x) (step (rounds m) x) =
      are.monotone (rounds n) (rounds m) (λ y. grows n m (omega arith) y) x in
      λ value e. are.next m x ∙ stepped value (sym (are.next n x) ∙ e)

  -- where a round stands still, so does the next
  still_next : (n : ℕ) → StandsStill rounds n → StandsStill rounds (suc n)
  still_next n still x =
      let stepped : IsBelow (step (rounds (suc n)) x) (step (rounds n) x) =
      are.monotone (rounds (suc n)) (rounds n) still x in
      λ value e. are.next n x ∙ stepped value (sym (are.next (suc n) x) ∙ e)

had_value : (after before : Bool) → (after && not before) ≡ false → after ≡ true → before ≡ true
had_value true true h e = refl
had_value true false h e = absurd (false≢true (sym h))
had_value false before h e = absurd (false≢true e)

module _ {X : Type 0} (step : (X → Option Bool) → X → Option Bool)
    (rounds : ℕ → X → Option Bool) (are : IsRounds step rounds)
    (among : X → Bool) (xs : List X) (all : HasAll step among xs) where
  -- a round that gives nothing more to the things of the list stands still
  still_at : (n : ℕ) → list_any (is_new (has_value rounds n) (has_value rounds (suc n))) xs ≡ false → (x : X) →
      (among x ≡ true) ⊎ (among x ≡ false) → IsBelow (rounds (suc n) x) (rounds n x)
  still_at n none x (inr e) = none_below (rounds (suc n) x) (rounds n x) (are.next n x ∙ all.outside (rounds n) x e)
  still_at n none x (inl e) =
      λ value h.
      let place = all.covered x e in
      let no_new = none_at (is_new (has_value rounds n) (has_value rounds (suc n))) xs none place.0 x place.1 in
      let later = value_is_some (rounds (suc n) x) value h in
      let known = some_is_value (rounds n x) (had_value (is_some (rounds (suc n) x)) (is_some (rounds n x)) no_new later) in
      let kept : rounds (suc n) x ≡ Some known.0 = grows step rounds are n (suc n) (omega arith) x known.0 known.1 in
      known.1 ∙ sym kept ∙ h

  -- a round stands still, or finds a value of one more thing of the list
  still_or_new : (n : ℕ) → StandsStill rounds n ⊎
      (count_by (has_value rounds n) xs < count_by (has_value rounds (suc n)) xs)
  still_or_new n =
      elim (cases_Bool (list_any (is_new (has_value rounds n) (has_value rounds (suc n))) xs)) [
        | inl new ↦
            inr (count_grows_more (has_value rounds n) (has_value rounds (suc n))
            (λ x h.
            let known = some_is_value (rounds n x) h in
            value_is_some (rounds (suc n) x) known.0 (grows step rounds are n (suc n) (omega arith) x known.0 known.1))
            xs new)
        | inr none ↦ inl (λ x. still_at n none x (cases_Bool (among x)))
      ]

  -- as long as no round stands still, there are at least as many values as rounds
  still_or_many : (n : ℕ) → StandsStill rounds n ⊎ (n ≤ count_by (has_value rounds n) xs)
  still_or_many zero = inr (omega arith)
  still_or_many (suc n) =
      elim (still_or_many n) [
        | inl still ↦ inl (still_next step rounds are n still)
        | inr many ↦
            elim (still_or_new n) [
              | inl still ↦ inl (still_next step rounds are n still)
              | inr new ↦ inr (omega (arith, many, new))
            ]
      ]

  still_at_length : StandsStill rounds (length xs)
  still_at_length =
      elim (still_or_many (length xs)) [
        | inl still ↦ still
        | inr many ↦
            elim (still_or_new (length xs)) [
              | inl still ↦ still
              | inr new ↦
                  let most = count_by-le-length (has_value rounds (suc (length xs))) xs in
                  absurd (omega (arith, many, new, most))
            ]
      ]

  -- after as many rounds as there are things, a step changes nothing
  pub fixed : (x : X) → rounds (length xs) x ≡ step (rounds (length xs)) x
  fixed x =
      equal_by_below (rounds (length xs) x) (rounds (suc (length xs)) x)
      (grows step rounds are (length xs) (suc (length xs)) (omega arith) x)
      (still_at_length x)
      ∙ are.next (length xs) x

  -- and more rounds give no more values
  pub settled : (n : ℕ) → length xs ≤ n → (x : X) → rounds n x ≡ rounds (length xs) x
  settled zero h x = ap (λ k. rounds k x) (omega arith)
  settled (suc n) h x =
      elim (cases_lt n (length xs)) [
        | inl last ↦ ap (λ k. rounds k x) (omega arith)
        | inr before ↦
            are.next n x
            ∙ step_equal step rounds are (rounds n) (rounds (length xs)) (settled n before) x
            ∙ sym (fixed x)
      ]
