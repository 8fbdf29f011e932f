-- What stands where in lists that grow, and marks.
use Rattle.std.specs.Prelude.{◌≡◌, ◌≢◌, ◌⊎◌, ℕ, zero, suc, ◌+◌, ◌<◌, ◌≤◌, List, [], ◌∷◌, ◌++◌, Bool, true, false, Option, Some, cond, length, refl, replicate, slice_get, slice_set}
use Rattle.std.proofs.Common.{ap, arith, get_or, inl, inr, length-append, sym, ◌∙◌}
use Rattle.std.proofs.Math.ListN.{length-set}
use Rattle.std.proofs.lemmas.List.Sums.{count_by-le-length, sum_by-set}
use Rattle.std.proofs.lemmas.Option.{get_or_from_slice_get, none-some, slice_get_within}
use Rattle.net_order.specs.Marks.{Grows, Marked, Rising, Stands, mark_count, unmarked}

pub some_same : {A : Type 0} → (a b : A) → ◌≡◌ {A = Option A} (Some a) (Some b) → a ≡ b
some_same a b is = cc

pub differ : {A : Type 0} → (found : Option Bool) → found ≡ Some true → found ≡ Some false → A
differ found is not = absurd (let same : true ≡ false = some_same true false (sym is ∙ not) in cc)

pub same_or_not : (n i : ℕ) → (n ≡ i) ⊎ (n ≢ i)
same_or_not zero zero = inl refl
same_or_not zero (suc i) = inr (λ e. omega arith)
same_or_not (suc n) zero = inr (λ e. omega arith)
same_or_not (suc n) (suc i) = elim (same_or_not n i) [ inl e ↦ inl (omega arith) | inr e ↦ inr (λ is. e (omega arith)) ]

-- ---- a list with one item more

module _ {A : Type 0} where
  pub get_kept : (xs ys : List A) (i : ℕ) (x : A) → slice_get xs i ≡ Some x → slice_get (xs ++ ys) i ≡ Some x
  get_kept [] ys i x is = absurd (none-some x is)
  get_kept (y ∷ xs) ys zero x is = is
  get_kept (y ∷ xs) ys (suc i) x is = get_kept xs ys i x is

  pub get_last : (xs : List A) (x : A) → slice_get (xs ++ x ∷ []) (length xs) ≡ Some x
  get_last [] x = refl
  get_last (y ∷ xs) x = get_last xs x

  pub get_more : (xs : List A) (y : A) (i : ℕ) (x : A) → slice_get (xs ++ y ∷ []) i ≡ Some x →
      (slice_get xs i ≡ Some x) ⊎ ((i ≡ length xs) × (y ≡ x))
  get_more [] y zero x is = inr (refl, some_same y x is)
  get_more [] y (suc i) x is = absurd (none-some x is)
  get_more (z ∷ xs) y zero x is = inl is
  get_more (z ∷ xs) y (suc i) x is = elim (get_more xs y i x is) [
    | inl old ↦ inl old
    | inr new ↦ let place = new.0 in inr (omega arith, new.1)
  ]

  pub length_more : (xs : List A) (x : A) → length (xs ++ x ∷ []) ≡ length xs + 1
  length_more xs x = length-append xs (x ∷ [])

-- ---- a list where one item is replaced

module _ {A : Type 0} where
  pub get_set_here : (xs : List A) (i : ℕ) (x : A) → i < length xs → slice_get (slice_set xs i x) i ≡ Some x
  get_set_here [] i x inside = absurd (omega arith)
  get_set_here (y ∷ xs) zero x inside = refl
  get_set_here (y ∷ xs) (suc i) x inside = get_set_here xs i x (omega arith)

  pub get_set_other : (xs : List A) (i n : ℕ) (x : A) → n ≢ i → slice_get (slice_set xs i x) n ≡ slice_get xs n
  get_set_other [] i n x apart = refl
  get_set_other (y ∷ xs) zero zero x apart = absurd (apart refl)
  get_set_other (y ∷ xs) zero (suc n) x apart = refl
  get_set_other (y ∷ xs) (suc i) zero x apart = refl
  get_set_other (y ∷ xs) (suc i) (suc n) x apart = get_set_other xs i n x (λ e. apart (omega arith))

-- ---- what stands in a list

pub stands_kept : (list : List ℕ) (last number : ℕ) → Stands list number → Stands (list ++ last ∷ []) number
stands_kept list last number stands = (stands.0, get_kept list (last ∷ []) stands.0 number stands.1)

pub stands_last : (list : List ℕ) (last number : ℕ) → last ≡ number → Stands (list ++ last ∷ []) number
stands_last list last number same = (length list, get_last list last ∙ ap Some same)

pub stands_back : (list : List ℕ) (last number : ℕ) → Stands (list ++ last ∷ []) number → Stands list number ⊎ (last ≡ number)
stands_back list last number stands = elim (get_more list last stands.0 number stands.1) [
  | inl old ↦ inl (stands.0, old)
  | inr now ↦ inr now.1
]

pub none_stands : (list : List ℕ) (number : ℕ) → list ≡ [] → Stands list number → ⊥
none_stands list number none stands = none-some number (ap (λ one. slice_get one stands.0) (sym none) ∙ stands.1)

-- ---- lists that increase

pub rises_front : (list : List ℕ) (last : ℕ) → Rising (list ++ last ∷ []) → Rising list
rises_front list last rises first second lower upper at then less =
    rises first second lower upper (get_kept list (last ∷ []) first lower at) (get_kept list (last ∷ []) second upper then) less

pub rises_last : (list : List ℕ) (last : ℕ) → Rising (list ++ last ∷ []) → (number : ℕ) → Stands list number → number < last
rises_last list last rises number stands =
    rises stands.0 (length list) number last (get_kept list (last ∷ []) stands.0 number stands.1) (get_last list last)
    (slice_get_within list stands.0 number stands.1)

pub rises_to : (list : List ℕ) (last : ℕ) → Rising (list ++ last ∷ []) → (number : ℕ) → Stands (list ++ last ∷ []) number
    → number ≤ last
rises_to list last rises number stands = elim (stands_back list last number stands) [
  | inl old ↦ let less = rises_last list last rises number old in omega arith
  | inr same ↦ omega arith
]

pub rises_more : (list : List ℕ) (last : ℕ) → Rising list → ((number : ℕ) → Stands list number → number < last)
    → Rising (list ++ last ∷ [])
rises_more list last rises below first second lower upper at then less =
    elim (get_more list last first lower at) [
      | inl old ↦ elim (get_more list last second upper then) [
        | inl older ↦ rises first second lower upper old older less
        | inr now ↦ let under = below lower (first, old) in omega (arith, under, now.1)
      ]
      | inr now ↦ elim (get_more list last second upper then) [
        | inl older ↦ let inside = slice_get_within list second upper older in absurd (omega (arith, inside, now.0, less))
        | inr also ↦ absurd (omega (arith, now.0, also.0, less))
      ]
    ]

-- ---- marks

pub set_here : (marks : List Bool) (i : ℕ) → i < length marks → Marked (slice_set marks i true) i
set_here marks i inside = get_set_here marks i true inside

pub set_kept : (marks : List Bool) (i : ℕ) → Grows marks (slice_set marks i true)
set_kept [] i n is = is
set_kept (mark ∷ marks) zero zero is = refl
set_kept (mark ∷ marks) zero (suc n) is = is
set_kept (mark ∷ marks) (suc i) zero is = is
set_kept (mark ∷ marks) (suc i) (suc n) is = set_kept marks i n is

pub set_other : (marks : List Bool) (i n : ℕ) → n ≢ i → slice_get (slice_set marks i true) n ≡ slice_get marks n
set_other marks i n apart = get_set_other marks i n true apart

pub set_back : (marks : List Bool) (i n : ℕ) → Marked (slice_set marks i true) n → (n ≡ i) ⊎ Marked marks n
set_back marks i n is = elim (same_or_not n i) [
  | inl e ↦ inl e
  | inr apart ↦ inr (sym (set_other marks i n apart) ∙ is)
]

pub count_set : (marks : List Bool) (i : ℕ) → slice_get marks i ≡ Some false → mark_count (slice_set marks i true) ≡ mark_count marks + 1
count_set marks i is =
    let counts : mark_count (slice_set marks i true) + cond {A = ℕ} (get_or marks i false) 1 0 ≡ mark_count marks + 1 =
    sum_by-set (λ b. cond b 1 0) marks i true false (slice_get_within marks i false is) in
    let none : cond {A = ℕ} (get_or marks i false) 1 0 ≡ 0 = ap (λ b. cond {A = ℕ} b 1 0) (get_or_from_slice_get marks i false false is) in
    omega arith

pub unmarked_set : (marks : List Bool) (i : ℕ) → slice_get marks i ≡ Some false → unmarked (slice_set marks i true) + 1 ≡ unmarked marks
unmarked_set marks i is =
    omega (arith, count_set marks i is, length-set marks i true, count_by-le-length (λ mark. mark) (slice_set marks i true))

-- within the marks, one is there or not
pub get_either : (marks : List Bool) (n : ℕ) → n < length marks → (slice_get marks n ≡ Some true) ⊎ (slice_get marks n ≡ Some false)
get_either [] n inside = absurd (omega arith)
get_either (true ∷ marks) zero inside = inl refl
get_either (false ∷ marks) zero inside = inr refl
get_either (mark ∷ marks) (suc n) inside = get_either marks n (omega arith)

pub get_none : (count n : ℕ) → Marked (replicate count false) n → ⊥
get_none zero n is = absurd (none-some true is)
get_none (suc count) zero is = differ (Some false) is refl
get_none (suc count) (suc n) is = get_none count n is
