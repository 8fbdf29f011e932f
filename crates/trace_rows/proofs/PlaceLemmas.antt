-- Which places the list of events has, and in which order.
use Rattle.std.proofs.Common.{◌≡◌, ◌≢◌, ◌↔◌, ℕ, zero, suc, ◌+◌, ◌<◌, Bool, true, false, not, List, [], ◌∷◌, ◌++◌, Some, Option, length, slice_index_or, refl, sym, ap, subst, inl, inr, arith, add-one, zero-add, nat_cmp, Less}
use Rattle.std.specs.Bool.{beq, Decides}
use Rattle.std.specs.Cmp.{booleans_Decides}
use Rattle.std.specs.List.{All, AllPairs, Contains, filter, range_with_len}
use Rattle.std.specs.Ordering.{ordering_then}
use Rattle.std.proofs.lemmas.Bool.{cond-true, cond_both, cases_lt}
use Rattle.std.proofs.lemmas.Bool.Decides.{nat_tests, Decides-not, Decides-like}
use Rattle.std.proofs.lemmas.List.Elements.{All-nil, All-cons, All-append, All-head, All-tail, All-map, All-weaker, All-contains, All-filter, filter_passes, All-contains_itself, Contains-append_left, Contains-append_right}
use Rattle.std.proofs.lemmas.List.FromFn.{length-map-range_with_len, length-range_with_len, get_or-range_with_len, get_or-map-range_with_len}
use Rattle.std.proofs.lemmas.List.Kept.{AllPairs-cons, AllPairs-filter}
use Rattle.std.proofs.lemmas.Option.{slice_get-get_or, same_Some}
use Rattle.trace_rows.specs.Events.{IsEvent, changes_at, places, event_places}
use Rattle.trace_rows.specs.Rows.{bit_of}
use Rattle.trace_rows.proofs.EventLemmas.{places-more, row_places}

-- ---- what a filter keeps

kept : {X : Type 0} (p : X → Bool) (xs : List X) → All (λ x. p x ≡ true → Contains (filter p xs) x) xs
kept p [] = All-nil (λ x. p x ≡ true → Contains (filter p []) x)
kept p (x ∷ xs) =
    All-cons (λ y. p y ≡ true → Contains (filter p (x ∷ xs)) y) x xs
    (λ t. rw (cond-true (p x) (x ∷ filter p xs) (filter p xs) t) (Contains-append_left (x ∷ []) (filter p xs) x (0, omega arith, refl)))
    (All-weaker (λ y. p y ≡ true → Contains (filter p xs) y) (λ y. p y ≡ true → Contains (filter p (x ∷ xs)) y)
    (λ y h t. cond_both (p x) (x ∷ filter p xs) (filter p xs) (λ zs. Contains zs y) (λ _. Contains-append_right (x ∷ []) (filter p xs) y (h t)) (λ _. h t)) xs (kept p xs))

Contains-filter : {X : Type 0} (p : X → Bool) (xs : List X) (x : X) → Contains xs x → p x ≡ true → Contains (filter p xs) x
Contains-filter p xs x h = All-contains (λ y. p y ≡ true → Contains (filter p xs) y) xs x (kept p xs) h

Contains-from_filter : {X : Type 0} (p : X → Bool) (xs : List X) (x : X) → Contains (filter p xs) x → Contains xs x × (p x ≡ true)
Contains-from_filter p xs x h =
    (All-contains (Contains xs) (filter p xs) x (All-filter p (Contains xs) xs (All-contains_itself xs)) h, All-contains (λ y. p y ≡ true) (filter p xs) x (filter_passes p xs) h)

-- ---- the places of a trace

abbrev IsPlace : ℕ → ℕ → ℕ × ℕ → Type 0
IsPlace n width place = (place.0 < n) × (place.1 < width)

All-row_places : (P : ℕ × ℕ → Type 0) (n width : ℕ) → ((b : ℕ) → b < width → P (n, b)) → All P (row_places n width)
All-row_places P n width h =
    All-map P (λ b. (n, b)) (range_with_len 0 width) (λ k d l. let m : k < width = omega (arith, length-range_with_len 0 width) in rw (get_or-range_with_len 0 width k d m) (rw zero-add (h k m)))

All-places : (n width : ℕ) → All (IsPlace n width) (places n width)
All-places zero width = All-nil (IsPlace 0 width)
All-places (suc n) width =
    let P : ℕ → Type 0 = λ k. All (IsPlace k width) (places k width) in
    subst P (add-one n) (rw (places-more n width) (All-append (IsPlace (n + 1) width) (places n width) (row_places n width) (All-weaker (IsPlace n width) (IsPlace (n + 1) width) (λ place h. (omega arith, h.1)) (places n width) (All-places n width)) (All-row_places (IsPlace (n + 1) width) n width (λ b h. (omega arith, h)))))

Contains-row_places : (n width b : ℕ) → b < width → Contains (row_places n width) (n, b)
Contains-row_places n width b h =
    (b, omega (arith, length-map-range_with_len {X = ℕ × ℕ} (λ b. (n, b)) 0 width), get_or-map-range_with_len (λ b. (n, b)) 0 width b b (n, b) h (omega arith))

Contains-places : (n width i b : ℕ) → i < n → b < width → Contains (places n width) (i, b)
Contains-places zero width i b h k = absurd (omega arith)
Contains-places (suc n) width i b h k =
    let P : ℕ → Type 0 = λ m. Contains (places m width) (i, b) in
    let here : i ≡ n → Contains (places (n + 1) width) (i, b) = λ e. rw (places-more n width) (rw e (Contains-append_right (places n width) (row_places n width) (n, b) (Contains-row_places n width b k))) in
    let before : i < n → Contains (places (n + 1) width) (i, b) = λ l. rw (places-more n width) (Contains-append_left (places n width) (row_places n width) (i, b) (Contains-places n width i b l k)) in
    subst P (add-one n) (elim (cases_lt i n) [ inl l ↦ before l | inr l ↦ here (omega arith) ])

-- ---- where there is an event

bit_of-is : (rows : List (List Bool)) (i b : ℕ) → i < length rows → b < length (slice_index_or rows i []) → bit_of rows i b ≡ Some (slice_index_or (slice_index_or rows i []) b false)
bit_of-is rows i b h k = rw (slice_get-get_or rows i [] h) (slice_get-get_or (slice_index_or rows i []) b false k)

Decides-differs : (x y : Bool) → Decides (not (beq x y)) (◌≢◌ {A = Option Bool} (Some y) (Some x))
Decides-differs x y =
    Decides-like (not (beq x y)) (λ n e. n (same_Some x y (sym e))) (λ n e. n (ap Some (sym e))) (Decides-not (beq x y) (booleans_Decides x y))

Decides-changes_at : (base : List Bool) (rows : List (List Bool)) (i b : ℕ) → All (λ row. length row ≡ length base) rows → i < length rows → b < length base → Decides (changes_at base rows (i, b)) (bit_of rows i b ≢ bit_of (base ∷ rows) i b)
Decides-changes_at base rows i b all h k =
    let width : length (slice_index_or rows i []) ≡ length base = all i [] h in
    let within : i < length (base ∷ rows) = omega arith in
    let width_before : length (slice_index_or (base ∷ rows) i []) ≡ length base = All-cons (λ row. length row ≡ length base) base rows refl all i [] within in
    rw (bit_of-is rows i b h (omega arith)) (rw (bit_of-is (base ∷ rows) i b within (omega arith)) (Decides-differs (slice_index_or (slice_index_or (base ∷ rows) i []) b false) (slice_index_or (slice_index_or rows i []) b false)))

pub listed : (base : List Bool) (rows : List (List Bool)) → All (λ row. length row ≡ length base) rows → (i b : ℕ) → Contains (event_places base rows) (i, b) ↔ IsEvent base rows i b
listed base rows all i b = (
  λ h.
      let passed = Contains-from_filter (changes_at base rows) (places (length rows) (length base)) (i, b) h in
      let within = All-contains (IsPlace (length rows) (length base)) (places (length rows) (length base)) (i, b) (All-places (length rows) (length base)) passed.0 in
      record { row = within.0; bit = within.1; differs = (Decides-changes_at base rows i b all within.0 within.1).0 passed.1 },
  λ e. Contains-filter (changes_at base rows) (places (length rows) (length base)) (i, b) (Contains-places (length rows) (length base) i b e.row e.bit) ((Decides-changes_at base rows i b all e.row e.bit).1 e.differs),
)

-- ---- the order of places

abbrev Precedes : ℕ × ℕ → ℕ × ℕ → Type 0
Precedes p q = ordering_then (nat_cmp p.0 q.0) (nat_cmp p.1 q.1) ≡ Less

by_row : (p q : ℕ × ℕ) → p.0 < q.0 → Precedes p q
by_row p q h = grind (arith, nat_tests)

by_bit : (n b c : ℕ) → b < c → Precedes (n, b) (n, c)
by_bit n b c h = grind (arith, nat_tests)

AllPairs-append : {X : Type 0} (R : X → X → Type 0) (xs ys : List X) → AllPairs R xs → AllPairs R ys → All (λ x. All (R x) ys) xs → AllPairs R (xs ++ ys)
AllPairs-append R [] ys p q a = q
AllPairs-append R (x ∷ xs) ys p q a =
    AllPairs-cons R x (xs ++ ys)
    (All-append (R x) xs ys (λ k d h. p 0 (suc k) d (omega arith) (omega arith)) (All-head (λ y. All (R y) ys) x xs a))
    (AllPairs-append R xs ys (λ i j d h k. p (suc i) (suc j) d (omega arith) (omega arith)) q (All-tail (λ y. All (R y) ys) x xs a))

AllPairs-row_places : (n width : ℕ) → AllPairs Precedes (row_places n width)
AllPairs-row_places n width i j d h k =
    let l : j < width = omega (arith, length-map-range_with_len {X = ℕ × ℕ} (λ b. (n, b)) 0 width) in
    rw (get_or-map-range_with_len (λ b. (n, b)) 0 width i i d (omega arith) (omega arith)) (rw (get_or-map-range_with_len (λ b. (n, b)) 0 width j j d l (omega arith)) (by_bit n i j h))

AllPairs-places : (n width : ℕ) → AllPairs Precedes (places n width)
AllPairs-places zero width = λ i j d h k. absurd (omega arith)
AllPairs-places (suc n) width =
    let P : ℕ → Type 0 = λ m. AllPairs Precedes (places m width) in
    subst P (add-one n) (rw (places-more n width) (AllPairs-append Precedes (places n width) (row_places n width) (AllPairs-places n width) (AllPairs-row_places n width) (All-weaker (IsPlace n width) (λ p. All (Precedes p) (row_places n width)) (λ p h. All-row_places (Precedes p) n width (λ b l. by_row p (n, b) h.0)) (places n width) (All-places n width))))

pub increasing : (base : List Bool) (rows : List (List Bool)) → AllPairs Precedes (event_places base rows)
increasing base rows =
    AllPairs-filter Precedes (changes_at base rows) (places (length rows) (length base)) (AllPairs-places (length rows) (length base))
