-- Facts on the events of a trace.
use Rattle.std.proofs.Common.{◌≡◌, ℕ, ◌+◌, ◌*◌, ◌<◌, ◌≤◌, ◌^◌, Bool, false, cond, not, suc, zero, List, [], ◌∷◌, ◌++◌, Some, map, length, slice_get, slice_index_or, refl, ap, arith, add-one, zero-add, subst, length-append, ◌∙◌}
use Rattle.std.specs.Bool.{beq}
use Rattle.std.specs.List.{count_by, range_with_len}
use Rattle.std.proofs.lemmas.List.Sums.{count_by-le-length, sum_by-append, sum_by-cons, length-filter}
use Rattle.std.proofs.lemmas.List.Concat.{flat_map-append}
use Rattle.std.proofs.lemmas.List.{append-nil, get_or_default}
use Rattle.std.proofs.lemmas.List.FromFn.{length-range_with_len, length-map-range_with_len}
use Rattle.std.proofs.lemmas.Option.{get_or_from_slice_get}
use Rattle.trace_rows.specs.Events.{differs_at, change_count, changes_at, places, event_count}

range_with_len-more : (a n j : ℕ) → a + n ≡ j → range_with_len a (n + 1) ≡ range_with_len a n ++ j ∷ []
range_with_len-more a zero j e = grind arith
range_with_len-more a (suc n) j e = grind (arith, range_with_len-more (a + 1) n j (omega arith))

-- no more bits differ than there are
pub change_count-le : (before after : List Bool) (n : ℕ) → change_count before after n ≤ n
change_count-le before after n =
    grind (arith, count_by-le-length (differs_at before after) (range_with_len 0 n), length-range_with_len 0 n)

pub change_count-more : (before after : List Bool) (n : ℕ) → change_count before after (n + 1) ≡ change_count before after n + cond (differs_at before after n) 1 0
change_count-more before after n =
    grind (arith, range_with_len-more 0 n n (omega arith), sum_by-append (λ b. cond (differs_at before after b) 1 0) (range_with_len 0 n) (n ∷ []))

-- two bits that were read say whether the rows differ there
pub differs_at-is : (before after : List Bool) (b : ℕ) (x y : Bool) → slice_get before b ≡ Some x → slice_get after b ≡ Some y → differs_at before after b ≡ not (beq x y)
differs_at-is before after b x y h k = grind (arith, get_or_from_slice_get before b x false h, get_or_from_slice_get after b y false k)

count_by-map : {X Y : Type 0} (p : Y → Bool) (f : X → Y) (xs : List X) → count_by p (map f xs) ≡ count_by (λ x. p (f x)) xs
count_by-map p f [] = refl
count_by-map p f (x ∷ xs) =
    grind (arith, sum_by-cons (λ y. cond (p y) 1 0) (f x) (map f xs), sum_by-cons (λ x. cond (p (f x)) 1 0) x xs, count_by-map p f xs)

-- the places of one row
abbrev pub row_places : ℕ → ℕ → List (ℕ × ℕ)
row_places i width = map (λ b. (i, b)) (range_with_len 0 width)

pub places-more : (n width : ℕ) → places (n + 1) width ≡ places n width ++ row_places n width
places-more n width =
    rw (range_with_len-more 0 n n (zero-add n)) (rw flat_map-append (ap (λ xs. places n width ++ xs) (append-nil (row_places n width))))

length-places : (n width : ℕ) → length (places n width) ≡ n * width
length-places zero width = grind arith
length-places (suc n) width =
    let P : ℕ → Type 0 = λ k. length (places k width) ≡ k * width in
    subst P (add-one n) (rw (places-more n width) (rw length-append (rw (length-places n width) (rw length-map-range_with_len (grind arith)))))

-- the events in the first n rows
abbrev pub events_before : List Bool → List (List Bool) → ℕ → ℕ
events_before base rows n = count_by (changes_at base rows) (places n (length base))

pub events_before-more : (base : List Bool) (rows : List (List Bool)) (n : ℕ) → events_before base rows (n + 1) ≡ events_before base rows n + change_count (slice_index_or (base ∷ rows) n []) (slice_index_or rows n []) (length base)
events_before-more base rows n =
    rw (places-more n (length base)) (sum_by-append (λ place. cond (changes_at base rows place) 1 0) (places n (length base)) (row_places n (length base)) ∙ ap (λ k. events_before base rows n + k) (count_by-map (changes_at base rows) (λ b. (n, b)) (range_with_len 0 (length base))))

pub events_before-le : (base : List Bool) (rows : List (List Bool)) (n : ℕ) → events_before base rows n ≤ n * length base
events_before-le base rows n =
    grind (arith, count_by-le-length (changes_at base rows) (places n (length base)), length-places n (length base))

pub event_count-is : (base : List Bool) (rows : List (List Bool)) → event_count base rows ≡ events_before base rows (length rows)
event_count-is base rows = length-filter (changes_at base rows) (places (length rows) (length base))

-- a count of the events in the first n rows, of which `before` is the last
pub record Counted (base : List Bool) (rows : List (List Bool)) (n : ℕ) (before : List Bool) (count : ℕ) : Type 0 where
  pub last : before ≡ slice_index_or (base ∷ rows) n []
  pub width : length before ≡ length base
  pub counted : count ≡ events_before base rows n

pub Counted-more : (base : List Bool) (rows : List (List Bool)) (n : ℕ) (before row : List Bool) (count : ℕ) → Counted base rows n before count → n < length rows → row ≡ slice_index_or rows n row → length row ≡ length base → Counted base rows (n + 1) row (count + change_count before row (length before))
Counted-more base rows n before row count h within is width =
    let row_is : row ≡ slice_index_or rows n [] = is ∙ get_or_default rows n row [] within in
    record {
      last = rw add-one row_is;
      width = width;
      counted = rw (events_before-more base rows n) (rw (← h.last) (rw (← row_is) (rw h.width (rw h.counted))));
    }

-- the count fits where the bits of all rows together do
pub Counted-fits : (base : List Bool) (rows : List (List Bool)) (n : ℕ) (before : List Bool) (count more : ℕ) → Counted base rows n before count → n < length rows → length rows * length base < 2 ^ 64 → more ≤ length before → count + more < 2 ^ 64
Counted-fits base rows n before count more h within fits bound =
    grind (arith, events_before-le base rows n, h.width, h.counted)
