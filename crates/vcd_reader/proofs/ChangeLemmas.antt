-- Changes and times, one item more.
use Rattle.std.proofs.Common.{◌≡◌, ℕ, ◌==◌, List, [], ◌∷◌, ◌++◌, Bool, true, false, cond, Some, None, unwrap_or, if◌then◌else◌, refl, subst, sym, ap, ◌∙◌, arith}
use Rattle.std.specs.List.{dedup, dedup_from, last_or}
use Rattle.vcd_reader.specs.Body.{Item}
use Rattle.vcd_reader.specs.Body.Item.{time, change, misplaced, unfinished}
use Rattle.vcd_reader.specs.Changes.{ChangesGrow, TimesGrow, all_times, triple_of, triples_from}

last_from : (xs : List ℕ) (x first : ℕ) → unwrap_or (last_or (Some x) xs) first ≡ unwrap_or (last_or None xs) x
last_from [] x first = refl
last_from (y ∷ xs) x first = by xs y
  where
    by : (xs : List ℕ) (y : ℕ) → unwrap_or (last_or (Some y) xs) first ≡ unwrap_or (last_or (Some y) xs) x
    by [] y = refl
    by (z ∷ xs) y = by xs z

pub changes_grow : ChangesGrow
changes_grow first [] (time at value) = refl
changes_grow first [] (change at code digits) = refl
changes_grow first [] (misplaced at) = refl
changes_grow first [] (unfinished at) = refl
changes_grow first (time at value ∷ items) item =
    changes_grow value items item
    ∙ ap (λ now. triples_from value items ++ triple_of now item) (sym (last_from (all_times items) value first))
changes_grow first (change at code digits ∷ items) item =
    ap (λ later. record { time = first; code = code; digits = digits } ∷ later) (changes_grow first items item)
changes_grow first (misplaced at ∷ items) item = changes_grow first items item
changes_grow first (unfinished at ∷ items) item = changes_grow first items item

times_at_end : (items : List Item) (at now : ℕ) → all_times (items ++ time at now ∷ []) ≡ all_times items ++ now ∷ []
times_at_end [] at now = refl
times_at_end (time other value ∷ items) at now = ap (λ later. value ∷ later) (times_at_end items at now)
times_at_end (change other code digits ∷ items) at now = times_at_end items at now
times_at_end (misplaced other ∷ items) at now = times_at_end items at now
times_at_end (unfinished other ∷ items) at now = times_at_end items at now

abbrev equal : ℕ → ℕ → Bool
equal left right = left == right

equal_is : (x k : ℕ) → (x == k) ≡ true → x ≡ k
equal_is x k h = grind arith

pub dedup_more : (xs : List ℕ) (k before now : ℕ) → last_or (Some k) xs ≡ Some before → dedup_from equal k (xs ++ now ∷ []) ≡ dedup_from equal k xs ++ (if now == before then [] else now ∷ [])
dedup_more [] k before now is =
    let last : k ≡ before = cc in
    by (now == k) ∙ ap (λ before. k ∷ (if now == before then [] else now ∷ [])) last
  where
    by : (b : Bool) → cond b (k ∷ []) (k ∷ now ∷ []) ≡ k ∷ (if b then [] else now ∷ [])
    by true = refl
    by false = refl
dedup_more (x ∷ xs) k before now is = by (x == k) refl (dedup_more xs k before now) (dedup_more xs x before now is)
  where
    by : (b : Bool) → (x == k) ≡ b
        → (last_or (Some k) xs ≡ Some before → dedup_from equal k (xs ++ now ∷ []) ≡ dedup_from equal k xs ++ (if now == before then [] else now ∷ []))
        → dedup_from equal x (xs ++ now ∷ []) ≡ dedup_from equal x xs ++ (if now == before then [] else now ∷ [])
        → cond b (dedup_from equal k (xs ++ now ∷ [])) (k ∷ dedup_from equal x (xs ++ now ∷ [])) ≡ cond b (dedup_from equal k xs) (k ∷ dedup_from equal x xs) ++ (if now == before then [] else now ∷ [])
    by true h at_k at_x = at_k (subst (λ x. last_or (Some x) xs ≡ Some before) (equal_is x k h) is)
    by false h at_k at_x = ap (λ rest. k ∷ rest) at_x

dedup_end : (xs : List ℕ) (before now : ℕ) → last_or None xs ≡ Some before → dedup equal (xs ++ now ∷ []) ≡ dedup equal xs ++ (if now == before then [] else now ∷ [])
dedup_end [] before now is = absurd (cc)
dedup_end (x ∷ xs) before now is = dedup_more xs x before now is

pub times_grow : TimesGrow
times_grow items at before now is = ap (dedup equal) (times_at_end items at now) ∙ dedup_end (all_times items) before now is
