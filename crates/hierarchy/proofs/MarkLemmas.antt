-- Marks that are set one after the other, and membership in a list of places.
use Rattle.std.proofs.Common.{◌≡◌, ◌≢◌, ℕ, zero, suc, ◌+◌, ◌<◌, ◌≤◌, Bool, true, false, ◌||◌, ◌&&◌, not, List, [], ◌∷◌, ◌++◌, length, get_or, set, take, length-append, refl, sym, ◌∙◌, ap, subst, arith, nat_eq, ◌⊎◌, inl, inr, cond}
use Rattle.std.proofs.lemmas.Bool.{cases_Bool, or_left, or_right, eqb-true, eqb-false, eq-eqb, false≢true}
use Rattle.std.proofs.lemmas.List.{take_all, take_more, get_or-set_same, get_or-set_other}
use Rattle.std.proofs.lemmas.List.Folds.{list_any-append}
use Rattle.std.proofs.lemmas.List.Sums.{sum_by-set}
use Rattle.std.proofs.Math.ListN.{length-set}
use Rattle.hierarchy.specs.Graph.{has, is_marked}
use Rattle.hierarchy.specs.Marks.{Visits, count_marks}

-- two tests that pass together are the same
pub same_test : (a b : Bool) → (a ≡ true → b ≡ true) → (b ≡ true → a ≡ true) → a ≡ b
same_test true b h k = sym (h refl)
same_test false true h k = k refl
same_test false false h k = refl

or_false : (a : Bool) → (a || false) ≡ a
or_false true = refl
or_false false = refl

-- ---- membership

pub has-append : (xs ys : List ℕ) (place : ℕ) → has (xs ++ ys) place ≡ (has xs place || has ys place)
has-append xs ys place = list_any-append (λ other. nat_eq other place) xs ys

pub has-last : (xs : List ℕ) (x place : ℕ) → has (xs ++ x ∷ []) place ≡ (has xs place || nat_eq x place)
has-last xs x place = has-append xs (x ∷ []) place ∙ ap (λ b. has xs place || b) (or_false (nat_eq x place))

pub has-more : (xs : List ℕ) (i place : ℕ) → i < length xs → has (take (i + 1) xs) place ≡ (has (take i xs) place || nat_eq (get_or xs i 0) place)
has-more xs i place h = ap (λ ys. has ys place) (take_more xs i 0 h) ∙ has-last (take i xs) (get_or xs i 0) place

pub has-at : (xs : List ℕ) (i : ℕ) → i < length xs → has xs (get_or xs i 0) ≡ true
has-at [] i h = absurd (omega arith)
has-at (x ∷ xs) zero h = or_left _ _ (eq-eqb x x refl)
has-at (x ∷ xs) (suc i) h = or_right _ _ (has-at xs i (omega arith))

-- ---- marks

is_marked-set_by : (marks : List Bool) (i place : ℕ) → i < length marks → (nat_eq i place ≡ true) ⊎ (nat_eq i place ≡ false) → is_marked (set marks i true) place ≡ (nat_eq i place || is_marked marks place)
is_marked-set_by marks i place h (inl e) =
    let same : i ≡ place = eqb-true i place e in
    subst (λ p. is_marked (set marks i true) p ≡ (nat_eq i p || is_marked marks p)) same
    (get_or-set_same marks i true false h ∙ sym (or_left (nat_eq i i) _ (eq-eqb i i refl)))
is_marked-set_by marks i place h (inr e) =
    let other : i ≢ place = eqb-false i place e in
    get_or-set_other marks i place true false (λ q. other (sym q)) ∙ ap (λ b. b || is_marked marks place) (sym e)

pub is_marked-set : (marks : List Bool) (i place : ℕ) → i < length marks → is_marked (set marks i true) place ≡ (nat_eq i place || is_marked marks place)
is_marked-set marks i place h = is_marked-set_by marks i place h (cases_Bool (nat_eq i place))

pub count_marks-set : (marks : List Bool) (i : ℕ) → i < length marks → is_marked marks i ≡ false → count_marks (set marks i true) ≡ count_marks marks + 1
count_marks-set marks i h e =
    let counts : count_marks (set marks i true) + cond {A = ℕ} (is_marked marks i) 1 0 ≡ count_marks marks + 1 = sum_by-set (λ b. cond b 1 0) marks i true false h in
    let none : cond {A = ℕ} (is_marked marks i) 1 0 ≡ 0 = ap (λ b. cond {A = ℕ} b 1 0) e in
    omega arith

moved_last : (e a h : Bool) → (e || (a || h)) ≡ (a || (h || e))
moved_last true true h = refl
moved_last true false true = refl
moved_last true false false = refl
moved_last false true h = refl
moved_last false false true = refl
moved_last false false false = refl

-- One more is marked, among those that are to be.
pub marked_more : (places : List ℕ) (marks now : List Bool) (i : ℕ) → i < length places → get_or places i 0 < length now → ((place : ℕ) → is_marked now place ≡ (is_marked marks place || has (take i places) place)) → (place : ℕ) → is_marked (set now (get_or places i 0) true) place ≡ (is_marked marks place || has (take (i + 1) places) place)
marked_more places marks now i h within so_far place =
    is_marked-set now (get_or places i 0) place within
    ∙ ap (λ b. nat_eq (get_or places i 0) place || b) (so_far place)
    ∙ moved_last (nat_eq (get_or places i 0) place) (is_marked marks place) (has (take i places) place)
    ∙ ap (λ b. is_marked marks place || b) (sym (has-more places i place h))

or_true : (a : Bool) → (a || true) ≡ true
or_true true = refl
or_true false = refl

again_by : (places : List ℕ) (marks now : List Bool) (i place : ℕ) → is_marked now (get_or places i 0) ≡ true → is_marked now place ≡ (is_marked marks place || has (take i places) place) → (nat_eq (get_or places i 0) place ≡ true) ⊎ (nat_eq (get_or places i 0) place ≡ false) → is_marked now place ≡ (is_marked marks place || (has (take i places) place || nat_eq (get_or places i 0) place))
again_by places marks now i place e so_far (inl f) =
    let same : get_or places i 0 ≡ place = eqb-true _ place f in
    let marked : is_marked now place ≡ true = ap (is_marked now) (sym same) ∙ e in
    marked ∙ sym (ap (λ b. is_marked marks place || (has (take i places) place || b)) f
    ∙ ap (λ b. is_marked marks place || b) (or_true (has (take i places) place)) ∙ or_true (is_marked marks place))
again_by places marks now i place e so_far (inr f) =
    so_far ∙ sym (ap (λ b. is_marked marks place || (has (take i places) place || b)) f
    ∙ ap (λ b. is_marked marks place || b) (or_false (has (take i places) place)))

-- One that is marked already stays so.
pub marked_again : (places : List ℕ) (marks now : List Bool) (i : ℕ) → i < length places → is_marked now (get_or places i 0) ≡ true → ((place : ℕ) → is_marked now place ≡ (is_marked marks place || has (take i places) place)) → (place : ℕ) → is_marked now place ≡ (is_marked marks place || has (take (i + 1) places) place)
marked_again places marks now i h e so_far place =
    again_by places marks now i place e (so_far place) (cases_Bool (nat_eq (get_or places i 0) place))
    ∙ ap (λ b. is_marked marks place || b) (sym (has-more places i place h))

-- ---- visits

again_new : (m h j : Bool) → (m || h) ≡ (m || j) → (not m && h) ≡ (not m && j)
again_new true h j e = refl
again_new false h j e = e

more_new : (v m h : Bool) → ((v || (not m && h)) || false) ≡ (v || (not m && (h || false)))
more_new true m h = refl
more_new false true h = refl
more_new false false true = refl
more_new false false false = refl

more_same : (v m h : Bool) → (m || h) ≡ false → ((v || (not m && h)) || true) ≡ (v || (not m && (h || true)))
more_same true m h e = refl
more_same false true h e = absurd (false≢true (sym e))
more_same false false true e = absurd (false≢true (sym e))
more_same false false false e = refl

visited_more : (places : List ℕ) (marks : List Bool) (to_visit : List ℕ) (now : List Bool) (to_visit_now : List ℕ) (i place : ℕ) → i < length places → is_marked now (get_or places i 0) ≡ false → Visits (take i places) marks to_visit now to_visit_now → (nat_eq (get_or places i 0) place ≡ true) ⊎ (nat_eq (get_or places i 0) place ≡ false) → has (to_visit_now ++ get_or places i 0 ∷ []) place ≡ (has to_visit place || (not (is_marked marks place) && has (take (i + 1) places) place))
visited_more places marks to_visit now to_visit_now i place h e so_far (inl f) =
    let same : get_or places i 0 ≡ place = eqb-true _ place f in
    let new : (is_marked marks place || has (take i places) place) ≡ false = sym (so_far.marked place) ∙ ap (is_marked now) (sym same) ∙ e in
    has-last to_visit_now (get_or places i 0) place
    ∙ ap (λ b. has to_visit_now place || b) f
    ∙ ap (λ b. b || true) (so_far.visited place)
    ∙ more_same (has to_visit place) (is_marked marks place) (has (take i places) place) new
    ∙ ap (λ b. has to_visit place || (not (is_marked marks place) && (has (take i places) place || b))) (sym f)
    ∙ ap (λ b. has to_visit place || (not (is_marked marks place) && b)) (sym (has-more places i place h))
visited_more places marks to_visit now to_visit_now i place h e so_far (inr f) =
    has-last to_visit_now (get_or places i 0) place
    ∙ ap (λ b. has to_visit_now place || b) f
    ∙ ap (λ b. b || false) (so_far.visited place)
    ∙ more_new (has to_visit place) (is_marked marks place) (has (take i places) place)
    ∙ ap (λ b. has to_visit place || (not (is_marked marks place) && (has (take i places) place || b))) (sym f)
    ∙ ap (λ b. has to_visit place || (not (is_marked marks place) && b)) (sym (has-more places i place h))

-- The place is marked already.
pub visits_again : (places : List ℕ) (marks : List Bool) (to_visit : List ℕ) (now : List Bool) (to_visit_now : List ℕ) (i : ℕ) → i < length places → is_marked now (get_or places i 0) ≡ true → Visits (take i places) marks to_visit now to_visit_now → Visits (take (i + 1) places) marks to_visit now to_visit_now
visits_again places marks to_visit now to_visit_now i h e so_far = record {
  len = so_far.len;
  marked = marked_again places marks now i h e so_far.marked;
  visited = λ place. so_far.visited place ∙ ap (λ b. has to_visit place || b) (again_new (is_marked marks place) (has (take i places) place) (has (take (i + 1) places) place) (sym (so_far.marked place) ∙ marked_again places marks now i h e so_far.marked place));
  counted = so_far.counted;
  grown = so_far.grown;
  greater = so_far.greater;
}

-- The place is marked now.
pub visits_more : (places : List ℕ) (marks : List Bool) (to_visit : List ℕ) (now : List Bool) (to_visit_now : List ℕ) (i : ℕ) → i < length places → get_or places i 0 < length now → is_marked now (get_or places i 0) ≡ false → Visits (take i places) marks to_visit now to_visit_now → Visits (take (i + 1) places) marks to_visit (set now (get_or places i 0) true) (to_visit_now ++ get_or places i 0 ∷ [])
visits_more places marks to_visit now to_visit_now i h within e so_far = record {
  len = length-set now (get_or places i 0) true ∙ so_far.len;
  marked = marked_more places marks now i h within so_far.marked;
  visited = λ place. visited_more places marks to_visit now to_visit_now i place h e so_far (cases_Bool (nat_eq (get_or places i 0) place));
  counted =
      let count = count_marks-set now (get_or places i 0) within e in
      let len : length (to_visit_now ++ get_or places i 0 ∷ []) ≡ length to_visit_now + 1 = length-append to_visit_now (get_or places i 0 ∷ []) in
      let counted = so_far.counted in
      omega arith;
  grown = let count = count_marks-set now (get_or places i 0) within e in let grown = so_far.grown in omega arith;
  greater = λ place _ _. let count = count_marks-set now (get_or places i 0) within e in let grown = so_far.grown in omega arith;
}

-- the same, where what is marked and to visit afterwards has names
pub visits_turn : (places : List ℕ) (marks : List Bool) (to_visit : List ℕ) (now : List Bool) (to_visit_now : List ℕ) (i : ℕ) (after : List Bool) (to_visit_after : List ℕ) → i < length places → get_or places i 0 < length now → is_marked now (get_or places i 0) ≡ false → Visits (take i places) marks to_visit now to_visit_now → after ≡ set now (get_or places i 0) true → to_visit_after ≡ to_visit_now ++ get_or places i 0 ∷ [] → Visits (take (i + 1) places) marks to_visit after to_visit_after
visits_turn places marks to_visit now to_visit_now i after to_visit_after h within e so_far marked pushed =
    rw (marked, pushed) (visits_more places marks to_visit now to_visit_now i h within e so_far)

pub visits_kept : (places : List ℕ) (marks : List Bool) (to_visit : List ℕ) (now : List Bool) (to_visit_now : List ℕ) (i : ℕ) (after : List Bool) (to_visit_after : List ℕ) → i < length places → is_marked now (get_or places i 0) ≡ true → Visits (take i places) marks to_visit now to_visit_now → after ≡ now → to_visit_after ≡ to_visit_now → Visits (take (i + 1) places) marks to_visit after to_visit_after
visits_kept places marks to_visit now to_visit_now i after to_visit_after h e so_far marked pushed =
    rw (marked, pushed) (visits_again places marks to_visit now to_visit_now i h e so_far)

pub visits_all : (places : List ℕ) (marks : List Bool) (to_visit : List ℕ) (now : List Bool) (to_visit_now : List ℕ) (i : ℕ) → length places ≤ i → Visits (take i places) marks to_visit now to_visit_now → Visits places marks to_visit now to_visit_now
visits_all places marks to_visit now to_visit_now i h so_far = subst (λ xs. Visits xs marks to_visit now to_visit_now) (take_all i places h) so_far
