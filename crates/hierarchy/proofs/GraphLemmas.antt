-- Walks in a graph.
use Rattle.std.proofs.Common.{◌≡◌, ℕ, zero, suc, ◌+◌, ◌<◌, ◌≤◌, Bool, true, false, ◌||◌, ◌&&◌, not, List, [], ◌∷◌, ◌++◌, length, get_or, map, take, drop, refl, sym, ◌∙◌, ap, subst, arith, nat_eq, ◌⊎◌, inl, inr, add-one}
use Rattle.std.specs.List.{list_any, range_with_len}
use Rattle.std.proofs.lemmas.Bool.{cases_Bool, or_left, or_right, or_cases, eqb-true, eqb-false, eq-eqb, false≢true, and_from, not_from_false, or_from, or_parts, false_from_ne_true}
use Rattle.std.proofs.lemmas.List.{append-nil, length-map, drop_all, get_or-map, take_all}
use Rattle.std.proofs.lemmas.List.Sums.{count_by-le-length}
use Rattle.hierarchy.specs.Graph.{Graph, IsClosed, IsKept, IsShort, Rooted, ahead, ends_path, has, is_marked, is_stepped_to, walks, walks_to}
use Rattle.hierarchy.specs.Rules.{greatest_path}
use Rattle.hierarchy.specs.Marks.{Visits, count_marks}
use Rattle.hierarchy.proofs.MarkLemmas.{same_test, has-last}

-- ---- tests of members

pub any_of : (f : ℕ → Bool) (xs : List ℕ) → list_any f xs ≡ true → (x : ℕ) × (has xs x ≡ true) × (f x ≡ true)
any_of f [] h = absurd (false≢true h)
any_of f (x ∷ xs) h =
    elim (or_cases (f x) (list_any f xs) h) [
      | inl e ↦ (x, or_left _ _ (eq-eqb x x refl), e)
      | inr e ↦ let rest = any_of f xs e in (rest.0, or_right (nat_eq x rest.0) _ rest.1, rest.2)
    ]

pub any_in : (f : ℕ → Bool) (xs : List ℕ) (x : ℕ) → has xs x ≡ true → f x ≡ true → list_any f xs ≡ true
any_in f [] x h e = absurd (false≢true h)
any_in f (y ∷ xs) x h e =
    elim (or_cases (nat_eq y x) (has xs x) h) [
      | inl same ↦ or_left _ _ (ap f (eqb-true y x same) ∙ e)
      | inr more ↦ or_right (f y) _ (any_in f xs x more e)
    ]

range_in : (a n k : ℕ) → a ≤ k → k < a + n → has (range_with_len a n) k ≡ true
range_in a zero k low high = absurd (omega arith)
range_in a (suc n) k low high =
    elim (cases_Bool (nat_eq a k)) [
      | inl same ↦ or_left _ _ same
      | inr other ↦ let ne = eqb-false a k other in or_right (nat_eq a k) _ (range_in (a + 1) n k (omega arith) (omega arith))
    ]

range_of : (a n k : ℕ) → has (range_with_len a n) k ≡ true → k < a + n
range_of a zero k h = absurd (false≢true h)
range_of a (suc n) k h =
    elim (or_cases (nat_eq a k) (has (range_with_len (a + 1) n) k) h) [
      | inl same ↦ let e = eqb-true a k same in omega arith
      | inr more ↦ let r = range_of (a + 1) n k more in omega arith
    ]

-- ---- places

pub marked_within : (marks : List Bool) (place : ℕ) → is_marked marks place ≡ true → place < length marks
marked_within [] place h = absurd (false≢true h)
marked_within (mark ∷ marks) zero h = omega arith
marked_within (mark ∷ marks) (suc place) h = let r = marked_within marks place h in omega arith

-- what stands in a graph that is kept as a list of lists
pub ahead_is : {V : Type 0} (view : V → List ℕ) (graph : List V) (place : ℕ) (inner : V) → place < length graph → inner ≡ get_or graph place inner → ahead (map view graph) place ≡ view inner
ahead_is view graph place inner h e = get_or-map view graph place inner [] h ∙ ap view (sym e)

-- a slice that is the whole of a list, written back
pub written_back : {X : Type 0} (n : ℕ) (new old : List X) → length new ≡ length old → n ≡ length old → take n (new ++ drop (length new) old) ≡ new
written_back n new old h e =
    let none : drop (length new) old ≡ [] = drop_all (length new) old (omega arith) in
    ap (λ xs. take n (new ++ xs)) none ∙ ap (take n) (append-nil new) ∙ take_all n new (omega arith)

-- ---- walks

pub walks_here : (graph : Graph) (place : ℕ) → walks graph 0 place place ≡ true
walks_here graph place = eq-eqb place place refl

pub walks_more : (graph : Graph) (count from next to : ℕ) → walks graph count from next ≡ true → has (ahead graph next) to ≡ true → walks graph (suc count) from to ≡ true
walks_more graph zero from next to h e =
    let same : from ≡ next = eqb-true from next h in
    any_in (λ place. walks graph 0 place to) (ahead graph from) to (subst (λ place. has (ahead graph place) to ≡ true) (sym same) e) (walks_here graph to)
walks_more graph (suc count) from next to h e =
    let first = any_of (λ place. walks graph count place next) (ahead graph from) h in
    any_in (λ place. walks graph (suc count) place to) (ahead graph from) first.0 first.1 (walks_more graph count first.0 next to first.2 e)

pub walks_last : (graph : Graph) (count from to : ℕ) → walks graph (suc count) from to ≡ true → (next : ℕ) × (walks graph count from next ≡ true) × (has (ahead graph next) to ≡ true)
walks_last graph zero from to h =
    let first = any_of (λ place. walks graph 0 place to) (ahead graph from) h in
    (from, walks_here graph from, subst (λ place. has (ahead graph from) place ≡ true) (eqb-true first.0 to first.2) first.1)
walks_last graph (suc count) from to h =
    let first = any_of (λ place. walks graph (suc count) place to) (ahead graph from) h in
    let last = walks_last graph count first.0 to first.2 in
    (last.0, any_in (λ place. walks graph count place last.0) (ahead graph from) first.0 first.1 last.1, last.2)

-- where edges lead from marked places to marked places alone
pub walks_marked : (graph : Graph) (p : ℕ → Bool) → ((from to : ℕ) → p from ≡ true → has (ahead graph from) to ≡ true → p to ≡ true) → (count from to : ℕ) → p from ≡ true → walks graph count from to ≡ true → p to ≡ true
walks_marked graph p closed zero from to h e = ap p (sym (eqb-true from to e)) ∙ h
walks_marked graph p closed (suc count) from to h e =
    let first = any_of (λ place. walks graph count place to) (ahead graph from) e in
    walks_marked graph p closed count first.0 to (closed from first.0 h first.1) first.2

pub walks_to_in : (graph : Graph) (count from to : ℕ) → count ≤ length graph → walks graph count from to ≡ true → walks_to graph from to ≡ true
walks_to_in graph count from to h e =
    any_in (λ n. walks graph n from to) (range_with_len 0 (length graph + 1)) count (range_in 0 (length graph + 1) count (omega arith) (omega arith)) e

pub walks_to_of : (graph : Graph) (from to : ℕ) → walks_to graph from to ≡ true → (count : ℕ) × (walks graph count from to ≡ true)
walks_to_of graph from to h =
    let some = any_of (λ n. walks graph n from to) (range_with_len 0 (length graph + 1)) h in
    (some.0, some.2)

-- ---- a search

or_no : (a : Bool) → (a || false) ≡ a
or_no true = refl
or_no false = refl

and_left_part : (a b : Bool) → (a && b) ≡ true → a ≡ true
and_left_part true b h = refl
and_left_part false b h = absurd (false≢true h)

and_right_part : (a b : Bool) → (a && b) ≡ true → b ≡ true
and_right_part true b h = h
and_right_part false b h = absurd (false≢true h)

new_among : (a b : Bool) → a ≡ false → (a || b) ≡ true → b ≡ true
new_among true b e h = absurd (false≢true (sym e))
new_among false b e h = h

-- how far a search from a place has come
pub record Searched (graph : Graph) (start : ℕ) (marks : List Bool) (to_visit : List ℕ) : Type 0 where
  pub len : length marks ≡ length graph
  pub start_marked : is_marked marks start ≡ true
  pub reached : (place : ℕ) → is_marked marks place ≡ true → (count : ℕ) × (count < count_marks marks) × (walks graph count start place ≡ true)
  pub to_visit_marked : (place : ℕ) → has to_visit place ≡ true → is_marked marks place ≡ true
  pub visited : (from to : ℕ) → is_marked marks from ≡ true → has to_visit from ≡ false → has (ahead graph from) to ≡ true → is_marked marks to ≡ true

turn_reached : (graph : Graph) (start : ℕ) (marks : List Bool) (place : ℕ) (rest : List ℕ) (after : List Bool) (to_visit_after : List ℕ) → Visits (ahead graph place) marks rest after to_visit_after → (count : ℕ) × (count < count_marks marks) × (walks graph count start place ≡ true) → (other : ℕ) → is_marked after other ≡ true → (is_marked marks other ≡ true → (count : ℕ) × (count < count_marks marks) × (walks graph count start other ≡ true)) → (is_marked marks other ≡ true) ⊎ (is_marked marks other ≡ false) → (count : ℕ) × (count < count_marks after) × (walks graph count start other ≡ true)
turn_reached graph start marks place rest after to_visit_after step at_place other h before (inl e) =
    let known = before e in
    let grown = step.grown in
    (known.0, omega (arith, known.1), known.2)
turn_reached graph start marks place rest after to_visit_after step at_place other h before (inr e) =
    let new = new_among (is_marked marks other) (has (ahead graph place) other) e (sym (step.marked other) ∙ h) in
    let greater = step.greater other e h in
    (suc at_place.0, omega (arith, at_place.1), walks_more graph at_place.0 start place other at_place.2 new)

turn_visited : (graph : Graph) (marks : List Bool) (to_visit rest : List ℕ) (place : ℕ) (after : List Bool) (to_visit_after : List ℕ) → ((other : ℕ) → has to_visit other ≡ (has rest other || nat_eq place other)) → ((from to : ℕ) → is_marked marks from ≡ true → has to_visit from ≡ false → has (ahead graph from) to ≡ true → is_marked marks to ≡ true) → Visits (ahead graph place) marks rest after to_visit_after → (from to : ℕ) → is_marked after from ≡ true → has to_visit_after from ≡ false → has (ahead graph from) to ≡ true → (is_marked marks from ≡ true) ⊎ (is_marked marks from ≡ false) → (nat_eq place from ≡ true) ⊎ (nat_eq place from ≡ false) → is_marked after to ≡ true
turn_visited graph marks to_visit rest place after to_visit_after popped before step from to h left edge marked (inl here) =
    let same : place ≡ from = eqb-true place from here in
    step.marked to ∙ or_right _ _ (subst (λ p. has (ahead graph p) to ≡ true) (sym same) edge)
turn_visited graph marks to_visit rest place after to_visit_after popped before step from to h left edge (inl e) (inr other) =
    let gone : has rest from ≡ false = (or_parts _ _ (sym (step.visited from) ∙ left)).0 in
    let gone_before : has to_visit from ≡ false = popped from ∙ or_from _ _ gone other in
    step.marked to ∙ or_left _ _ (before from to e gone_before edge)
turn_visited graph marks to_visit rest place after to_visit_after popped before step from to h left edge (inr e) (inr other) =
    let new = new_among (is_marked marks from) (has (ahead graph place) from) e (sym (step.marked from) ∙ h) in
    let stays : (not (is_marked marks from) && has (ahead graph place) from) ≡ false = (or_parts _ _ (sym (step.visited from) ∙ left)).1 in
    absurd (false≢true (sym stays ∙ and_from _ _ (not_from_false _ e) new))

pub searched_turn : (graph : Graph) (start : ℕ) (marks : List Bool) (to_visit rest : List ℕ) (place : ℕ) (after : List Bool) (to_visit_after : List ℕ) → to_visit ≡ rest ++ place ∷ [] → Searched graph start marks to_visit → Visits (ahead graph place) marks rest after to_visit_after → Searched graph start after to_visit_after
searched_turn graph start marks to_visit rest place after to_visit_after popped so_far step =
    let kept : (other : ℕ) → is_marked marks other ≡ true → is_marked after other ≡ true = λ other h. step.marked other ∙ or_left _ _ h in
    let popped_has : (other : ℕ) → has to_visit other ≡ (has rest other || nat_eq place other) = λ other. ap (λ xs. has xs other) popped ∙ has-last rest place other in
    let place_marked : is_marked marks place ≡ true = so_far.to_visit_marked place (popped_has place ∙ or_right _ _ (eq-eqb place place refl)) in
    record {
      len = step.len ∙ so_far.len;
      start_marked = kept start so_far.start_marked;
      reached = λ other h. turn_reached graph start marks place rest after to_visit_after step (so_far.reached place place_marked) other h (so_far.reached other) (cases_Bool (is_marked marks other));
      to_visit_marked = λ other h.
          elim (or_cases (has rest other) (not (is_marked marks other) && has (ahead graph place) other) (sym (step.visited other) ∙ h)) [
            | inl e ↦ kept other (so_far.to_visit_marked other (popped_has other ∙ or_left _ (nat_eq place other) e))
            | inr e ↦ step.marked other ∙ or_right (is_marked marks other) _ (and_right_part (not (is_marked marks other)) (has (ahead graph place) other) e)
          ];
      visited = λ from to h left edge. turn_visited graph marks to_visit rest place after to_visit_after popped_has so_far.visited step from to h left edge (cases_Bool (is_marked marks from)) (cases_Bool (nat_eq place from));
    }

none_left : (xs : List ℕ) → length xs ≡ 0 → xs ≡ []
none_left [] h = refl
none_left (x ∷ xs) h = absurd (omega arith)

pub searched_all : (graph : Graph) (start : ℕ) (marks : List Bool) (to_visit : List ℕ) → length to_visit ≡ 0 → Searched graph start marks to_visit → (place : ℕ) → is_marked marks place ≡ walks_to graph start place
searched_all graph start marks to_visit empty done place =
    same_test _ _
    (λ h.
    let found = done.reached place h in
    let most : count_marks marks ≤ length marks = count_by-le-length (λ mark. mark) marks in
    let len = done.len in
    walks_to_in graph found.0 start place (omega (arith, found.1)) found.2)
    (λ h.
    let found = walks_to_of graph start place h in
    walks_marked graph (is_marked marks) (λ from to marked edge. done.visited from to marked (ap (λ xs. has xs from) (none_left to_visit empty)) edge) found.0 start place done.start_marked found.1)

pub popped_within : (graph : Graph) (start : ℕ) (marks : List Bool) (to_visit rest : List ℕ) (place : ℕ) → to_visit ≡ rest ++ place ∷ [] → Searched graph start marks to_visit → place < length graph
popped_within graph start marks to_visit rest place popped so_far =
    let here : has to_visit place ≡ true = ap (λ xs. has xs place) popped ∙ has-last rest place place ∙ or_right _ _ (eq-eqb place place refl) in
    subst (λ n. place < n) so_far.len (marked_within marks place (so_far.to_visit_marked place here))

pub visit_within : (graph : Graph) (start : ℕ) (marks : List Bool) (to_visit : List ℕ) (place : ℕ) → IsClosed graph → Searched graph start marks to_visit → (places : List ℕ) → places ≡ ahead graph place → (marks_here : List Bool) → marks_here ≡ marks → (other : ℕ) → has places other ≡ true → other < length marks_here
visit_within graph start marks to_visit place closed so_far places is marks_here same other h =
    let within = closed place other (subst (λ xs. has xs other ≡ true) is h) in
    subst (λ n. other < n) (sym so_far.len ∙ ap length (sym same)) within

-- ---- the search of a graph that is kept as a list of lists

module _ {V : Type 0} (view : V → List ℕ) (graph : List V) (start : ℕ) (marks : List Bool) (to_visit rest : List ℕ) (place : ℕ) (popped : to_visit ≡ rest ++ place ∷ []) (so_far : Searched (map view graph) start marks to_visit) where
  pub popped_place : place < length graph
  popped_place = subst (λ n. place < n) (length-map graph view) (popped_within (map view graph) start marks to_visit rest place popped so_far)

  pub popped_ahead : (inner : V) → inner ≡ get_or graph place inner → ahead (map view graph) place ≡ view inner
  popped_ahead inner is = ahead_is view graph place inner popped_place is

  pub popped_visit : (inner : V) → inner ≡ get_or graph place inner → (places : List ℕ) → places ≡ view inner → (marks_here : List Bool) → marks_here ≡ marks → (after : List Bool) (to_visit_after : List ℕ) → Visits places marks_here rest after to_visit_after → (n : ℕ) → n ≡ length marks → Searched (map view graph) start (take n (after ++ drop (length after) marks)) to_visit_after
  popped_visit inner is places same marks_here same_marks after to_visit_after step n whole =
      let step_here : Visits (ahead (map view graph) place) marks rest after to_visit_after =
      subst (λ ps. Visits ps marks rest after to_visit_after) (same ∙ sym (popped_ahead inner is))
      (subst (λ ms. Visits places ms rest after to_visit_after) same_marks step) in
      subst (λ ms. Searched (map view graph) start ms to_visit_after) (sym (written_back n after marks step_here.len whole))
      (searched_turn (map view graph) start marks to_visit rest place after to_visit_after popped so_far step_here)

-- ---- one step of all walks

pub stepped_more : (graph : Graph) (marks : List Bool) (count to : ℕ) → is_stepped_to graph marks (count + 1) to ≡ (is_stepped_to graph marks count to || (is_marked marks count && has (ahead graph count) to))
stepped_more graph marks count to = rw add-one refl

stepped_of : (graph : Graph) (marks : List Bool) (count to : ℕ) → is_stepped_to graph marks count to ≡ true → (from : ℕ) × (from < count) × (is_marked marks from ≡ true) × (has (ahead graph from) to ≡ true)
stepped_of graph marks zero to h = absurd (false≢true h)
stepped_of graph marks (suc count) to h =
    elim (or_cases (is_stepped_to graph marks count to) (is_marked marks count && has (ahead graph count) to) h) [
      | inl e ↦ let before = stepped_of graph marks count to e in (before.0, omega (arith, before.1), before.2, before.3)
      | inr e ↦ (count, omega arith, and_left_part (is_marked marks count) (has (ahead graph count) to) e, and_right_part (is_marked marks count) (has (ahead graph count) to) e)
    ]

stepped_in : (graph : Graph) (marks : List Bool) (count from to : ℕ) → from < count → is_marked marks from ≡ true → has (ahead graph from) to ≡ true → is_stepped_to graph marks count to ≡ true
stepped_in graph marks zero from to h e edge = absurd (omega arith)
stepped_in graph marks (suc count) from to h e edge =
    elim (cases_Bool (nat_eq from count)) [
      | inl same ↦
          let last : from ≡ count = eqb-true from count same in
          or_right _ _ (subst (λ p. (is_marked marks p && has (ahead graph p) to) ≡ true) last (and_from _ _ e edge))
      | inr other ↦
          let ne = eqb-false from count other in
          or_left _ _ (stepped_in graph marks count from to (omega arith) e edge)
    ]

edge_within : (graph : Graph) (from to : ℕ) → has (ahead graph from) to ≡ true → from < length graph
edge_within [] from to h = absurd (false≢true h)
edge_within (places ∷ graph) zero to h = omega arith
edge_within (places ∷ graph) (suc from) to h = let r = edge_within graph from to h in omega arith

-- The marks after a step are those of walks with one edge more.
pub stepped_walks : (graph : Graph) (marks : List Bool) (start count to : ℕ) → ((place : ℕ) → place < length graph → is_marked marks place ≡ walks graph count start place) → is_stepped_to graph marks (length graph) to ≡ walks graph (suc count) start to
stepped_walks graph marks start count to known =
    same_test _ _
    (λ h.
    let last = stepped_of graph marks (length graph) to h in
    walks_more graph count start last.0 to (sym (known last.0 last.1) ∙ last.2) last.3)
    (λ h.
    let last = walks_last graph count start to h in
    let within = edge_within graph last.0 to last.2 in
    stepped_in graph marks (length graph) last.0 to within (known last.0 within ∙ last.1) last.2)

-- the same, counted as loops count
pub stepped_walks_more : (graph : Graph) (marks : List Bool) (start count n to : ℕ) → n ≡ length graph → ((place : ℕ) → place < n → is_marked marks place ≡ walks graph count start place) → is_stepped_to graph marks n to ≡ walks graph (count + 1) start to
stepped_walks_more graph marks start count n to len known =
    ap (λ m. is_stepped_to graph marks m to) len ∙ stepped_walks graph marks start count to (λ place h. known place (omega arith))
    ∙ rw add-one refl

pub stepped_put : (graph : Graph) (marks : List Bool) (place : ℕ) (next after : List Bool) → is_marked marks place ≡ true → ((to : ℕ) → is_marked after to ≡ (is_marked next to || has (ahead graph place) to)) → ((to : ℕ) → is_marked next to ≡ is_stepped_to graph marks place to) → (to : ℕ) → is_marked after to ≡ is_stepped_to graph marks (place + 1) to
stepped_put graph marks place next after h put so_far to =
    put to ∙ ap (λ b. b || has (ahead graph place) to) (so_far to)
    ∙ ap (λ b. is_stepped_to graph marks place to || (b && has (ahead graph place) to)) (sym h) ∙ sym (stepped_more graph marks place to)

pub stepped_kept : (graph : Graph) (marks : List Bool) (place : ℕ) (next : List Bool) → is_marked marks place ≡ false → ((to : ℕ) → is_marked next to ≡ is_stepped_to graph marks place to) → (to : ℕ) → is_marked next to ≡ is_stepped_to graph marks (place + 1) to
stepped_kept graph marks place next h so_far to =
    so_far to ∙ sym (or_no (is_stepped_to graph marks place to))
    ∙ ap (λ b. is_stepped_to graph marks place to || (b && has (ahead graph place) to)) (sym h) ∙ sym (stepped_more graph marks place to)

-- the marks after a step, as far as its places are gone through
pub record Stepped (graph : Graph) (marks : List Bool) (place : ℕ) (next : List Bool) : Type 0 where
  pub len : length next ≡ length graph
  pub stepped : (to : ℕ) → is_marked next to ≡ is_stepped_to graph marks place to

pub stepped_turn : (graph : Graph) (marks : List Bool) (place : ℕ) (next here after : List Bool) (places : List ℕ) → Stepped graph marks place next → is_marked marks place ≡ true → places ≡ ahead graph place → here ≡ next → length after ≡ length here → ((to : ℕ) → is_marked after to ≡ (is_marked here to || has places to)) → (n : ℕ) → n ≡ length next → (whole : List Bool) → whole ≡ take n (after ++ drop (length after) next) → Stepped graph marks (place + 1) whole
stepped_turn graph marks place next here after places so_far h edges same len put n whole_len whole is =
    let after_len : length after ≡ length next = len ∙ ap length same in
    subst (Stepped graph marks (place + 1)) (sym (is ∙ written_back n after next after_len whole_len))
    (record {
      len = after_len ∙ so_far.len;
      stepped = stepped_put graph marks place next after h
          (λ to. put to ∙ ap (λ ms. is_marked ms to || has places to) same ∙ ap (λ ps. is_marked next to || has ps to) edges) so_far.stepped;
    })

pub stepped_skip : (graph : Graph) (marks : List Bool) (place : ℕ) (next after : List Bool) → Stepped graph marks place next → is_marked marks place ≡ false → after ≡ next → Stepped graph marks (place + 1) after
stepped_skip graph marks place next after so_far h same =
    subst (Stepped graph marks (place + 1)) (sym same) (record { len = so_far.len; stepped = stepped_kept graph marks place next h so_far.stepped })

-- ---- a graph with short paths alone

next_of : (graph : Graph) (outer inner : ℕ) → has (ahead graph outer) inner ≡ true → (back : ℕ) → walks graph back inner outer ≡ true → (count place : ℕ) → walks graph count place outer ≡ true → (next : ℕ) × (has (ahead graph place) next ≡ true) × ((rest : ℕ) × (walks graph rest next outer ≡ true))
next_of graph outer inner edge back cycle zero place h =
    (inner, subst (λ p. has (ahead graph p) inner ≡ true) (sym (eqb-true place outer h)) edge, (back, cycle))
next_of graph outer inner edge back cycle (suc count) place h =
    let first = any_of (λ next. walks graph count next outer) (ahead graph place) h in
    (first.0, first.1, (count, first.2))

-- From the top there are paths of every length that go on to a place that an edge leads back to.
goes_on : (graph : Graph) (top outer inner : ℕ) → has (ahead graph outer) inner ≡ true → (back : ℕ) → walks graph back inner outer ≡ true → (there : ℕ) → walks graph there top outer ≡ true → (count : ℕ) → (place : ℕ) × (walks graph count top place ≡ true) × ((rest : ℕ) × (walks graph rest place outer ≡ true))
goes_on graph top outer inner edge back cycle there way zero = (top, walks_here graph top, (there, way))
goes_on graph top outer inner edge back cycle there way (suc count) =
    let before = goes_on graph top outer inner edge back cycle there way count in
    let next = next_of graph outer inner edge back cycle before.2.0 before.0 before.2.1 in
    (next.0, walks_more graph count top before.0 next.0 before.1 next.1, next.2)

short_at : (graph : Graph) (longest top outer inner : ℕ) → ((from to : ℕ) → walks graph longest top from ≡ true → has (ahead graph from) to ≡ true → ⊥) → walks_to graph top outer ≡ true → has (ahead graph outer) inner ≡ true → walks_to graph inner outer ≡ false
short_at graph longest top outer inner short reached edge =
    false_from_ne_true (walks_to graph inner outer) (λ h.
    let back = walks_to_of graph inner outer h in
    let there = walks_to_of graph top outer reached in
    let long = goes_on graph top outer inner edge back.0 back.1 there.0 there.1 longest in
    let next = next_of graph outer inner edge back.0 back.1 long.2.0 long.0 long.2.1 in
    short long.0 next.0 long.1 next.1)

short_has_no_cycle : (graph : Graph) (top outer inner : ℕ) → IsShort graph top → walks_to graph top outer ≡ true → has (ahead graph outer) inner ≡ true → walks_to graph inner outer ≡ false
unfolding ends_path
short_has_no_cycle graph top outer inner short = short_at graph greatest_path top outer inner short

pub none_back : (kept rooted : Rooted) (outer inner : ℕ) → kept ≡ rooted → IsShort kept.graph kept.top → walks_to rooted.graph rooted.top outer ≡ true → has (ahead rooted.graph outer) inner ≡ true → false ≡ walks_to rooted.graph inner outer
none_back kept rooted outer inner same short reached edge =
    let short_here : IsShort rooted.graph rooted.top = subst (λ (r : Rooted). IsShort r.graph r.top) same short in
    sym (short_has_no_cycle rooted.graph rooted.top outer inner short_here reached edge)

-- Nothing is ahead of a place that has nothing in it.
pub none_ahead : {V : Type 0} (view : V → List ℕ) (graph : List V) (place : ℕ) (inner : V) → place < length graph → inner ≡ get_or graph place inner → length (view inner) ≡ 0 → (to : ℕ) → has (ahead (map view graph) place) to ≡ false
none_ahead view graph place inner h is empty to =
    ap (λ xs. has xs to) (ahead_is view graph place inner h is ∙ none_left (view inner) empty)

-- the marks of a graph, where it is written by another name
pub kept_short : (graph : Graph) (top : ℕ) (marks : List Bool) (short : Bool) → length marks ≡ length graph → ((place : ℕ) → place < length graph → is_marked marks place ≡ ends_path graph top place) → (short ≡ true → (from to : ℕ) → is_marked marks from ≡ true → has (ahead graph from) to ≡ true → ⊥) → short ≡ true → IsShort graph top
kept_short graph top marks short len known none h = λ from to ends edge. none h from to (known from (edge_within graph from to edge) ∙ ends) edge

-- ---- what is kept of a graph

pub kept_by : {V : Type 0} (view : V → List ℕ) (graph : List V) (top : ℕ) (reached ends : List Bool) (short : Bool) → IsClosed (map view graph) → (for_reached : List V) → for_reached ≡ graph → length reached ≡ length for_reached → ((place : ℕ) → place < length for_reached → is_marked reached place ≡ walks_to (map view for_reached) top place) → (for_ends : List V) → for_ends ≡ graph → length ends ≡ length for_ends → ((place : ℕ) → place < length for_ends → is_marked ends place ≡ ends_path (map view for_ends) top place) → (for_short : List V) → for_short ≡ graph → (marks : List Bool) → marks ≡ ends → (short ≡ true → (from to : ℕ) → is_marked marks from ≡ true → has (ahead (map view for_short) from) to ≡ true → ⊥) → IsKept (map view graph) top reached ends short
kept_by view graph top reached ends short closed for_reached is_reached reached_len reaches for_ends is_ends ends_len ends_paths for_short is_short marks same none =
    let len = length-map graph view in
    let reached_here : (length reached ≡ length graph) × ((place : ℕ) → place < length graph → is_marked reached place ≡ walks_to (map view graph) top place) =
    subst (λ g. (length reached ≡ length g) × ((place : ℕ) → place < length g → is_marked reached place ≡ walks_to (map view g) top place)) is_reached (reached_len, reaches) in
    let ends_here : (length ends ≡ length graph) × ((place : ℕ) → place < length graph → is_marked ends place ≡ ends_path (map view graph) top place) =
    subst (λ g. (length ends ≡ length g) × ((place : ℕ) → place < length g → is_marked ends place ≡ ends_path (map view g) top place)) is_ends (ends_len, ends_paths) in
    let none_here : short ≡ true → (from to : ℕ) → is_marked ends from ≡ true → has (ahead (map view graph) from) to ≡ true → ⊥ =
    subst (λ ms. short ≡ true → (from to : ℕ) → is_marked ms from ≡ true → has (ahead (map view graph) from) to ≡ true → ⊥) same
    (subst (λ g. short ≡ true → (from to : ℕ) → is_marked marks from ≡ true → has (ahead (map view g) from) to ≡ true → ⊥) is_short none) in
    let paths : (place : ℕ) → place < length (map view graph) → is_marked ends place ≡ ends_path (map view graph) top place = λ place h. ends_here.1 place (omega (arith, len)) in
    record {
      closed = closed;
      reached_len = reached_here.0 ∙ sym len;
      reaches = λ place h. reached_here.1 place (omega (arith, len));
      ends_len = ends_here.0 ∙ sym len;
      ends_paths = paths;
      short = kept_short (map view graph) top ends short (ends_here.0 ∙ sym len) paths none_here;
    }

-- From a place with nothing ahead no walk leads to another one.
any_none : (f : ℕ → Bool) (xs : List ℕ) → length xs ≡ 0 → list_any f xs ≡ false
any_none f xs h = ap (list_any f) (none_left xs h)

stays_here : (graph : Graph) (place other : ℕ) → length (ahead graph place) ≡ 0 → nat_eq place other ≡ false → (count : ℕ) → walks graph count place other ≡ false
stays_here graph place other none apart zero = apart
stays_here graph place other none apart (suc count) = any_none (λ next. walks graph count next other) (ahead graph place) none

pub leads_nowhere_is : {V : Type 0} (view : V → List ℕ) (graph : List V) (place other : ℕ) (inner : V) → place < length graph → inner ≡ get_or graph place inner → length (view inner) ≡ 0 → nat_eq place other ≡ false → (top : ℕ) (rooted : Rooted) → record { graph = map view graph; top = top } ≡ rooted → walks_to rooted.graph place other ≡ false
leads_nowhere_is view graph place other inner h is empty apart top rooted same =
    let none : length (ahead (map view graph) place) ≡ 0 = ap length (ahead_is view graph place inner h is) ∙ empty in
    subst (λ (r : Rooted). walks_to r.graph place other ≡ false) same
    (false_from_ne_true (walks_to (map view graph) place other) (λ e.
    let way = walks_to_of (map view graph) place other e in
    false≢true (sym (stays_here (map view graph) place other none apart way.0) ∙ way.1)))
