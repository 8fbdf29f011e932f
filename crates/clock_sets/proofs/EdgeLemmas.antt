-- The graph of steps, and its walks.
use Rattle.std.proofs.Common.{◌≡◌, ◌≢◌, ℕ, zero, suc, ◌+◌, ◌<◌, All, Bool, true, false, ◌||◌, ◌&&◌, List, [], ◌∷◌, ◌++◌, length, get_or, set, map, take, length-append, refl, sym, ◌∙◌, ap, subst, arith, nat_eq, Some, None, cond, ◌⊎◌, inl, inr, add-one}
use Rattle.std.specs.List.{cons_option, list_any, range_with_len}
use Rattle.std.proofs.lemmas.Bool.{cases_Bool, or_cases, eqb-true, eqb-false, false≢true, false_from_ne_true}
use Rattle.std.proofs.lemmas.List.{append-nil, get_or-map, get_or-set_same, get_or-set_other, length-map, length-set, map-set, map-append}
use Rattle.std.proofs.Math.Seq.{get_or-append_seam}
use Rattle.std.proofs.Math.ListN.{get_or-append}
use Rattle.std.proofs.lemmas.List.Elements.{All-head, All-tail, All-get_or}
use Rattle.hierarchy.specs.Graph.{Graph, IsClosed, ahead, has, walks, walks_to}
use Rattle.hierarchy.proofs.ListLemmas.{filter_map-next}
use Rattle.clock_sets.specs.declared.steps.Step.{Step}
use Rattle.clock_sets.specs.Steps.{IsBelow, IsGraph, end_from, ends_from, goes, goes_to}
use Rattle.clock_sets.proofs.AnyLemmas.{any_same, any_shift, any_swap}

-- ---- how the graph grows

pub edge_added : {V : Type 0} (view : V → List ℕ) (graph : List V) (from to : ℕ) (old new : V) → from < length graph → old ≡ get_or graph from old → view new ≡ view old ++ to ∷ [] → map view (set graph from new) ≡ set (map view graph) from (get_or (map view graph) from [] ++ to ∷ [])
edge_added view graph from to old new h is put =
    map-set view graph from new
    ∙ ap (set (map view graph) from) (put ∙ ap (λ xs. xs ++ to ∷ []) (ap view is ∙ sym (get_or-map view graph from old [] h)))

pub empty_pushed : (graph : Graph) → ((from : ℕ) → get_or graph from [] ≡ []) → (from : ℕ) → get_or (graph ++ [] ∷ []) from [] ≡ []
empty_pushed [] empty zero = refl
empty_pushed [] empty (suc from) = refl
empty_pushed (places ∷ graph) empty zero = empty zero
empty_pushed (places ∷ graph) empty (suc from) = empty_pushed graph (λ k. empty (suc k)) from

-- the same of a graph that is kept as a list of lists
pub empty_more : {V : Type 0} (view : V → List ℕ) (graph after : List V) (new : V) → after ≡ graph ++ new ∷ [] → view new ≡ [] → ((from : ℕ) → get_or (map view graph) from [] ≡ []) → (from : ℕ) → get_or (map view after) from [] ≡ []
empty_more view graph after new pushed none empty from =
    ap (λ g. get_or (map view g) from []) pushed
    ∙ ap (λ g. get_or g from []) (map-append view graph (new ∷ []))
    ∙ ap (λ places. get_or (map view graph ++ places ∷ []) from []) none
    ∙ empty_pushed (map view graph) empty from

-- the graph of no steps
pub graph_start : (count : ℕ) (starts : List ℕ) (graph : Graph) → length graph ≡ count → ((from : ℕ) → get_or graph from [] ≡ []) → IsGraph count [] starts (graph ++ starts ∷ [])
graph_start count starts graph len empty = record {
  len = let l : length (graph ++ starts ∷ []) ≡ length graph + 1 = length-append graph (starts ∷ []) in l ∙ ap (λ n. n + 1) len;
  last = ap (λ n. get_or (graph ++ starts ∷ []) n []) (sym len) ∙ get_or-append_seam graph starts [] [];
  edges = λ from h. get_or-append graph (starts ∷ []) [] from (omega (arith, len)) ∙ empty from;
}

pub graph_started : {V : Type 0} (view : V → List ℕ) (count : ℕ) (starts : List ℕ) (graph after : List V) (last : V) → after ≡ graph ++ last ∷ [] → view last ≡ starts → length graph ≡ count → ((from : ℕ) → get_or (map view graph) from [] ≡ []) → IsGraph count [] starts (map view after)
graph_started view count starts graph after last pushed is len empty =
    subst (IsGraph count [] starts) (sym (ap (map view) pushed ∙ map-append view graph (last ∷ []) ∙ ap (λ places. map view graph ++ places ∷ []) is))
    (graph_start count starts (map view graph) (length-map graph view ∙ len) empty)

edges_by : (steps : List Step) (graph : Graph) (i : ℕ) (one : Step) (from : ℕ) → i < length steps → one ≡ get_or steps i one → one.from < length graph → get_or graph from [] ≡ ends_from (take i steps) from → (nat_eq from one.from ≡ true) ⊎ (nat_eq from one.from ≡ false) → get_or (set graph one.from (get_or graph one.from [] ++ one.to ∷ [])) from [] ≡ ends_from (take i steps) from ++ cons_option (end_from from one) []
edges_by steps graph i one from h is within so_far (inl e) =
    let same : one.from ≡ from = sym (eqb-true from one.from e) in
    ap (λ n. get_or (set graph one.from (get_or graph one.from [] ++ one.to ∷ [])) n []) (sym same)
    ∙ get_or-set_same graph one.from (get_or graph one.from [] ++ one.to ∷ []) [] within
    ∙ ap (λ n. get_or graph n [] ++ one.to ∷ []) same
    ∙ ap (λ xs. xs ++ one.to ∷ []) so_far
    ∙ ap (λ b. ends_from (take i steps) from ++ cons_option (cond b (Some one.to) None) []) (sym e)
edges_by steps graph i one from h is within so_far (inr e) =
    let other : from ≢ one.from = eqb-false from one.from e in
    get_or-set_other graph one.from from (get_or graph one.from [] ++ one.to ∷ []) [] other
    ∙ so_far ∙ sym (append-nil (ends_from (take i steps) from))
    ∙ ap (λ b. ends_from (take i steps) from ++ cons_option (cond b (Some one.to) None) []) (sym e)

-- one step more
pub graph_turn : (count : ℕ) (steps : List Step) (starts : List ℕ) (graph after : Graph) (i : ℕ) (one : Step) → i < length steps → one ≡ get_or steps i one → All (IsBelow count) steps → IsGraph count (take i steps) starts graph → after ≡ set graph one.from (get_or graph one.from [] ++ one.to ∷ []) → IsGraph count (take (i + 1) steps) starts after
graph_turn count steps starts graph after i one h is below so_far put =
    let here : IsBelow count one = subst (IsBelow count) (sym is) (All-get_or (IsBelow count) steps i one h below) in
    let len = so_far.len in
    let from_below = here.from_below in
    let within : one.from < length graph = omega arith in
    let other : count ≢ one.from = λ e. omega arith in
    record {
      len = ap length put ∙ length-set graph one.from (get_or graph one.from [] ++ one.to ∷ []) ∙ len;
      last = ap (λ g. get_or g count []) put ∙ get_or-set_other graph one.from count (get_or graph one.from [] ++ one.to ∷ []) [] other ∙ so_far.last;
      edges = λ from k.
          ap (λ g. get_or g from []) put
          ∙ edges_by steps graph i one from h is within (so_far.edges from k) (cases_Bool (nat_eq from one.from))
          ∙ sym (filter_map-next (end_from from) steps i one h is);
    }

at_itself : {X : Type 0} (xs : List X) (i : ℕ) (d : X) → i < length xs → get_or xs i d ≡ get_or xs i (get_or xs i d)
at_itself [] i d h = absurd (omega arith)
at_itself (x ∷ xs) zero d h = refl
at_itself (x ∷ xs) (suc i) d h = at_itself xs i d (omega arith)

-- the same, where the step is read from the list
pub graph_read : (count : ℕ) (steps : List Step) (starts : List ℕ) (graph after : Graph) (i : ℕ) (d : Step) → i < length steps → All (IsBelow count) steps → IsGraph count (take i steps) starts graph → after ≡ set graph (get_or steps i d).from (get_or graph (get_or steps i d).from [] ++ (get_or steps i d).to ∷ []) → IsGraph count (take (i + 1) steps) starts after
graph_read count steps starts graph after i d h below so_far put =
    graph_turn count steps starts graph after i (get_or steps i d) h (at_itself steps i d h) below so_far put

-- ---- every edge stays in the graph

ends_below : (count : ℕ) (from to : ℕ) (steps : List Step) → All (IsBelow count) steps → has (ends_from steps from) to ≡ true → to < count
ends_below count from to [] below h = absurd (false≢true h)
ends_below count from to (one ∷ steps) below h =
    by (nat_eq from one.from) h (All-head (IsBelow count) one steps below).to_below (ends_below count from to steps (All-tail (IsBelow count) one steps below))
  where
    by : (b : Bool) → has (cons_option (cond b (Some one.to) None) (ends_from steps from)) to ≡ true → one.to < count → (has (ends_from steps from) to ≡ true → to < count) → to < count
    by true e first rest =
        elim (or_cases (nat_eq one.to to) (has (ends_from steps from) to) e) [
          | inl same ↦ subst (λ n. n < count) (eqb-true one.to to same) first
          | inr more ↦ rest more
        ]
    by false e first rest = rest e

pub has_below : (count : ℕ) (xs : List ℕ) (x : ℕ) → All (λ n. n < count) xs → has xs x ≡ true → x < count
has_below count [] x below h = absurd (false≢true h)
has_below count (y ∷ xs) x below h =
    elim (or_cases (nat_eq y x) (has xs x) h) [
      | inl same ↦ subst (λ n. n < count) (eqb-true y x same) (All-head (λ n. n < count) y xs below)
      | inr more ↦ has_below count xs x (All-tail (λ n. n < count) y xs below) more
    ]

edge_within : (graph : Graph) (from to : ℕ) → has (ahead graph from) to ≡ true → from < length graph
edge_within [] from to h = absurd (false≢true h)
edge_within (places ∷ graph) zero to h = omega arith
edge_within (places ∷ graph) (suc from) to h = let r = edge_within graph from to h in omega arith

at_last : (count from : ℕ) → from < count + 1 → (nat_eq from count ≡ true) ⊎ (nat_eq from count ≡ false) → (from ≡ count) ⊎ (from < count)
at_last count from h (inl e) = inl (eqb-true from count e)
at_last count from h (inr e) = let ne = eqb-false from count e in inr (omega arith)

module _ (count : ℕ) (steps : List Step) (starts : List ℕ) (graph : Graph) (is : IsGraph count steps starts graph) (below : All (IsBelow count) steps) where
  pub graph_closed : All (λ start. start < count) starts → IsClosed graph
  graph_closed starts_below from to h =
      let len = is.len in
      let within = edge_within graph from to h in
      elim (at_last count from (omega arith) (cases_Bool (nat_eq from count))) [
        | inl last ↦
            let there = has_below count starts to starts_below (sym (ap (λ xs. has xs to) (ap (ahead graph) last ∙ is.last)) ∙ h) in
            omega arith
        | inr before ↦
            let there = ends_below count from to steps below (sym (ap (λ xs. has xs to) (is.edges from before)) ∙ h) in
            omega arith
      ]

-- ---- walks are ways

any_ends : (count : ℕ) (f g : ℕ → Bool) (from : ℕ) → ((to : ℕ) → to < count → f to ≡ g to) → (steps : List Step) → All (IsBelow count) steps → list_any f (ends_from steps from) ≡ list_any (λ one. nat_eq from one.from && g one.to) steps
any_ends count f g from same [] below = refl
any_ends count f g from same (one ∷ steps) below =
    by (nat_eq from one.from) (same one.to (All-head (IsBelow count) one steps below).to_below) (any_ends count f g from same steps (All-tail (IsBelow count) one steps below))
  where
    by : (b : Bool) → f one.to ≡ g one.to → list_any f (ends_from steps from) ≡ list_any (λ two. nat_eq from two.from && g two.to) steps
        → list_any f (cons_option (cond b (Some one.to) None) (ends_from steps from)) ≡ ((b && g one.to) || list_any (λ two. nat_eq from two.from && g two.to) steps)
    by true first rest = ap (λ b. b || list_any f (ends_from steps from)) first ∙ ap (λ b. g one.to || b) rest
    by false first rest = rest

any_below : (count : ℕ) (f g : ℕ → Bool) (xs : List ℕ) → ((x : ℕ) → x < count → f x ≡ g x) → All (λ x. x < count) xs → list_any f xs ≡ list_any g xs
any_below count f g [] same below = refl
any_below count f g (x ∷ xs) same below =
    ap (λ b. b || list_any f xs) (same x (All-head (λ n. n < count) x xs below))
    ∙ ap (λ b. g x || b) (any_below count f g xs same (All-tail (λ n. n < count) x xs below))

apart : (count n : ℕ) → n < count → nat_eq count n ≡ false
apart count n h = false_from_ne_true (nat_eq count n) (λ e. let same = eqb-true count n e in omega arith)

module _ (count : ℕ) (steps : List Step) (starts : List ℕ) (graph : Graph) (is : IsGraph count steps starts graph) (below : All (IsBelow count) steps) where
  goes_walks : (n from to : ℕ) → from < count → walks graph n from to ≡ goes steps n from to
  goes_walks zero from to h = refl
  goes_walks (suc n) from to h =
      ap (list_any (λ next. walks graph n next to)) (is.edges from h)
      ∙ any_ends count (λ next. walks graph n next to) (λ next. goes steps n next to) from (λ next k. goes_walks n next to k) steps below

  -- What is reached from the last place is what steps lead to from one of the starts.
  pub walks_spread : All (λ start. start < count) starts → (n : ℕ) → n < count → walks_to graph count n ≡ list_any (λ start. goes_to steps count start n) starts
  walks_spread starts_below n h =
      ap (λ len. list_any (λ k. walks graph k count n) (range_with_len 0 (len + 1))) is.len
      ∙ ap (λ len. list_any (λ k. walks graph k count n) (range_with_len 0 len)) (add-one (count + 1))
      ∙ ap (λ b. b || list_any (λ k. walks graph k count n) (range_with_len (0 + 1) (count + 1))) (apart count n h)
      ∙ any_shift (λ k. walks graph k count n) 0 (count + 1)
      ∙ any_same (λ k. walks graph (suc k) count n) (λ k. list_any (λ start. goes steps k start n) starts) (range_with_len 0 (count + 1))
      (λ k.
      ap (list_any (λ next. walks graph k next n)) is.last
      ∙ any_below count (λ next. walks graph k next n) (λ next. goes steps k next n) starts (λ next below_there. goes_walks k next n below_there) starts_below)
      ∙ any_swap (λ k start. goes steps k start n) (range_with_len 0 (count + 1)) starts
