-- Instances that are added to a list.
use Rattle.std.proofs.Common.{◌≡◌, ℕ, suc, ◌+◌, ◌-◌, ◌<◌, ◌≤◌, List, [], ◌∷◌, ◌++◌, length, drop, get_or, refl, sym, ◌∙◌, ap, subst, arith, flat_map, inl, inr, append_assoc, length-append, slice_set, IfErr, Result, Ok, Err, IsErrAnd, map, true}
use Rattle.std.proofs.Math.Seq.{set-append_seam}
use Rattle.std.proofs.lemmas.List.{drop_more, length-map}
use Rattle.flat_net.specs.declared.fault.FlatFault.{FlatFault}
use Rattle.hierarchy.specs.Graph.{Graph, IsClosed, ahead, has}
use Rattle.instances.specs.declared.placed.Placed.{Placed}
use Rattle.instances.specs.Adding.{placed_from, placed_with}
use Rattle.instances.specs.Placing.{IsRefused}

pub placed_none : (graph : Graph) (depth place : ℕ) → depth ≡ 0 → placed_from graph depth place ≡ []
unfolding placed_from
placed_none graph depth place e = ap (λ d. placed_from graph d place) e

pub placed_some : (graph : Graph) (depth place : ℕ) →
    placed_from graph (suc depth) place ≡ placed_with place (flat_map (placed_from graph depth) (ahead graph place))
unfolding placed_from
placed_some graph depth place = refl

pub refused_more : (fewer more : ℕ) (fault : FlatFault) → fewer ≤ more → IsRefused fewer fault → IsRefused more fault
refused_more fewer more fault h refused = elim refused [
  | inl none ↦ inl none
  | inr large ↦ let l = large.1 in inr (large.0, omega arith)
]

-- the next module, where a loop adds an instance of each
pub added_turn : (F : ℕ → List Placed) (places : List ℕ) (i : ℕ) (initial list after : List Placed) → i < length places →
    list ++ flat_map F (drop i places) ≡ initial ++ flat_map F places → after ≡ list ++ F (get_or places i 0) →
    after ++ flat_map F (drop (i + 1) places) ≡ initial ++ flat_map F places
added_turn F places i initial list after h so_far added =
    ap (λ xs. xs ++ flat_map F (drop (i + 1) places)) added
    ∙ append_assoc list (F (get_or places i 0)) (flat_map F (drop (i + 1) places))
    ∙ sym (ap (λ ps. list ++ flat_map F ps) (drop_more places i 0 h)) ∙ so_far

-- one of them that is too much makes all too much
pub refused_turn : (F : ℕ → List Placed) (places : List ℕ) (i : ℕ) (initial list : List Placed) (fault : FlatFault) → i < length places →
    list ++ flat_map F (drop i places) ≡ initial ++ flat_map F places → IsRefused (length list + length (F (get_or places i 0))) fault →
    IsRefused (length initial + length (flat_map F places)) fault
refused_turn F places i initial list fault h so_far refused =
    let here = F (get_or places i 0) in
    let rest = flat_map F (drop (i + 1) places) in
    let all : list ++ (here ++ rest) ≡ initial ++ flat_map F places =
    sym (ap (λ ps. list ++ flat_map F ps) (drop_more places i 0 h)) ∙ so_far in
    let lengths : length list + (length here + length rest) ≡ length initial + length (flat_map F places) =
    sym (length-append list (here ++ rest) ∙ ap (λ n. length list + n) (length-append here rest)) ∙ ap length all
    ∙ length-append initial (flat_map F places) in
    refused_more (length list + length here) (length initial + length (flat_map F places)) fault (omega arith) refused

-- ---- an instance and those that stand in it

set_sized : (list after : List Placed) (inner : List Placed) (place : ℕ) →
    let first : Placed = record { «module» = place; size = 1 } in after ≡ list ++ first ∷ inner →
    slice_set after (length list) (record { «module» = place; size = length after - length list }) ≡ list ++ placed_with place inner
set_sized list after inner place e =
    let first : Placed = record { «module» = place; size = 1 } in
    let long : length after ≡ length list + suc (length inner) = ap length e ∙ length-append list (first ∷ inner) in
    let size : length after - length list ≡ 1 + length inner = omega arith in
    ap (λ xs. slice_set xs (length list) (record { «module» = place; size = length after - length list })) e
    ∙ set-append_seam list first inner (record { «module» = place; size = length after - length list })
    ∙ ap (λ n. let made : Placed = record { «module» = place; size = n } in list ++ made ∷ inner) size

-- an instance is added, then those that stand in it, and then its size is set
pub added_all : (graph : Graph) (depth below place : ℕ) (list first all : List Placed) (places : List ℕ) (at size : ℕ) →
    depth ≡ suc below → places ≡ ahead graph place →
    (let made : Placed = record { «module» = place; size = 1 } in first ≡ list ++ made ∷ []) →
    all ≡ first ++ flat_map (placed_from graph below) places → at ≡ length list → size ≡ length all - at →
    slice_set all at (record { «module» = place; size = size }) ≡ list ++ placed_from graph depth place
added_all graph depth below place list first all places at size deep is pushed added here sized =
    let made : Placed = record { «module» = place; size = 1 } in
    let inner = flat_map (placed_from graph below) (ahead graph place) in
    let whole : all ≡ list ++ made ∷ inner =
    added ∙ ap (λ ps. first ++ flat_map (placed_from graph below) ps) is ∙ ap (λ xs. xs ++ inner) pushed
    ∙ append_assoc list (made ∷ []) inner in
    ap (λ n. slice_set all n (record { «module» = place; size = size })) here
    ∙ ap (λ n. slice_set all (length list) (record { «module» = place; size = n })) (sized ∙ ap (λ n. length all - n) here)
    ∙ set_sized list all inner place whole
    ∙ ap (λ xs. list ++ xs) (sym (ap (λ d. placed_from graph d place) deep ∙ placed_some graph below place))

placed_long : (graph : Graph) (depth below place : ℕ) → depth ≡ suc below →
    length (placed_from graph depth place) ≡ suc (length (flat_map (placed_from graph below) (ahead graph place)))
placed_long graph depth below place deep = ap length (ap (λ d. placed_from graph d place) deep ∙ placed_some graph below place)

-- An instance that has no room makes all too much.
pub refused_first : (graph : Graph) (depth below place : ℕ) (list : List Placed) (fault : FlatFault) → depth ≡ suc below →
    IsRefused (length list + 1) fault → IsRefused (length list + length (placed_from graph depth place)) fault
refused_first graph depth below place list fault deep refused =
    let long = placed_long graph depth below place deep in
    refused_more (length list + 1) (length list + length (placed_from graph depth place)) fault (omega arith) refused

-- and so do those that stand in it
pub refused_inner : (graph : Graph) (depth below place : ℕ) (list first : List Placed) (places : List ℕ) (fault : FlatFault) →
    depth ≡ suc below → places ≡ ahead graph place →
    (let made : Placed = record { «module» = place; size = 1 } in first ≡ list ++ made ∷ []) →
    IsRefused (length first + length (flat_map (placed_from graph below) places)) fault →
    IsRefused (length list + length (placed_from graph depth place)) fault
refused_inner graph depth below place list first places fault deep is pushed refused =
    let made : Placed = record { «module» = place; size = 1 } in
    let long = placed_long graph depth below place deep in
    let same : length (flat_map (placed_from graph below) places) ≡ length (flat_map (placed_from graph below) (ahead graph place)) =
    ap (λ ps. length (flat_map (placed_from graph below) ps)) is in
    let one : length first ≡ length list + 1 = ap length pushed ∙ length-append list (made ∷ []) in
    refused_more (length first + length (flat_map (placed_from graph below) places))
    (length list + length (placed_from graph depth place)) fault (omega arith) refused

-- a fault that is passed on
pub passed_on : {X : Type 0} (count : ℕ) (result : Result X FlatFault) (why : FlatFault) → IsErrAnd result (λ fault. fault ≡ why) →
    IsRefused count why → IfErr result (IsRefused count)
passed_on count (Ok x) why is refused = tt
passed_on count (Err fault) why is refused = subst (IsRefused count) (sym is) refused

-- where edges of a graph lead, that is kept as a list of lists
pub inner_within : {V : Type 0} (view : V → List ℕ) (graph : List V) (from : ℕ) (places : List ℕ) → places ≡ ahead (map view graph) from →
    IsClosed (map view graph) → (to : ℕ) → has places to ≡ true → to < length graph
inner_within view graph from places is closed to h =
    subst (λ n. to < n) (length-map graph view) (closed from to (subst (λ xs. has xs to ≡ true) is h))
