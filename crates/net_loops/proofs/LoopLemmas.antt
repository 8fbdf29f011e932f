-- Loops and values.
use Rattle.std.specs.Prelude.{◌≡◌, ◌⊎◌, ℕ, zero, suc, ◌+◌, ◌<◌, ◌&&◌, ◌||◌, List, [], ◌∷◌, Bool, true, false, Option, Some, None, length, refl, slice_get}
use Rattle.std.specs.Bool.{xor}
use Rattle.std.specs.List.{AllByRecursion, IsDistinct, list_any}
use Rattle.std.specs.Option.{option_and_then, option_map}
use Rattle.std.proofs.Common.{ap, arith, inl, inr, sym, ◌∙◌, subst}
use Rattle.std.proofs.Math.Dec.{eqb}
use Rattle.std.proofs.lemmas.Bool.{cases_Bool, eqb-true, false≢true, or_cases}
use Rattle.std.proofs.lemmas.Map.Steps.{length-le_from_distinct_below}
use Rattle.std.proofs.lemmas.Option.{none-some, slice_get-get_or}
use Rattle.flat_net.specs.declared.edge.Edge.{Edge}
use Rattle.flat_net.specs.declared.node.Node.{Node}
use Rattle.flat_net.specs.declared.node.Node.TheVariants.{And, Buf, Input, Reg, Xor, Zero}
use Rattle.flat_net.specs.Nets.{IsNet, Net}
use Rattle.flat_net.specs.Values.{Reading, edge_value, node_value, node_value_of, of_both, within}
use Rattle.flat_net.proofs.ValueLemmas.{node_value_of_fixed}
use Rattle.net_loops.specs.Loops.{HasEdgeTo, Leads, Reads, ReadsItself}
use Rattle.net_loops.proofs.SourceLemmas.{IsGood, net_good}

or_first : (first second : Bool) → (first || second) ≡ false → first ≡ false
or_first true second is = is
or_first false second is = refl

or_second : (first second : Bool) → (first || second) ≡ false → second ≡ false
or_second true true is = is
or_second true false is = refl
or_second false second is = is

-- ---- ways

module _ (nodes : List Node) where
  pub leads_more : (count from mid next : ℕ) → Leads nodes count from mid → Reads nodes mid next → Leads nodes (suc count) from next
  leads_more zero from mid next same reads = (next, (subst (λ place. Reads nodes place next) (sym same) reads, refl))
  leads_more (suc count) from mid next (first, (reads, way)) last = (first, (reads, leads_more count first mid next way last))

-- ---- what reads itself has no value

edge_none : (read : Reading) (edge : Edge) (next : ℕ) → edge.node ≡ next → read next ≡ None → edge_value read edge ≡ None
edge_none read edge next is none = ap (option_map (xor edge.neg)) (ap read is ∙ none)

second_none : (f : Bool → Bool → Bool) (first second : Option Bool) → second ≡ None → of_both f first second ≡ None
second_none f first second none = ap (of_both f first) none ∙ both first
  where
    both : (first : Option Bool) → of_both f first None ≡ None
    both None = refl
    both (Some value) = refl

first_none : (f : Bool → Bool → Bool) (first second : Option Bool) → first ≡ None → of_both f first second ≡ None
first_none f first second none = ap (λ value. of_both f value second) none

value_none : (state row : List Bool) (read : Reading) (node : Node) (next : ℕ) → HasEdgeTo node next → read next ≡ None
    → node_value state row read node ≡ None
value_none state row read Zero next is none = absurd is
value_none state row read (Input place) next is none = absurd is
value_none state row read (Reg place) next is none = absurd is
value_none state row read (Buf edge) next is none = edge_none read edge next is none
value_none state row read (And left right) next (inl is) none = first_none ◌&&◌ _ (edge_value read right) (edge_none read left next is none)
value_none state row read (And left right) next (inr is) none = second_none ◌&&◌ (edge_value read left) _ (edge_none read right next is none)
value_none state row read (Xor left right) next (inl is) none = first_none xor _ (edge_value read right) (edge_none read left next is none)
value_none state row read (Xor left right) next (inr is) none = second_none xor (edge_value read left) _ (edge_none read right next is none)

pub none : (nodes : List Node) (state row : List Bool) (steps node count : ℕ) → Leads nodes (suc count) node node
    → within nodes state row steps node ≡ None
none nodes state row zero node count way = refl
none nodes state row (suc steps) node count (next, (reads, way)) =
    ap (option_and_then (node_value state row (within nodes state row steps))) reads.there
    ∙ value_none state row (within nodes state row steps) reads.node next reads.edge
    (none nodes state row steps next count (leads_more nodes count next node next way reads))

-- ---- what has no value reads what has none

edge_has_none : (read : Reading) (edge : Edge) → edge_value read edge ≡ None → read edge.node ≡ None
edge_has_none read edge is = by (read edge.node) is
  where
    by : (value : Option Bool) → option_map (xor edge.neg) value ≡ None → value ≡ None
    by None is = refl
    by (Some value) is = absurd (none-some (xor edge.neg value) (sym is))

some_none : (f : Bool → Bool → Bool) (first second : Option Bool) → of_both f first second ≡ None → (first ≡ None) ⊎ (second ≡ None)
some_none f None second is = inl refl
some_none f (Some x) None is = inr refl
some_none f (Some x) (Some y) is = absurd (none-some (f x y) (sym is))

-- a node that this one reads and that has no value
record Missing (read : Reading) (count : ℕ) (node : Node) : Type 0 where
  next : ℕ
  edge : HasEdgeTo node next
  within : next < count
  none : read next ≡ None

module _ (net : Net) (is : IsNet net) (state row : List Bool) (states : length state ≡ length net.power_up) (rows : length row ≡ net.inputs) where
  abbrev has : Reading
  has = node_value_of net state row

  abbrev nodes : List Node
  nodes = net.nodes

  known : (values : List Bool) (place : ℕ) → place < length values → slice_get values place ≡ None → ⊥
  known values place inside none = none-some _ (sym none ∙ slice_get-get_or values place false inside)

  of_two : (f : Bool → Bool → Bool) (node : Node) (left right : Edge) → (left.node < length nodes) × (right.node < length nodes)
      → ((next : ℕ) → (left.node ≡ next) ⊎ (right.node ≡ next) → HasEdgeTo node next)
      → of_both f (edge_value has left) (edge_value has right) ≡ None → Missing has (length nodes) node
  of_two f node left right inside edge none =
      elim (some_none f (edge_value has left) (edge_value has right) none) [
        | inl gone ↦ record { next = left.node; edge = edge left.node (inl refl); within = inside.0; none = edge_has_none has left gone }
        | inr gone ↦ record { next = right.node; edge = edge right.node (inr refl); within = inside.1; none = edge_has_none has right gone }
      ]

  missing : (node : Node) → IsGood net.inputs (length net.power_up) (length nodes) node → node_value state row has node ≡ None
      → Missing has (length nodes) node
  missing Zero good none = absurd (none-some false (sym none))
  missing (Input place) good none = absurd (known row place (subst (λ count. place < count) (sym rows) good) none)
  missing (Reg place) good none = absurd (known state place (subst (λ count. place < count) (sym states) good) none)
  missing (Buf edge) good none = record { next = edge.node; edge = refl; within = good; none = edge_has_none has edge none }
  missing (And left right) good none = of_two ◌&&◌ (And left right) left right good (λ next is. is) none
  missing (Xor left right) good none = of_two xor (Xor left right) left right good (λ next is. is) none

  record Next (node : ℕ) : Type 0 where
    next : ℕ
    reads : Reads nodes node next
    within : next < length nodes
    none : has next ≡ None

  next_of : (place : ℕ) → place < length nodes → has place ≡ None → Next place
  next_of place inside none =
      let there = slice_get-get_or nodes place Zero inside in
      let gone = sym (ap (option_and_then (node_value state row has)) there) ∙ (sym (node_value_of_fixed net state row place) ∙ none) in
      let found = missing _ (net_good net is place _ there) gone in
      record { next = found.next; reads = record { node = _; there = there; edge = found.edge }; within = found.within; none = found.none }

  -- ---- a way that is too long comes back

  record IsWay (path : List ℕ) (head : ℕ) : Type 0 where
    distinct : IsDistinct eqb path
    below : (place : ℕ) → list_any (eqb place) path ≡ true → place < length nodes
    leads : (place : ℕ) → list_any (eqb place) path ≡ true → (count : ℕ) × Leads nodes count place head
    inside : head < length nodes
    none : has head ≡ None

  apart : (place : ℕ) (path : List ℕ) → list_any (eqb place) path ≡ false → AllByRecursion (λ other. eqb place other ≡ false) path
  apart place [] fails = tt
  apart place (other ∷ path) fails = (
    or_first (eqb place other) (list_any (eqb place) path) fails,
    apart place path (or_second (eqb place other) (list_any (eqb place) path) fails),
  )

  -- one node more on the way
  longer : (path : List ℕ) (head : ℕ) → IsWay path head → (found : Next head) → list_any (eqb found.next) path ≡ false → IsWay (found.next ∷ path) found.next
  unfolding IsDistinct
  longer path head way found fresh = record {
    distinct = (apart found.next path fresh, way.distinct);
    below = λ place among. elim (or_cases (eqb place found.next) (list_any (eqb place) path) among) [
      | inl same ↦ subst (λ one. one < length nodes) (sym (eqb-true place found.next same)) found.within
      | inr before ↦ way.below place before
    ];
    leads = λ place among. elim (or_cases (eqb place found.next) (list_any (eqb place) path) among) [
      | inl same ↦ (0, eqb-true place found.next same)
      | inr before ↦
          let old = way.leads place before in
          (suc old.0, leads_more nodes old.0 place head found.next old.1 found.reads)
    ];
    inside = found.within;
    none = found.none;
  }

  loop_from : (fuel : ℕ) (path : List ℕ) (head : ℕ) → IsWay path head → length nodes < length path + fuel → (other : ℕ) × ReadsItself nodes other
  loop_from zero path head way long =
      let few = length-le_from_distinct_below path (length nodes) way.distinct way.below in absurd (omega (arith, few, long))
  loop_from (suc fuel) path head way long =
      let found : Next head = next_of head way.inside way.none in
      elim (cases_Bool (list_any (eqb found.next) path)) [
        | inl back ↦
            let old = way.leads found.next back in
            (found.next, (old.0, leads_more nodes old.0 found.next head found.next old.1 found.reads))
        | inr fresh ↦ loop_from fuel (found.next ∷ path) found.next (longer path head way found fresh) (omega (arith, long))
      ]

  start : (node : ℕ) → node < length nodes → has node ≡ None → IsWay (node ∷ []) node
  unfolding IsDistinct
  start node inside gone = record {
    distinct = (tt, tt);
    below = λ place among. subst (λ one. one < length nodes) (sym (only place among)) inside;
    leads = λ place among. (0, only place among);
    inside = inside;
    none = gone;
  }
    where
      only : (place : ℕ) → list_any (eqb place) (node ∷ []) ≡ true → place ≡ node
      only place among = elim (or_cases (eqb place node) false among) [
        | inl same ↦ eqb-true place node same
        | inr not ↦ absurd (false≢true not)
      ]

pub loop : (net : Net) → IsNet net → (state row : List Bool) → length state ≡ length net.power_up → length row ≡ net.inputs
    → (node : ℕ) → node < length net.nodes → node_value_of net state row node ≡ None → (other : ℕ) × ReadsItself net.nodes other
loop net is state row states rows node inside none =
    loop_from net is state row states rows (length net.nodes) (node ∷ []) node (start net is state row states rows node inside none) (omega arith)
