-- Values of nodes, found in an order.
use Rattle.std.specs.Prelude.{◌≡◌, ◌≢◌, ◌⊎◌, ◌<◌, ◌&&◌, ℕ, zero, suc, List, [], ◌∷◌, ◌++◌, All, Bool, false, Option, Some, None, fold, length, map, option_and_then, refl, slice_get, slice_index_or, slice_set}
use Rattle.std.specs.Bool.{xor}
use Rattle.std.specs.List.{AllByRecursion}
use Rattle.std.specs.Option.{option_map}
use Rattle.std.proofs.Common.{ap, append_assoc, arith, get_or, inl, inr, sym, ◌∙◌, subst}
use Rattle.std.proofs.Math.ListN.{length-set}
use Rattle.std.proofs.lemmas.List.{append-nil, length-map}
use Rattle.std.proofs.lemmas.List.Elements.{All-from_get_or, All-map, recursion_from_All}
use Rattle.std.proofs.lemmas.Option.{none-some, slice_get-get_or, slice_get_within}
use Rattle.flat_net.specs.declared.edge.Edge.{Edge}
use Rattle.flat_net.specs.declared.node.Node.{Node}
use Rattle.flat_net.specs.declared.node.Node.TheVariants.{And, Buf, Input, Reg, Xor, Zero}
use Rattle.flat_net.specs.Nets.{IsNet, IsWithin, Net}
use Rattle.flat_net.specs.Values.{Reading, edge_value, edge_value_of, node_value, node_value_of, of_both}
use Rattle.flat_net.proofs.ValueLemmas.{node_value_of_fixed}
use Rattle.net_loops.specs.Loops.{HasEdgeTo}
use Rattle.net_loops.proofs.SourceLemmas.{IsGood, net_good}
use Rattle.net_order.specs.Orders.{IsOrder}
use Rattle.net_order.proofs.ListLemmas.{get_kept, get_more}
use Rattle.levelise.specs.declared.placed.Placed.{Placed}
use Rattle.levelise.specs.Evaluation.{CanRead, HasValues, IsPlaced, with_value}
use Rattle.levelise.specs.Machine.{known}
use Rattle.levelise.specs.Rows.{IsRow, placed_at, placed_by}

-- ---- lists

pub set_value : (bits : List Bool) (i : ℕ) (value : Bool) → i < length bits → slice_get (slice_set bits i value) i ≡ Some value
set_value [] i value inside = absurd (omega arith)
set_value (bit ∷ bits) zero value inside = refl
set_value (bit ∷ bits) (suc i) value inside = set_value bits i value (omega arith)

pub set_apart : (bits : List Bool) (i n : ℕ) (value : Bool) → n ≢ i → slice_get (slice_set bits i value) n ≡ slice_get bits n
set_apart [] i n value apart = refl
set_apart (bit ∷ bits) zero zero value apart = absurd (apart refl)
set_apart (bit ∷ bits) zero (suc n) value apart = refl
set_apart (bit ∷ bits) (suc i) zero value apart = refl
set_apart (bit ∷ bits) (suc i) (suc n) value apart = set_apart bits i n value (λ e. apart (omega arith))

-- a place in the first of two lists
in_front : (xs ys : List ℕ) (i x : ℕ) → slice_get (xs ++ ys) i ≡ Some x → i < length xs → slice_get xs i ≡ Some x
in_front [] ys i x at inside = absurd (omega arith)
in_front (y ∷ xs) ys zero x at inside = at
in_front (y ∷ xs) ys (suc i) x at inside = in_front xs ys i x at (omega arith)

at_seam : (xs ys : List ℕ) (x : ℕ) → slice_get (xs ++ x ∷ ys) (length xs) ≡ Some x
at_seam [] ys x = refl
at_seam (y ∷ xs) ys x = at_seam xs ys x

-- ---- a node has its value by those of the nodes that it reads

edge_same : (read other : Reading) (edge : Edge) → read edge.node ≡ other edge.node → edge_value read edge ≡ edge_value other edge
edge_same read other edge is = ap (option_map (xor edge.neg)) is

both_same : (f : Bool → Bool → Bool) (read other : Reading) (left right : Edge)
    → ((next : ℕ) → (left.node ≡ next) ⊎ (right.node ≡ next) → read next ≡ other next)
    → of_both f (edge_value read left) (edge_value read right) ≡ of_both f (edge_value other left) (edge_value other right)
both_same f read other left right same =
    ap (λ value. of_both f value (edge_value read right)) (edge_same read other left (same left.node (inl refl)))
    ∙ ap (of_both f (edge_value other left)) (edge_same read other right (same right.node (inr refl)))

value_same : (state row : List Bool) (read other : Reading) (node : Node) → ((next : ℕ) → HasEdgeTo node next → read next ≡ other next)
    → node_value state row read node ≡ node_value state row other node
value_same state row read other Zero same = refl
value_same state row read other (Input place) same = refl
value_same state row read other (Reg place) same = refl
value_same state row read other (Buf edge) same = edge_same read other edge (same edge.node refl)
value_same state row read other (And left right) same = both_same ◌&&◌ read other left right same
value_same state row read other (Xor left right) same = both_same xor read other left right same

-- ---- a node that can be read has a value

some_known : (bits : List Bool) (i : ℕ) → i < length bits → slice_get bits i ≡ Some (known (slice_get bits i))
some_known bits i inside = by (slice_get bits i) (slice_get-get_or bits i false inside)
  where
    by : (found : Option Bool) → found ≡ Some (get_or bits i false) → found ≡ Some (known found)
    by None is = absurd (none-some _ is)
    by (Some value) is = refl

edge_known : (bits : List Bool) (edge : Edge) → edge.node < length bits
    → edge_value (slice_get bits) edge ≡ Some (known (edge_value (slice_get bits) edge))
edge_known bits edge inside = by (slice_get bits edge.node) (some_known bits edge.node inside)
  where
    by : (found : Option Bool) → found ≡ Some (known found)
        → option_map (xor edge.neg) found ≡ Some (known (option_map (xor edge.neg) found))
    by None is = absurd (none-some _ is)
    by (Some value) is = refl

both_known : (f : Bool → Bool → Bool) (first second : Option Bool) → first ≡ Some (known first) → second ≡ Some (known second)
    → of_both f first second ≡ Some (known (of_both f first second))
both_known f None second is other = absurd (none-some _ is)
both_known f (Some x) None is other = absurd (none-some _ other)
both_known f (Some x) (Some y) is other = refl

value_known : (state row work : List Bool) (node : Node) → CanRead (length row) (length state) (length work) node
    → node_value state row (slice_get work) node ≡ Some (known (node_value state row (slice_get work) node))
value_known state row work Zero can = refl
value_known state row work (Input place) can = some_known row place can
value_known state row work (Reg place) can = some_known state place can
value_known state row work (Buf edge) can = edge_known work edge can
value_known state row work (And left right) can = both_known ◌&&◌ _ _ (edge_known work left can.0) (edge_known work right can.1)
value_known state row work (Xor left right) can = both_known xor _ _ (edge_known work left can.0) (edge_known work right can.1)

good_reads : (inputs registers count : ℕ) (node : Node) → IsGood inputs registers count node → CanRead inputs registers count node
good_reads inputs registers count Zero good = tt
good_reads inputs registers count (Input place) good = good
good_reads inputs registers count (Reg place) good = good
good_reads inputs registers count (Buf edge) good = good
good_reads inputs registers count (And left right) good = good
good_reads inputs registers count (Xor left right) good = good

-- ---- all nodes in their order

module _ (net : Net) (is : IsNet net) (state row : List Bool) (states : length state ≡ length net.power_up) (rows : length row ≡ net.inputs)
    (order : List ℕ) (ordered : IsOrder net.nodes order) where
  node_at : (number : ℕ) → number < length net.nodes → slice_get net.nodes number ≡ Some (slice_index_or net.nodes number Zero)
  node_at number inside = slice_get-get_or net.nodes number Zero inside

  pub can_read : (count : ℕ) → count ≡ length net.nodes → (number : ℕ) → number < length net.nodes
      → CanRead (length row) (length state) count (slice_index_or net.nodes number Zero)
  can_read count count_is number inside =
      let good = net_good net is number _ (node_at number inside) in
      let here : CanRead net.inputs (length net.power_up) (length net.nodes) (slice_index_or net.nodes number Zero) =
      good_reads _ _ _ _ good in
      subst (λ inputs. CanRead inputs (length state) count (slice_index_or net.nodes number Zero)) (sym rows)
      (subst (λ registers. CanRead net.inputs registers count (slice_index_or net.nodes number Zero)) (sym states)
      (subst (λ n. CanRead net.inputs (length net.power_up) n (slice_index_or net.nodes number Zero)) (sym count_is) here))

  order_inside : (i : ℕ) → i < length order → get_or order i 0 < length net.nodes
  order_inside i inside = ordered.within i (get_or order i 0) (slice_get-get_or order i 0 inside)

  pub all_placed : (count : ℕ) → count ≡ length net.nodes → All (IsPlaced (length row) (length state) count) (placed_by net.nodes order)
  all_placed count count_is =
      All-map (IsPlaced (length row) (length state) count) (placed_at net.nodes) order
      (All-from_get_or (λ number. IsPlaced (length row) (length state) count (placed_at net.nodes number)) order 0
      (λ i inside.
      let number_inside = order_inside i inside in
      record {
        number = omega (arith, number_inside, count_is);
        reads = can_read count count_is (get_or order i 0) number_inside;
      }))

  -- the values of these nodes
  record HasSome (done : List ℕ) (work : List Bool) : Type 0 where
    count : length work ≡ length net.nodes
    value : (place node : ℕ) → slice_get done place ≡ Some node → slice_get work node ≡ node_value_of net state row node

  -- one node more
  module _ (done rest : List ℕ) (number : ℕ) (work : List Bool) (parts : order ≡ done ++ number ∷ rest) (some : HasSome done work) where
    abbrev node : Node
    node = slice_index_or net.nodes number Zero

    at_number : slice_get order (length done) ≡ Some number
    at_number = ap (λ list. slice_get list (length done)) parts ∙ at_seam done rest number

    inside : number < length net.nodes
    inside = ordered.within (length done) number at_number

    reads_done : (next : ℕ) → HasEdgeTo node next → slice_get work next ≡ node_value_of net state row next
    reads_done next edge =
        let before = ordered.after (length done) number next at_number
        (record { node = node; there = node_at number inside; edge = edge }) in
        let in_order = ap (λ list. slice_get list before.0) (sym parts) ∙ before.1.1 in
        some.value before.0 next (in_front done (number ∷ rest) before.0 next in_order before.1.0)

    number_value : slice_get (with_value state row work (placed_at net.nodes number)) number ≡ node_value_of net state row number
    number_value =
        set_value work number (known (node_value state row (slice_get work) node)) (omega (arith, inside, some.count))
        ∙ sym (value_known state row work node (can_read (length work) some.count number inside))
        ∙ value_same state row (slice_get work) (node_value_of net state row) node reads_done
        ∙ sym (node_value_of_fixed net state row number
        ∙ ap (option_and_then (node_value state row (node_value_of net state row))) (node_at number inside))

    other_value : (place other : ℕ) → slice_get done place ≡ Some other
        → slice_get (with_value state row work (placed_at net.nodes number)) other ≡ node_value_of net state row other
    other_value place other old =
        let apart : other ≢ number = λ same.
        let where_old : slice_get order place ≡ Some number =
        ap (λ list. slice_get list place) parts ∙ get_kept done (number ∷ rest) place number (old ∙ ap Some same) in
        let far = slice_get_within done place other old in
        let here = ordered.once place (length done) number where_old at_number in
        omega (arith, far, here) in
        set_apart work number other (known (node_value state row (slice_get work) node)) apart ∙ some.value place other old

    with_one : HasSome (done ++ number ∷ []) (with_value state row work (placed_at net.nodes number))
    with_one = record {
      count = length-set work number (known (node_value state row (slice_get work) node)) ∙ some.count;
      value = λ place other at. elim (get_more done number place other at) [
        | inl old ↦ other_value place other old
        | inr now ↦
            subst (λ one. slice_get (with_value state row work (placed_at net.nodes number)) one ≡ node_value_of net state row one) now.1
            number_value
      ];
    }

  with_all : (done rest : List ℕ) (work : List Bool) → order ≡ done ++ rest → HasSome done work
      → HasSome order (fold (with_value state row) work (placed_by net.nodes rest))
  with_all done [] work parts some = subst (λ list. HasSome list work) (sym (append-nil done) ∙ sym parts) some
  with_all done (number ∷ rest) work parts some =
      with_all (done ++ number ∷ []) rest (with_value state row work (placed_at net.nodes number))
      (parts ∙ sym (append_assoc done (number ∷ []) rest)) (with_one done rest number work parts some)

  pub evaluated : (work : List Bool) → length work ≡ length net.nodes
      → HasValues net state row (fold (with_value state row) work (placed_by net.nodes order))
  evaluated work count =
      let all = with_all [] order work refl (record { count = count; value = λ place node at. absurd (none-some node at) }) in
      record {
        count = all.count;
        value = λ node inside. let stands = ordered.all node inside in all.value stands.0 node stands.1;
      }

-- ---- the nodes that are shown

module _ (net inside : Net) (same : inside ≡ net) (is : IsNet inside) (nodes shown : List Placed) (shown_is : shown ≡ nodes)
    (made : IsRow inside.nodes nodes) (state row : List Bool) (states : length state ≡ length net.power_up)
    (rows : length row ≡ net.inputs) where
  pub is_net : IsNet net
  is_net = subst (λ one. IsNet one) same is

  made_here : IsRow net.nodes nodes
  made_here = subst (λ (one : Net). IsRow one.nodes nodes) same made

  all_here : shown ≡ placed_by net.nodes made_here.order
  all_here = shown_is ∙ made_here.row_is

  pub shown_placed : (count : ℕ) → count ≡ length net.nodes → All (IsPlaced (length row) (length state) count) shown
  shown_placed count count_is =
      subst (λ list. All (IsPlaced (length row) (length state) count) list) (sym all_here)
      (all_placed net is_net state row states rows made_here.order made_here.is_order count count_is)

  pub shown_values : (work new : List Bool) → length work ≡ length net.nodes → new ≡ fold (with_value state row) work shown
      → HasValues net state row new
  shown_values work new count new_is =
      subst (λ values. HasValues net state row values) (sym (new_is ∙ ap (fold (with_value state row) work) all_here))
      (evaluated net is_net state row states rows made_here.order made_here.is_order work count)

-- ---- edges

module _ (net : Net) (state row work : List Bool) (values : HasValues net state row work) where
  edge_of : (edge : Edge) → IsWithin (length net.nodes) edge → edge_value (slice_get work) edge ≡ edge_value_of net state row edge
  edge_of edge inside = edge_same (slice_get work) (node_value_of net state row) edge (values.value edge.node inside)

  edges_of : (edges : List Edge) → AllByRecursion (IsWithin (length net.nodes)) edges
      → map (λ edge. known (edge_value (slice_get work) edge)) edges ≡ map (λ edge. known (edge_value_of net state row edge)) edges
  edges_of [] all = refl
  edges_of (edge ∷ edges) (here, others) =
      ap (λ (value : Option Bool). known value ∷ map (λ edge. known (edge_value (slice_get work) edge)) edges) (edge_of edge here)
      ∙ ap (λ (bits : List Bool). known (edge_value_of net state row edge) ∷ bits) (edges_of edges others)

  pub next_is : IsNet net
      → map (λ edge. known (edge_value (slice_get work) edge)) net.next ≡ map (λ edge. known (edge_value_of net state row edge)) net.next
  next_is is = edges_of net.next (recursion_from_All _ net.next is.next_within)

  pub bad_is : IsNet net → (bit : Bool) → edge_value (slice_get work) net.bad ≡ Some bit → bit ≡ known (edge_value_of net state row net.bad)
  bad_is is bit at = ap known (sym at ∙ edge_of net.bad is.bad_within)

-- ---- the next state

pub next_counted : (net : Net) → IsNet net → (f : Edge → Bool) (next : List Bool) → next ≡ map f net.next
    → length next ≡ length net.power_up
next_counted net is f next made = ap length made ∙ length-map net.next f ∙ is.next_count
