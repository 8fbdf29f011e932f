-- Values of nodes, found in steps.
use Rattle.std.proofs.Common.{◌≡◌, ℕ, ◌<◌, ◌≤◌, Bool, false, ◌&&◌, List, length, slice_get, refl, sym, ◌∙◌, ap, subst, arith, Option, Some, None, nat_lt}
use Rattle.std.specs.Option.{option_map, option_and_then}
use Rattle.std.specs.Bool.{xor}
use Rattle.std.specs.List.{range_with_len}
use Rattle.std.proofs.lemmas.Bool.{ltb-true, ltb-false}
use Rattle.std.proofs.lemmas.List.FromFn.{length-range_with_len, get_or-range_with_len}
use Rattle.std.proofs.lemmas.Option.{slice_get_past, slice_get-get_or}
use Rattle.flat_net.specs.Nets.{Net}
use Rattle.flat_net.specs.Orders.{IsBelow}
use Rattle.flat_net.specs.Values.{Reading, edge_value, node_value, node_value_of, of_both, within}
use Rattle.flat_net.specs.declared.edge.Edge.{Edge}
use Rattle.flat_net.specs.declared.node.Node.{Node}
use Rattle.flat_net.specs.declared.node.Node.TheVariants.{Zero, Input, Reg, Buf, And, Xor}
use Rattle.flat_net.proofs.Rounds.{IsRounds, HasAll, below_self, below_equal, none_below}
use Rattle.flat_net.proofs.Rounds as rounds

-- ---- from more values come more

pub option_map_below : (f : Bool → Bool) (first second : Option Bool) → IsBelow first second →
    IsBelow (option_map f first) (option_map f second)
option_map_below f None second h = none_below None (option_map f second) refl
option_map_below f (Some value) second h = below_equal (Some (f value)) (option_map f second) (sym (ap (option_map f) (h value refl)))

pub of_both_below : (f : Bool → Bool → Bool) (first second other_first other_second : Option Bool) →
    IsBelow first other_first → IsBelow second other_second → IsBelow (of_both f first second) (of_both f other_first other_second)
of_both_below f None second other_first other_second h k = none_below None (of_both f other_first other_second) refl
of_both_below f (Some x) None other_first other_second h k = none_below None (of_both f other_first other_second) refl
of_both_below f (Some x) (Some y) other_first other_second h k =
    below_equal (Some (f x y)) (of_both f other_first other_second)
    (sym (ap (λ o. of_both f o other_second) (h x refl) ∙ ap (of_both f (Some x)) (k y refl)))

module _ (read other : Reading) (below : (node : ℕ) → IsBelow (read node) (other node)) where
  pub edge_value_below : (edge : Edge) → IsBelow (edge_value read edge) (edge_value other edge)
  edge_value_below edge = option_map_below (xor edge.neg) (read edge.node) (other edge.node) (below edge.node)

  pub node_value_below : (state row : List Bool) (node : Node) →
      IsBelow (node_value state row read node) (node_value state row other node)
  node_value_below state row Zero = below_self (Some false)
  node_value_below state row (Input place) = below_self (slice_get row place)
  node_value_below state row (Reg place) = below_self (slice_get state place)
  node_value_below state row (Buf edge) = edge_value_below edge
  node_value_below state row (And left right) =
      of_both_below ◌&&◌ (edge_value read left) (edge_value read right) (edge_value other left) (edge_value other right)
      (edge_value_below left) (edge_value_below right)
  node_value_below state row (Xor left right) =
      of_both_below xor (edge_value read left) (edge_value read right) (edge_value other left) (edge_value other right)
      (edge_value_below left) (edge_value_below right)

-- ---- the steps of a list of nodes

-- what the nodes have, by what they have that they read
abbrev pub stepped : List Node → List Bool → List Bool → Reading → Reading
stepped nodes state row read node = option_and_then (node_value state row read) (slice_get nodes node)

-- whether there is a node with this number
abbrev pub is_node : List Node → ℕ → Bool
is_node nodes node = nat_lt node (length nodes)

at_place_below : (state row : List Bool) (read other : Reading) → ((node : ℕ) → IsBelow (read node) (other node)) →
    (found : Option Node) →
    IsBelow (option_and_then (node_value state row read) found) (option_and_then (node_value state row other) found)
at_place_below state row read other below None = below_self None
at_place_below state row read other below (Some node) = node_value_below read other below state row node

range_has : (count node : ℕ) → node < count → slice_get (range_with_len 0 count) node ≡ Some node
range_has count node h =
    let len = length-range_with_len 0 count in
    slice_get-get_or (range_with_len 0 count) node 0 (omega (arith, len))
    ∙ ap Some (get_or-range_with_len 0 count node 0 h ∙ omega arith)

module _ (nodes : List Node) (state row : List Bool) where
  pub within_rounds : IsRounds (stepped nodes state row) (within nodes state row)
  within_rounds = record {
    first = λ node. refl;
    next = λ steps node. refl;
    monotone = λ read other below node. at_place_below state row read other below (slice_get nodes node);
  }

  pub nodes_all : HasAll (stepped nodes state row) (is_node nodes) (range_with_len 0 (length nodes))
  nodes_all = record {
    covered = λ node h. (node, range_has (length nodes) node (ltb-true node (length nodes) h));
    outside = λ read node h.
        ap (option_and_then (node_value state row read)) (slice_get_past nodes node (ltb-false node (length nodes) h));
  }

  -- a value stays with more steps
  pub within_grows : (fewer steps node : ℕ) → fewer ≤ steps →
      IsBelow (within nodes state row fewer node) (within nodes state row steps node)
  within_grows fewer steps node h = rounds.grows (stepped nodes state row) (within nodes state row) within_rounds fewer steps h node

  pub within_settled : (steps node : ℕ) → length nodes ≤ steps →
      within nodes state row steps node ≡ within nodes state row (length nodes) node
  within_settled steps node h =
      let len : length (range_with_len 0 (length nodes)) ≡ length nodes = length-range_with_len 0 (length nodes) in
      rounds.settled (stepped nodes state row) (within nodes state row) within_rounds (is_node nodes)
      (range_with_len 0 (length nodes)) nodes_all steps (omega (arith, len, h)) node
      ∙ ap (λ n. within nodes state row n node) len

  pub within_fixed : (node : ℕ) →
      within nodes state row (length nodes) node
      ≡ option_and_then (node_value state row (within nodes state row (length nodes))) (slice_get nodes node)
  within_fixed node =
      subst (λ n. within nodes state row n node ≡ stepped nodes state row (within nodes state row n) node)
      (length-range_with_len 0 (length nodes))
      (rounds.fixed (stepped nodes state row) (within nodes state row) within_rounds (is_node nodes)
      (range_with_len 0 (length nodes)) nodes_all node)

-- the values of a net's nodes solve their equations
pub node_value_of_fixed : (net : Net) (state row : List Bool) (node : ℕ) →
    node_value_of net state row node
    ≡ option_and_then (node_value state row (node_value_of net state row)) (slice_get net.nodes node)
node_value_of_fixed net state row node = within_fixed net.nodes state row node
