-- The nodes that lowering adds read nodes before them.
use Rattle.std.specs.Prelude.{◌≡◌, ⊤, ℕ, zero, suc, ◌+◌, ◌-◌, ◌<◌, ◌≤◌, List, [], ◌∷◌, ◌++◌, length, map, refl, replicate}
use Rattle.std.specs.List.{repeat, zip}
use Rattle.std.proofs.Common.{ap, arith, length-append, subst}
use Rattle.flat_net.specs.declared.edge.Edge.{Edge}
use Rattle.flat_net.specs.declared.node.Node.{Node}
use Rattle.flat_net.specs.declared.node.Node.TheVariants.{And, Xor}
use Rattle.flat_net.specs.Edges.{negated, one_edge, plain, zero_edge}
use Rattle.lowering.specs.Gates.{Gate, all_bits, and_bits, any_bit, folded, folded_from, or_bits, pairwise, parity, reduced, xnor_bits, xor_bits}
use Rattle.lowering.specs.Lowered.{Lowered, Lowering, after, and_then, given, inverted, numbered, widened}
use Rattle.vlog_tree.specs.declared.expr.UnOp.{UnOp}
use Rattle.vlog_tree.specs.declared.expr.UnOp.TheVariants as unary
use Rattle.flat_design.specs.Order.{AreOrdered, ReadsBelow}

-- ---- edges of nodes below a number

abbrev pub AllBelow : ℕ → List Edge → Type 0
AllBelow number [] = ⊤
AllBelow number (edge ∷ edges) = (edge.node < number) × AllBelow number edges

pub below_more : (number more : ℕ) (edges : List Edge) → number ≤ more → AllBelow number edges → AllBelow more edges
below_more number more [] fits below = tt
below_more number more (edge ∷ edges) fits (first, below) = (omega (arith, fits, first), below_more number more edges fits below)

pub below_append : (number : ℕ) (first second : List Edge) → AllBelow number first → AllBelow number second → AllBelow number (first ++ second)
below_append number [] second one two = two
below_append number (edge ∷ first) second (here, one) two = (here, below_append number first second one two)

pub below_negated : (number : ℕ) (edges : List Edge) → AllBelow number edges → AllBelow number (map negated edges)
below_negated number [] below = tt
below_negated number (edge ∷ edges) (first, below) = (first, below_negated number edges below)

below_zeros : (number count : ℕ) → 0 < number → AllBelow number (replicate count zero_edge)
below_zeros number zero some = tt
below_zeros number (suc count) some = (some, below_zeros number count some)

below_numbered : (number from count : ℕ) → from + count ≤ number → AllBelow number (numbered from count)
below_numbered number from zero fits = tt
below_numbered number from (suc count) fits = (omega (arith, fits), below_numbered number (from + 1) count (omega (arith, fits)))

pub below_repeat : (number count : ℕ) (edges : List Edge) → AllBelow number edges → AllBelow number (repeat count edges)
below_repeat number zero edges below = tt
below_repeat number (suc count) edges below = below_append number edges (repeat count edges) below (below_repeat number count edges below)

-- ---- what is added

pub ordered_append : (next : ℕ) (first second : List Node) → AreOrdered next first → AreOrdered (next + length first) second
    → AreOrdered next (first ++ second)
ordered_append next [] second one two = subst (λ number. AreOrdered number second) (omega arith) two
ordered_append next (node ∷ first) second (here, one) two =
    (here, ordered_append (next + 1) first second one (subst (λ number. AreOrdered number second) (omega arith) two))

-- nodes that read nodes before them, and edges of these and of what stands before
pub record IsOrdered (next : ℕ) (done : Lowered) : Type 0 where
  pub nodes : AreOrdered next done.nodes
  pub edges : AllBelow (after next done) done.edges

pub given_ordered : (next : ℕ) (edges : List Edge) → AllBelow next edges → IsOrdered next (given edges next)
given_ordered next edges below = record { nodes = tt; edges = below_more next (next + 0) edges (omega arith) below }

pub then_ordered : (next : ℕ) (first : Lowering) (rest : List Edge → Lowering) → IsOrdered next (first next)
    → ((edges : List Edge) → AllBelow (after next (first next)) edges → IsOrdered (after next (first next)) (rest edges (after next (first next))))
    → IsOrdered next (and_then first rest next)
then_ordered next first rest one two =
    let done : Lowered = first next in
    let more : Lowered = rest done.edges (after next done) in
    let both : IsOrdered (after next done) more = two done.edges one.edges in
    record {
      nodes = ordered_append next done.nodes more.nodes one.nodes both.nodes;
      edges = below_more (after (after next done) more) (next + length (done.nodes ++ more.nodes)) more.edges
          (omega (arith, length-append done.nodes more.nodes)) both.edges;
    }

pub inverted_ordered : (next : ℕ) (lowering : Lowering) → IsOrdered next (lowering next) → IsOrdered next (inverted lowering next)
inverted_ordered next lowering is =
    record { nodes = is.nodes; edges = below_negated (after next (lowering next)) (lowering next).edges is.edges }

pub widened_ordered : (next width : ℕ) (lowering : Lowering) → 0 < next → IsOrdered next (lowering next) → IsOrdered next (widened width lowering next)
widened_ordered next width lowering some is = record {
  nodes = is.nodes;
  edges = below_append (after next (lowering next)) (lowering next).edges (replicate (width - length (lowering next).edges) zero_edge) is.edges
      (below_zeros (after next (lowering next)) (width - length (lowering next).edges) (omega (arith, some)));
}

-- ---- operators

-- the node of this gate reads its edges
abbrev pub IsGate : Gate → Type 0
IsGate gate = (number : ℕ) (left right : Edge) → left.node < number → right.node < number → ReadsBelow number (gate left right)

and_gate : IsGate And
and_gate number left right one two = (one, two)

xor_gate : IsGate Xor
xor_gate number left right one two = (one, two)

pairs_ordered : (gate : Gate) → IsGate gate → (next number : ℕ) (left right : List Edge) → number ≤ next → AllBelow number left → AllBelow number right
    → AreOrdered next (map (λ pair. gate pair.0 pair.1) (zip left right))
pairs_ordered gate is next number [] right fits one two = tt
pairs_ordered gate is next number (edge ∷ left) [] fits one two = tt
pairs_ordered gate is next number (edge ∷ left) (other ∷ right) fits (here, one) (there, two) =
    (is next edge other (omega (arith, fits, here)) (omega (arith, fits, there)), pairs_ordered gate is (next + 1) number left right (omega (arith, fits)) one two)

length_pairs : (gate : Gate) (pairs : List (Edge × Edge)) → length (map (λ pair. gate pair.0 pair.1) pairs) ≡ length pairs
length_pairs gate [] = refl
length_pairs gate (pair ∷ pairs) = ap suc (length_pairs gate pairs)

pub pairwise_ordered : (gate : Gate) → IsGate gate → (next : ℕ) (left right : List Edge) → AllBelow next left → AllBelow next right
    → IsOrdered next (pairwise gate left right next)
pairwise_ordered gate is next left right one two = record {
  nodes = pairs_ordered gate is next next left right (omega arith) one two;
  edges = below_numbered (next + length (map (λ pair. gate pair.0 pair.1) (zip left right))) next (length (zip left right))
      (omega (arith, length_pairs gate (zip left right)));
}

fold_ordered : (gate : Gate) → IsGate gate → (next : ℕ) (so_far : Edge) (bits : List Edge) → so_far.node < next → AllBelow next bits
    → IsOrdered next (folded_from gate so_far bits next)
fold_ordered gate is next so_far [] here below = record { nodes = tt; edges = (omega (arith, here), tt) }
fold_ordered gate is next so_far (bit ∷ bits) here (first, below) =
    let rest = fold_ordered gate is (next + 1) (plain next) bits (omega arith) (below_more next (next + 1) bits (omega arith) below) in
    record {
      nodes = (is next so_far bit here first, rest.nodes);
      edges = subst (λ number. AllBelow number (folded_from gate (plain next) bits (next + 1)).edges) (omega arith) rest.edges;
    }

pub folded_ordered : (gate : Gate) → IsGate gate → (next : ℕ) (of_none : Edge) (bits : List Edge) → of_none.node < next → AllBelow next bits
    → IsOrdered next (folded gate of_none bits next)
folded_ordered gate is next of_none [] here below = given_ordered next (of_none ∷ []) (here, tt)
folded_ordered gate is next of_none (bit ∷ bits) here (first, below) = fold_ordered gate is next bit bits first below

module _ (next : ℕ) (some : 0 < next) where
  pub all_ordered : (bits : List Edge) → AllBelow next bits → IsOrdered next (all_bits bits next)
  all_ordered bits below = folded_ordered And and_gate next one_edge bits some below

  pub parity_ordered : (bits : List Edge) → AllBelow next bits → IsOrdered next (parity bits next)
  parity_ordered bits below = folded_ordered Xor xor_gate next zero_edge bits some below

  pub none_ordered : (bits : List Edge) → AllBelow next bits → IsOrdered next (folded And one_edge (map negated bits) next)
  none_ordered bits below = folded_ordered And and_gate next one_edge (map negated bits) some (below_negated next bits below)

  pub any_ordered : (bits : List Edge) → AllBelow next bits → IsOrdered next (any_bit bits next)
  any_ordered bits below = inverted_ordered next (folded And one_edge (map negated bits)) (none_ordered bits below)

  pub reduced_ordered : (op : UnOp) (bits : List Edge) → AllBelow next bits → IsOrdered next (reduced op bits next)
  reduced_ordered unary.RedAnd bits below = all_ordered bits below
  reduced_ordered unary.RedNand bits below = inverted_ordered next (all_bits bits) (all_ordered bits below)
  reduced_ordered unary.RedOr bits below = any_ordered bits below
  reduced_ordered unary.RedNor bits below = inverted_ordered next (any_bit bits) (any_ordered bits below)
  reduced_ordered unary.RedXor bits below = parity_ordered bits below
  reduced_ordered unary.RedXnor bits below = inverted_ordered next (parity bits) (parity_ordered bits below)
  reduced_ordered unary.Not bits below = inverted_ordered next (any_bit bits) (any_ordered bits below)
  reduced_ordered unary.Inv bits below = given_ordered next (map negated bits) (below_negated next bits below)

  pub and_ordered : (left right : List Edge) → AllBelow next left → AllBelow next right → IsOrdered next (and_bits left right next)
  and_ordered left right one two = pairwise_ordered And and_gate next left right one two

  pub or_ordered : (left right : List Edge) → AllBelow next left → AllBelow next right → IsOrdered next (or_bits left right next)
  or_ordered left right one two =
      inverted_ordered next (pairwise And (map negated left) (map negated right))
      (pairwise_ordered And and_gate next (map negated left) (map negated right) (below_negated next left one) (below_negated next right two))

  pub xor_ordered : (left right : List Edge) → AllBelow next left → AllBelow next right → IsOrdered next (xor_bits left right next)
  xor_ordered left right one two = pairwise_ordered Xor xor_gate next left right one two

  pub xnor_ordered : (left right : List Edge) → AllBelow next left → AllBelow next right → IsOrdered next (xnor_bits left right next)
  xnor_ordered left right one two = inverted_ordered next (pairwise Xor left right) (pairwise_ordered Xor xor_gate next left right one two)
