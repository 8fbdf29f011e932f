-- One lowering after another.
use Rattle.std.proofs.Common.{◌≡◌, ℕ, ◌≤◌, List, [], arith, ap, refl, sym, ◌∙◌, append_assoc, length-append}
use Rattle.flat_net.specs.declared.edge.Edge.{Edge}
use Rattle.flat_net.specs.declared.node.Node.{Node}
use Rattle.lowering.specs.Limits.{Added, next_of, with_more}
use Rattle.lowering.specs.Loops.{Remains}
use Rattle.lowering.specs.Lowered.{Lowered, Lowering, after, and_then, followed, lowered}
use Rattle.lowering.proofs.RemainsLemmas.{more_twice, next_of_more, same_count, within}

module _ (first : Lowering) (rest : List Edge → Lowering) (edges : List Edge) (old mid : Added)
    (nodes_is : mid ≡ with_more old (first (next_of old))) (edges_is : edges ≡ (first (next_of old)).edges) where
  rest_is : rest edges (next_of mid) ≡ rest (first (next_of old)).edges (after (next_of old) (first (next_of old)))
  rest_is =
      ap (λ edges. rest edges (next_of mid)) edges_is
      ∙ ap (rest (first (next_of old)).edges) (ap next_of nodes_is ∙ next_of_more old (first (next_of old)))

  pub then_nodes : (new : Added) → new ≡ with_more mid (rest edges (next_of mid))
      → new ≡ with_more old (and_then first rest (next_of old))
  then_nodes new is =
      is ∙ ap (λ (added : Added). with_more added (rest edges (next_of mid))) nodes_is
      ∙ more_twice old (first (next_of old)) (rest edges (next_of mid))
      ∙ ap (λ (part : Lowered). with_more old (followed (first (next_of old)) part)) rest_is

  pub then_edges : (result : List Edge) → result ≡ (rest edges (next_of mid)).edges
      → result ≡ (and_then first rest (next_of old)).edges
  then_edges result is = is ∙ ap (λ (part : Lowered). part.edges) rest_is

-- It does not matter how three are grouped.
pub and_then_assoc : (first : Lowering) (second third : List Edge → Lowering) (next : ℕ)
    → and_then (and_then first second) third next ≡ and_then first (λ edges. and_then (second edges) third) next
and_then_assoc first second third next =
    let a : Lowered = first next in
    let b : Lowered = second a.edges (after next a) in
    let c : Lowered = third b.edges (after (after next a) b) in
    let number : after next (followed a b) ≡ after (after next a) b = omega (arith, length-append a.nodes b.nodes) in
    ap (λ (n : ℕ). followed (followed a b) (third b.edges n)) number
    ∙ ap (λ (nodes : List Node). lowered nodes c.edges) (append_assoc a.nodes b.nodes c.nodes)

-- ---- a call that lowers one after another

-- Nothing is done yet, and what is left is the form of the whole.
pub begins : (start : Added) (whole form : Lowering) → whole (next_of start) ≡ form (next_of start) → Remains [] start start form whole
begins start whole form is = record {
  nodes = ap (with_more start) (sym is);
  edges = ap (λ (part : Lowered). part.edges) (sym is);
}

module _ {now start : Added} {whole : Lowering} (first : Lowering) (rest : List Edge → Lowering)
    (remains : Remains [] now start (and_then first rest) whole) where
  -- The first is done, and its edges are these.
  pub goes_on : (edges : List Edge) (then : Added) → then ≡ with_more now (first (next_of now)) → edges ≡ (first (next_of now)).edges
      → Remains [] then start (rest edges) whole
  goes_on edges then nodes_is edges_is = record {
    nodes =
        then_nodes first rest edges now then nodes_is edges_is (with_more then (rest edges (next_of then))) refl
        ∙ remains.nodes;
    edges =
        then_edges first rest edges now then nodes_is edges_is (rest edges (next_of then)).edges refl
        ∙ remains.edges;
  }

  -- The first is within the whole.
  pub is_within : after (next_of now) (first (next_of now)) ≤ after (next_of start) (whole (next_of start))
  is_within =
      let one : Lowered = first (next_of now) in
      within [] now start (and_then first rest) whole (lowered one.nodes []) (rest one.edges (after (next_of now) one)) refl remains

module _ {now start : Added} {last whole : Lowering} (remains : Remains [] now start last whole) where
  pub last_nodes : (new : Added) → new ≡ with_more now (last (next_of now)) → new ≡ with_more start (whole (next_of start))
  last_nodes new is = is ∙ remains.nodes

  pub last_edges : (edges : List Edge) → edges ≡ (last (next_of now)).edges → edges ≡ (whole (next_of start)).edges
  last_edges edges is = is ∙ remains.edges

  -- The last is within the whole.
  pub last_within : after (next_of now) (last (next_of now)) ≤ after (next_of start) (whole (next_of start))
  last_within =
      let count = same_count now start (last (next_of now)) (whole (next_of start)) remains.nodes in
      omega arith
