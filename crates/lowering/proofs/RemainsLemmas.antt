-- Loops over what is left to lower.
use Rattle.std.proofs.Common.{◌≡◌, ℕ, ◌+◌, ◌≤◌, [], ◌++◌, List, length, arith, length-append, append_assoc, ap, sym, ◌∙◌}
use Rattle.std.proofs.lemmas.List.{append-nil}
use Rattle.flat_net.specs.declared.edge.Edge.{Edge}
use Rattle.flat_net.specs.declared.node.Node.{Node}
use Rattle.lowering.specs.Limits.{Added, next_of, with_more}
use Rattle.lowering.specs.Loops.{Remains, continued}
use Rattle.lowering.specs.Lowered.{Lowered, Lowering, after, lowered}

-- ---- added nodes

abbrev behind : ℕ → List Node → Added
behind first nodes = record { first = first; nodes = nodes }

pub next_of_more : (added : Added) (more : Lowered) → next_of (with_more added more) ≡ after (next_of added) more
next_of_more added more = omega (arith, length-append added.nodes more.nodes)

pub more_twice : (added : Added) (first rest : Lowered) → with_more (with_more added first) rest ≡ with_more added (continued first rest)
more_twice added first rest = ap (behind added.first) (append_assoc added.nodes first.nodes rest.nodes)

pub more_none : (added : Added) (edges : List Edge) → with_more added (lowered [] edges) ≡ added
more_none added edges = ap (behind added.first) (append-nil added.nodes)

pub more_ended : (added : Added) (first : Lowered) → with_more added (continued first (lowered [] [])) ≡ with_more added first
more_ended added first = ap (λ (nodes : List Node). with_more added (lowered nodes first.edges)) (append-nil first.nodes)

-- With the same nodes both come to as many.
pub same_count : (now start : Added) (left whole : Lowered) → with_more now left ≡ with_more start whole
    → after (next_of now) left ≡ after (next_of start) whole
same_count now start left whole is = sym (next_of_more now left) ∙ ap next_of is ∙ next_of_more start whole

-- ---- a loop

module _ (so_far : List Edge) (now start : Added) (left whole : Lowering) where
  -- one turn, which adds the first part of what was left
  pub turn : (next_left : Lowering) (first : Lowered) (then : Added) (more : List Edge)
      → left (next_of now) ≡ continued first (next_left (after (next_of now) first))
      → then ≡ with_more now first → more ≡ so_far ++ first.edges
      → Remains so_far now start left whole → Remains more then start next_left whole
  turn next_left first then more parts is more_is remains =
      let number : next_of then ≡ after (next_of now) first = ap next_of is ∙ next_of_more now first in
      let rest : next_left (next_of then) ≡ next_left (after (next_of now) first) = ap next_left number in
      record {
        nodes =
            ap (λ (added : Added). with_more added (next_left (next_of then))) is
            ∙ more_twice now first (next_left (next_of then))
            ∙ ap (λ (part : Lowered). with_more now (continued first part)) rest
            ∙ ap (with_more now) (sym parts)
            ∙ remains.nodes;
        edges =
            ap (λ (edges : List Edge). edges ++ (next_left (next_of then)).edges) more_is
            ∙ append_assoc so_far first.edges (next_left (next_of then)).edges
            ∙ ap (λ (part : Lowered). so_far ++ (first.edges ++ part.edges)) rest
            ∙ ap (λ (part : Lowered). so_far ++ part.edges) (sym parts)
            ∙ remains.edges;
      }

  -- the end, where nothing is left but edges
  pub end_nodes : (edges : List Edge) → left (next_of now) ≡ lowered [] edges → Remains so_far now start left whole
      → now ≡ with_more start (whole (next_of start))
  end_nodes edges nothing remains =
      sym (more_none now edges) ∙ ap (with_more now) (sym nothing) ∙ remains.nodes

  pub end_edges : (edges : List Edge) → left (next_of now) ≡ lowered [] edges → Remains so_far now start left whole
      → so_far ++ edges ≡ (whole (next_of start)).edges
  end_edges edges nothing remains =
      ap (λ (part : Lowered). so_far ++ part.edges) (sym nothing) ∙ remains.edges

  -- The first part of what is left is within the whole.
  pub within : (first rest : Lowered) → left (next_of now) ≡ continued first rest → Remains so_far now start left whole
      → after (next_of now) first ≤ after (next_of start) (whole (next_of start))
  within first rest parts remains =
      let count = same_count now start (left (next_of now)) (whole (next_of start)) remains.nodes in
      let parts_count : length (left (next_of now)).nodes ≡ length first.nodes + length rest.nodes =
      ap (λ (part : Lowered). length part.nodes) parts ∙ length-append first.nodes rest.nodes in
      omega arith
