-- What nodes and edges that are made one after another stand for.
use Rattle.std.specs.Prelude.{ℕ, ◌+◌, ◌-◌, List, [], ◌∷◌, ◌++◌, Bool, false, not, Option, Some, length, map, option_map, replicate}
use Rattle.std.proofs.Common.{arith, subst}
use Rattle.flat_net.specs.declared.edge.Edge.{Edge}
use Rattle.flat_net.specs.declared.node.Node.{Node}
use Rattle.flat_net.specs.Edges.{zero_edge}
use Rattle.flat_net.specs.Values.{Reading}
use Rattle.lowering.specs.Lowered.{Lowered, Lowering, and_then, and_then_both, given, inverted, widened}
use Rattle.lowering.specs.Meaning.{Carries, HasZero, Holds, Relation}
use Rattle.lowering.proofs.EdgeLemmas.{append_carries, each_negated, length_carries, zeros}
use Rattle.lowering.proofs.RelationLemmas.{IsKept}

abbrev pub Values : Type 0
Values = List (Option Bool)

-- zeros above values, up to a width
abbrev pub extended_values : ℕ → Values → Values
extended_values width values = values ++ replicate (width - length values) (Some false)

module _ (rel : Relation) (read : Reading) (state row : List Bool) where
  pub holds-append : (next : ℕ) (nodes more : List Node) → Holds rel read state row next (nodes ++ more)
      → Holds rel read state row next nodes × Holds rel read state row (next + length nodes) more
  holds-append next [] more h = (tt, subst (λ next. Holds rel read state row next more) (omega arith) h)
  holds-append next (node ∷ nodes) more h =
      let both = holds-append (next + 1) nodes more h.1 in
      ((h.0, both.0), subst (λ next. Holds rel read state row next more) (omega arith) both.1)

  -- Its edges carry values, from whatever number on its nodes are added.
  abbrev pub Gives : Lowering → Values → Type 0
  Gives lowering values =
      (next : ℕ) → Holds rel read state row next (lowering next).nodes → Carries rel read values (lowering next).edges

  pub gives_given : (values : Values) (edges : List Edge) → Carries rel read values edges → Gives (given edges) values
  gives_given values edges h next holds = h

  pub gives_then : (first : Lowering) (rest : List Edge → Lowering) (values results : Values) → Gives first values
      → ((edges : List Edge) → Carries rel read values edges → Gives (rest edges) results)
      → Gives (and_then first rest) results
  gives_then first rest values results h k next holds =
      let one : Lowered = first next in
      let parts = holds-append next one.nodes (rest one.edges (next + length one.nodes)).nodes holds in
      k one.edges (h next parts.0) (next + length one.nodes) parts.1

  pub gives_both : (first second : Lowering) (rest : List Edge → List Edge → Lowering) (values others results : Values)
      → Gives first values → Gives second others
      → ((left right : List Edge) → Carries rel read values left → Carries rel read others right → Gives (rest left right) results)
      → Gives (and_then_both first second rest) results
  gives_both first second rest values others results h k l =
      gives_then first (λ left. and_then second (λ right. rest left right)) values results h
      (λ left on_left. gives_then second (λ right. rest left right) others results k (λ right on_right. l left right on_left on_right))

  module _ (kept : IsKept rel) where
    pub gives_inverted : (lowering : Lowering) (values : Values) → Gives lowering values
        → Gives (inverted lowering) (map (option_map not) values)
    gives_inverted lowering values h next holds = each_negated rel kept read values (lowering next).edges (h next holds)

    pub gives_widened : HasZero rel read → (width : ℕ) (lowering : Lowering) (values : Values) → Gives lowering values
        → Gives (widened width lowering) (extended_values width values)
    gives_widened none width lowering values h next holds =
        let edges : List Edge = (lowering next).edges in
        let carried : Carries rel read values edges = h next holds in
        append_carries rel kept read values (replicate (width - length values) (Some false)) edges
        (replicate (width - length edges) zero_edge) carried
        (subst (λ count. Carries rel read (replicate (width - length values) (Some false)) (replicate (width - count) zero_edge))
        (length_carries rel kept read values edges carried) (zeros rel kept read none (width - length values)))
