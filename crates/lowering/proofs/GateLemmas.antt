-- What the nodes of operators stand for.
use Rattle.std.specs.Prelude.{◌≡◌, ℕ, ◌+◌, List, [], ◌∷◌, Bool, not, ◌&&◌, Option, Some, option_map, refl}
use Rattle.std.specs.List.{zip}
use Rattle.std.proofs.Common.{arith, sym, subst, ◌∙◌}
use Rattle.std.proofs.Math.Bool.{xor}
use Rattle.flat_net.specs.declared.edge.Edge.{Edge}
use Rattle.flat_net.specs.declared.node.Node.TheVariants.{And, Xor}
use Rattle.flat_net.specs.Edges.{negated, plain}
use Rattle.flat_net.specs.Values.{Reading, edge_value, node_value, of_both}
use Rattle.vlog_tree.specs.Meaning.Expressions as meaning
use Rattle.vlog_tree.specs.Meaning.Widths.{together}
use Rattle.lowering.specs.Gates.{Gate, chosen_nodes, chosen_pairs, folded, folded_from, pairwise}
use Rattle.lowering.specs.Meaning.{Carries, Holds, Relation}
use Rattle.lowering.proofs.BitLemmas.{Operation, both_is, chain, chain_from, chosen_circuit, each_pair}
use Rattle.lowering.proofs.EdgeLemmas.{as_left, as_right, negated_carries, plain_value}
use Rattle.lowering.proofs.LoweredLemmas.{Gives, Values, holds-append}
use Rattle.lowering.proofs.RelationLemmas.{IsKept}

module _ (rel : Relation) (read : Reading) (state row : List Bool) (kept : IsKept rel) where
  -- The nodes have the values of an operation.
  abbrev pub Computes : Gate → Operation → Type 0
  Computes gate f = (left right : Edge) → node_value state row read (gate left right) ≡ of_both f (edge_value read left) (edge_value read right)

  pub and_computes : Computes And ◌&&◌
  and_computes left right = refl

  pub xor_computes : Computes Xor xor
  xor_computes left right = refl

  one_node : (gate : Gate) (f : Operation) → Computes gate f → (a b : Option Bool) (left right : Edge)
      → rel a (edge_value read left) → rel b (edge_value read right) → (next : ℕ)
      → rel (node_value state row read (gate left right)) (read next) → rel (together f a b) (edge_value read (plain next))
  one_node gate f computes a b left right on_left on_right next holds =
      let one : Option Bool = edge_value read left in
      let other : Option Bool = edge_value read right in
      as_right rel kept (together f a b) (read next) (edge_value read (plain next)) (plain_value read next)
      (kept.through (together f a b) (together f one other) (read next) (kept.both f a one b other on_left on_right)
      (as_left rel kept (together f one other) (node_value state row read (gate left right)) (read next)
      (sym (computes left right ∙ both_is f one other)) holds))

  -- ---- bit by bit

  pub gives_pairwise : (gate : Gate) (f : Operation) → Computes gate f → (values others : Values) (left right : List Edge)
      → Carries rel read values left → Carries rel read others right
      → Gives rel read state row (pairwise gate left right) (each_pair (together f) values others)
  gives_pairwise gate f computes [] others [] right h k next holds = tt
  gives_pairwise gate f computes [] others (edge ∷ left) right h k next holds = absurd h
  gives_pairwise gate f computes (value ∷ values) others [] right h k next holds = absurd h
  gives_pairwise gate f computes (value ∷ values) [] (edge ∷ left) [] h k next holds = tt
  gives_pairwise gate f computes (value ∷ values) [] (edge ∷ left) (one ∷ right) h k next holds = absurd k
  gives_pairwise gate f computes (value ∷ values) (other ∷ others) (edge ∷ left) [] h k next holds = absurd k
  gives_pairwise gate f computes (value ∷ values) (other ∷ others) (edge ∷ left) (one ∷ right) h k next holds = (
    one_node gate f computes value other edge one h.0 k.0 next holds.0,
    gives_pairwise gate f computes values others left right h.1 k.1 (next + 1) holds.1,
  )

  -- ---- reductions

  gives_from : (gate : Gate) (f : Operation) → Computes gate f → (so_far : Option Bool) (values : Values) (edge : Edge) (bits : List Edge)
      → rel so_far (edge_value read edge) → Carries rel read values bits
      → Gives rel read state row (folded_from gate edge bits) (chain_from f so_far values ∷ [])
  gives_from gate f computes so_far [] edge [] here h next holds = (here, tt)
  gives_from gate f computes so_far [] edge (bit ∷ bits) here h next holds = absurd h
  gives_from gate f computes so_far (value ∷ values) edge [] here h next holds = absurd h
  gives_from gate f computes so_far (value ∷ values) edge (bit ∷ bits) here h next holds =
      gives_from gate f computes (together f so_far value) values (plain next) bits
      (one_node gate f computes so_far value edge bit here h.0 next holds.0) h.1 (next + 1) holds.1

  pub gives_folded : (gate : Gate) (f : Operation) → Computes gate f → (of_none : Bool) (none : Edge) → rel (Some of_none) (edge_value read none)
      → (values : Values) (bits : List Edge) → Carries rel read values bits
      → Gives rel read state row (folded gate none bits) (chain f of_none values ∷ [])
  gives_folded gate f computes of_none none is [] [] h next holds = (is, tt)
  gives_folded gate f computes of_none none is [] (bit ∷ bits) h next holds = absurd h
  gives_folded gate f computes of_none none is (value ∷ values) [] h next holds = absurd h
  gives_folded gate f computes of_none none is (value ∷ values) (bit ∷ bits) h next holds =
      gives_from gate f computes value values bit bits h.0 h.1 next holds

  -- ---- choices

  pub chooses : (a b c : Option Bool) (choice first second : Edge) → rel a (edge_value read choice) → rel b (edge_value read first)
      → rel c (edge_value read second) → (next : ℕ) → Holds rel read state row next (chosen_nodes choice first second next)
      → rel (meaning.chosen a b c) (edge_value read (negated (plain (next + 2))))
  chooses a b c choice first second on_choice on_first on_second next holds =
      let both : Option Bool = together ◌&&◌ a b in
      let other : Option Bool = together ◌&&◌ (option_map not a) c in
      let one : rel both (edge_value read (plain next)) =
      one_node And ◌&&◌ and_computes a b choice first on_choice on_first next holds.0 in
      let two : rel other (edge_value read (plain (next + 1))) =
      one_node And ◌&&◌ and_computes (option_map not a) c (negated choice) second
      (negated_carries rel kept read a choice on_choice) on_second (next + 1) holds.1.0 in
      let three : rel (together ◌&&◌ (option_map not both) (option_map not other)) (edge_value read (plain (next + 1 + 1))) =
      one_node And ◌&&◌ and_computes (option_map not both) (option_map not other) (negated (plain next)) (negated (plain (next + 1)))
      (negated_carries rel kept read both (plain next) one) (negated_carries rel kept read other (plain (next + 1)) two)
      (next + 1 + 1) holds.1.1.0 in
      as_left rel kept (meaning.chosen a b c) (option_map not (together ◌&&◌ (option_map not both) (option_map not other)))
      (edge_value read (negated (plain (next + 2)))) (chosen_circuit a b c)
      (subst (λ node. rel (option_map not (together ◌&&◌ (option_map not both) (option_map not other))) (edge_value read (negated (plain node))))
      (omega arith)
      (negated_carries rel kept read (together ◌&&◌ (option_map not both) (option_map not other)) (plain (next + 1 + 1)) three))

  pub gives_pairs : (a : Option Bool) (choice : Edge) → rel a (edge_value read choice) → (values others : Values) (first second : List Edge)
      → Carries rel read values first → Carries rel read others second
      → Gives rel read state row (chosen_pairs choice (zip first second)) (each_pair (meaning.chosen a) values others)
  gives_pairs a choice is [] others [] second h k next holds = tt
  gives_pairs a choice is [] others (edge ∷ first) second h k next holds = absurd h
  gives_pairs a choice is (value ∷ values) others [] second h k next holds = absurd h
  gives_pairs a choice is (value ∷ values) [] (edge ∷ first) [] h k next holds = tt
  gives_pairs a choice is (value ∷ values) [] (edge ∷ first) (one ∷ second) h k next holds = absurd k
  gives_pairs a choice is (value ∷ values) (other ∷ others) (edge ∷ first) [] h k next holds = absurd k
  gives_pairs a choice is (value ∷ values) (other ∷ others) (edge ∷ first) (one ∷ second) h k next holds =
      let parts = holds-append rel read state row next (chosen_nodes choice edge one next)
      (chosen_pairs choice (zip first second) (next + 3)).nodes holds in (
        chooses a value other choice edge one is h.0 k.0 next parts.0,
        gives_pairs a choice is values others first second h.1 k.1 (next + 3) parts.1,
      )
