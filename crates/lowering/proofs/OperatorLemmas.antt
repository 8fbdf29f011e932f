-- What the operators stand for, by the values of their operands' bits.
use Rattle.std.specs.Prelude.{◌≡◌, ◌==◌, List, [], ◌∷◌, Bool, true, false, not, ◌&&◌, ◌||◌, Option, None, Some, length, map, option_and_then, option_map, refl}
use Rattle.std.specs.Bool.{beq}
use Rattle.std.specs.Cmp.Lexicographic.{pointwise}
use Rattle.std.specs.List.{list_all, list_any}
use Rattle.std.proofs.Common.{ap, arith, sym, subst}
use Rattle.std.proofs.Math.Bool.{xor}
use Rattle.flat_net.specs.declared.edge.Edge.{Edge}
use Rattle.flat_net.specs.declared.node.Node.TheVariants.{And, Xor}
use Rattle.flat_net.specs.Edges.{negated, one_edge, zero_edge}
use Rattle.flat_net.specs.Values.{Reading, edge_value}
use Rattle.vlog_tree.specs.declared.expr.UnOp.{UnOp}
use Rattle.vlog_tree.specs.declared.expr.UnOp.TheVariants as unary
use Rattle.vlog_tree.specs.declared.item.GateKind.{GateKind}
use Rattle.vlog_tree.specs.declared.item.GateKind.TheVariants as kind
use Rattle.vlog_tree.specs.Meaning.Expressions as meaning
use Rattle.vlog_tree.specs.Meaning.Value.{gate_value}
use Rattle.vlog_tree.specs.Meaning.Widths.{all_of, together}
use Rattle.lowering.specs.Expressions.{only}
use Rattle.lowering.specs.Gates.{all_bits, and_bits, any_bit, both_true, folded, gate, or_bits, pairwise, parity, reduced, same_bits, some_true, xnor_bits, xor_bits}
use Rattle.lowering.specs.Lowered.{Lowering, given, inverted}
use Rattle.lowering.specs.Meaning.{Carries, HasZero, Relation, takes}
use Rattle.lowering.proofs.BitLemmas.{all_is, any_is, chain, each_pair, pair_or, pair_xnor, parity_is, same_is}
use Rattle.lowering.proofs.EdgeLemmas.{constant_carries, each_negated}
use Rattle.lowering.proofs.GateLemmas.{and_computes, gives_folded, gives_pairwise, xor_computes}
use Rattle.lowering.proofs.LoweredLemmas.{Gives, Values, gives_both, gives_given, gives_inverted, gives_then}
use Rattle.lowering.proofs.RelationLemmas.{IsKept}

some_of : {X : Type 0} (g : X → Bool) (a : Option X) → option_map g a ≡ option_and_then (λ x. Some (g x)) a
some_of g None = refl
some_of g (Some x) = refl

some_not : {X : Type 0} (g : X → Bool) (a : Option X) → option_map not (option_map g a) ≡ option_and_then (λ x. Some (not (g x))) a
some_not g None = refl
some_not g (Some x) = refl

abbrev pub all_true : List Bool → Bool
all_true = list_all (λ bit. bit)

abbrev pub any_true : List Bool → Bool
any_true = list_any (λ bit. bit)

module _ (rel : Relation) (read : Reading) (state row : List Bool) where
  -- the edge of a lowering of one bit
  pub only_carries : (value : Option Bool) (edges : List Edge) → Carries rel read (value ∷ []) edges → rel value (edge_value read (only edges))
  only_carries value [] h = absurd h
  only_carries value (edge ∷ edges) h = h.0

  pub gives_as : (lowering : Lowering) (values others : Values) → values ≡ others → Gives rel read state row lowering values
      → Gives rel read state row lowering others
  gives_as lowering values others is h = subst (Gives rel read state row lowering) is h

  module _ (kept : IsKept rel) where
    -- ---- bit by bit

    -- an operation that is made of the edges of both
    abbrev pub Combines : (List Edge → List Edge → Lowering) → (Option Bool → Option Bool → Option Bool) → Type 0
    Combines combined f = (values others : Values) (left right : List Edge) → Carries rel read values left → Carries rel read others right
        → Gives rel read state row (combined left right) (each_pair f values others)

    pub combines_and : Combines and_bits (together ◌&&◌)
    combines_and values others left right h k =
        gives_pairwise rel read state row kept And ◌&&◌ (and_computes rel read state row kept) values others left right h k

    pub combines_xor : Combines xor_bits (together xor)
    combines_xor values others left right h k =
        gives_pairwise rel read state row kept Xor xor (xor_computes rel read state row kept) values others left right h k

    pub combines_or : Combines or_bits (together ◌||◌)
    combines_or values others left right h k =
        gives_as (or_bits left right) (map (option_map not) (each_pair (together ◌&&◌) (map (option_map not) values) (map (option_map not) others)))
        (each_pair (together ◌||◌) values others) (pair_or values others)
        (gives_inverted rel read state row kept (pairwise And (map negated left) (map negated right))
        (each_pair (together ◌&&◌) (map (option_map not) values) (map (option_map not) others))
        (combines_and (map (option_map not) values) (map (option_map not) others) (map negated left) (map negated right)
        (each_negated rel kept read values left h) (each_negated rel kept read others right k)))

    pub combines_xnor : Combines xnor_bits (together beq)
    combines_xnor values others left right h k =
        gives_as (xnor_bits left right) (map (option_map not) (each_pair (together xor) values others)) (each_pair (together beq) values others)
        (pair_xnor values others)
        (gives_inverted rel read state row kept (xor_bits left right) (each_pair (together xor) values others)
        (combines_xor values others left right h k))

    module _ (none : HasZero rel read) where
      -- ---- reductions

      gives_and_all : (values : Values) (bits : List Edge) → Carries rel read values bits
          → Gives rel read state row (folded And one_edge bits) (chain ◌&&◌ true values ∷ [])
      gives_and_all values bits h =
          gives_folded rel read state row kept And ◌&&◌ (and_computes rel read state row kept) true one_edge
          (constant_carries rel kept read none true) values bits h

      pub gives_all : (values : Values) (bits : List Edge) → Carries rel read values bits
          → Gives rel read state row (all_bits bits) (option_map all_true (all_of values) ∷ [])
      gives_all values bits h =
          gives_as (all_bits bits) (chain ◌&&◌ true values ∷ []) (option_map all_true (all_of values) ∷ [])
          (ap (λ value. value ∷ []) (sym (all_is values))) (gives_and_all values bits h)

      pub gives_any : (values : Values) (bits : List Edge) → Carries rel read values bits
          → Gives rel read state row (any_bit bits) (option_map any_true (all_of values) ∷ [])
      gives_any values bits h =
          gives_as (any_bit bits) (option_map not (chain ◌&&◌ true (map (option_map not) values)) ∷ []) (option_map any_true (all_of values) ∷ [])
          (ap (λ value. value ∷ []) (sym (any_is values)))
          (gives_inverted rel read state row kept (folded And one_edge (map negated bits)) (chain ◌&&◌ true (map (option_map not) values) ∷ [])
          (gives_and_all (map (option_map not) values) (map negated bits) (each_negated rel kept read values bits h)))

      pub gives_parity : (values : Values) (bits : List Edge) → Carries rel read values bits
          → Gives rel read state row (parity bits) (option_map meaning.parity (all_of values) ∷ [])
      gives_parity values bits h =
          gives_as (parity bits) (chain xor false values ∷ []) (option_map meaning.parity (all_of values) ∷ [])
          (ap (λ value. value ∷ []) (sym (parity_is values)))
          (gives_folded rel read state row kept Xor xor (xor_computes rel read state row kept) false zero_edge
          (constant_carries rel kept read none false) values bits h)

      -- a function of all bits, and its negation, as an operator has it
      given_by : (lowering : Lowering) (g : List Bool → Bool) (values : Values)
          → Gives rel read state row lowering (option_map g (all_of values) ∷ [])
          → Gives rel read state row lowering (option_and_then (λ bits. Some (g bits)) (all_of values) ∷ [])
      given_by lowering g values h =
          gives_as lowering (option_map g (all_of values) ∷ []) (option_and_then (λ bits. Some (g bits)) (all_of values) ∷ [])
          (ap (λ value. value ∷ []) (some_of g (all_of values))) h

      given_not : (lowering : Lowering) (g : List Bool → Bool) (values : Values)
          → Gives rel read state row lowering (option_map g (all_of values) ∷ [])
          → Gives rel read state row (inverted lowering) (option_and_then (λ bits. Some (not (g bits))) (all_of values) ∷ [])
      given_not lowering g values h =
          gives_as (inverted lowering) (option_map not (option_map g (all_of values)) ∷ [])
          (option_and_then (λ bits. Some (not (g bits))) (all_of values) ∷ [])
          (ap (λ value. value ∷ []) (some_not g (all_of values)))
          (gives_inverted rel read state row kept lowering (option_map g (all_of values) ∷ []) h)

      abbrev pub Reduces : UnOp → Type 0
      Reduces op = (values : Values) (bits : List Edge) → Carries rel read values bits
          → Gives rel read state row (reduced op bits) (option_and_then (meaning.reduced op) (all_of values) ∷ [])

      pub reduces_and : Reduces unary.RedAnd
      reduces_and values bits h = given_by (all_bits bits) all_true values (gives_all values bits h)

      pub reduces_nand : Reduces unary.RedNand
      reduces_nand values bits h = given_not (all_bits bits) all_true values (gives_all values bits h)

      pub reduces_or : Reduces unary.RedOr
      reduces_or values bits h = given_by (any_bit bits) any_true values (gives_any values bits h)

      pub reduces_nor : Reduces unary.RedNor
      reduces_nor values bits h = given_not (any_bit bits) any_true values (gives_any values bits h)

      pub reduces_xor : Reduces unary.RedXor
      reduces_xor values bits h = given_by (parity bits) meaning.parity values (gives_parity values bits h)

      pub reduces_xnor : Reduces unary.RedXnor
      reduces_xnor values bits h = given_not (parity bits) meaning.parity values (gives_parity values bits h)

      pub reduces_not : Reduces unary.Not
      reduces_not values bits h = given_not (any_bit bits) any_true values (gives_any values bits h)

      -- ---- two operands

      pub gives_both_true : (values others : Values) (left right : List Edge) → Carries rel read values left → Carries rel read others right
          → Gives rel read state row (both_true left right)
          (together ◌&&◌ (option_map any_true (all_of values)) (option_map any_true (all_of others)) ∷ [])
      gives_both_true values others left right h k =
          gives_both rel read state row (any_bit left) (any_bit right) and_bits (option_map any_true (all_of values) ∷ [])
          (option_map any_true (all_of others) ∷ [])
          (together ◌&&◌ (option_map any_true (all_of values)) (option_map any_true (all_of others)) ∷ [])
          (gives_any values left h) (gives_any others right k)
          (combines_and (option_map any_true (all_of values) ∷ []) (option_map any_true (all_of others) ∷ []))

      pub gives_some_true : (values others : Values) (left right : List Edge) → Carries rel read values left → Carries rel read others right
          → Gives rel read state row (some_true left right)
          (together ◌||◌ (option_map any_true (all_of values)) (option_map any_true (all_of others)) ∷ [])
      gives_some_true values others left right h k =
          gives_both rel read state row (any_bit left) (any_bit right) or_bits (option_map any_true (all_of values) ∷ [])
          (option_map any_true (all_of others) ∷ [])
          (together ◌||◌ (option_map any_true (all_of values)) (option_map any_true (all_of others)) ∷ [])
          (gives_any values left h) (gives_any others right k)
          (combines_or (option_map any_true (all_of values) ∷ []) (option_map any_true (all_of others) ∷ []))

      pub gives_same : (values others : Values) → length values ≡ length others → (left right : List Edge)
          → Carries rel read values left → Carries rel read others right
          → Gives rel read state row (same_bits left right) (together (pointwise beq) (all_of values) (all_of others) ∷ [])
      gives_same values others same left right h k =
          let differ : Values = each_pair (together xor) values others in
          gives_as (same_bits left right) (chain ◌&&◌ true (map (option_map not) differ) ∷ [])
          (together (pointwise beq) (all_of values) (all_of others) ∷ [])
          (ap (λ value. value ∷ []) (sym (same_is values others same)))
          (gives_then rel read state row (xor_bits left right) (λ differences. folded And one_edge (map negated differences))
          differ (chain ◌&&◌ true (map (option_map not) differ) ∷ [])
          (combines_xor values others left right h k)
          (λ edges on. gives_and_all (map (option_map not) differ) (map negated edges) (each_negated rel kept read differ edges on)))

      -- ---- gates

      one_buffer : (value : Option Bool) → value ≡ option_and_then (gate_value kind.Buf) (all_of (value ∷ []))
      one_buffer None = refl
      one_buffer (Some x) = refl

      one_inverter : (value : Option Bool) → option_map not value ≡ option_and_then (gate_value kind.Not) (all_of (value ∷ []))
      one_inverter None = refl
      one_inverter (Some x) = refl

      -- a list of one value
      of_one : (P : Values → Type 0) (values : Values) → (length values == 1) ≡ true → ((value : Option Bool) → P (value ∷ [])) → P values
      of_one P [] one h = absurd cc
      of_one P (value ∷ []) one h = h value
      of_one P (value ∷ other ∷ values) one h = absurd (grind arith)

      pub gives_gate : (sort : GateKind) (values : Values) (inputs : List Edge) → takes sort (length values) ≡ true → Carries rel read values inputs
          → Gives rel read state row (gate sort inputs) (option_and_then (gate_value sort) (all_of values) ∷ [])
      gives_gate kind.And values inputs one h = given_by (all_bits inputs) all_true values (gives_all values inputs h)
      gives_gate kind.Nand values inputs one h = given_not (all_bits inputs) all_true values (gives_all values inputs h)
      gives_gate kind.Or values inputs one h = given_by (any_bit inputs) any_true values (gives_any values inputs h)
      gives_gate kind.Nor values inputs one h = given_not (any_bit inputs) any_true values (gives_any values inputs h)
      gives_gate kind.Xor values inputs one h = given_by (parity inputs) meaning.parity values (gives_parity values inputs h)
      gives_gate kind.Xnor values inputs one h = given_not (parity inputs) meaning.parity values (gives_parity values inputs h)
      gives_gate kind.Buf values inputs one h =
          of_one (λ values. Carries rel read values inputs
          → Gives rel read state row (gate kind.Buf inputs) (option_and_then (gate_value kind.Buf) (all_of values) ∷ []))
          values one (λ value h. gives_as (given inputs) (value ∷ []) (option_and_then (gate_value kind.Buf) (all_of (value ∷ [])) ∷ [])
          (ap (λ value. value ∷ []) (one_buffer value)) (gives_given rel read state row (value ∷ []) inputs h)) h
      gives_gate kind.Not values inputs one h =
          of_one (λ values. Carries rel read values inputs
          → Gives rel read state row (gate kind.Not inputs) (option_and_then (gate_value kind.Not) (all_of values) ∷ []))
          values one (λ value h. gives_as (given (map negated inputs)) (option_map not value ∷ [])
          (option_and_then (gate_value kind.Not) (all_of (value ∷ [])) ∷ [])
          (ap (λ value. value ∷ []) (one_inverter value))
          (gives_given rel read state row (option_map not value ∷ []) (map negated inputs) (each_negated rel kept read (value ∷ []) inputs h))) h
