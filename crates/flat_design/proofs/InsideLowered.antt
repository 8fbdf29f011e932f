-- The nodes and edges of a lowering stay within a count of nodes.
use Rattle.std.specs.Prelude.{ℕ, ◌+◌, ◌-◌, ◌<◌, ◌≤◌, List, [], ◌∷◌, ◌++◌, Option, None, Some, length, map, max, replicate}
use Rattle.std.specs.List.{range_with_len}
use Rattle.std.proofs.Common.{arith, sym, subst}
use Rattle.std.proofs.lemmas.List.{length-append}
use Rattle.flat_net.specs.declared.edge.Edge.{Edge}
use Rattle.flat_net.specs.declared.node.Node.{Node}
use Rattle.flat_net.specs.declared.node.Node.TheVariants.{And, Xor}
use Rattle.flat_net.specs.Edges.{constant, negated, one_edge, plain, zero_edge}
use Rattle.flat_net.specs.Nets.{IsInner, IsWithin}
use Rattle.vlog_tree.specs.declared.design.Module.{Module}
use Rattle.vlog_tree.specs.declared.expr.BinOp.{BinOp}
use Rattle.vlog_tree.specs.declared.expr.BinOp.TheVariants as binary
use Rattle.vlog_tree.specs.declared.expr.Expr.{Expr, map-Expr, roll-Expr}
use Rattle.vlog_tree.specs.declared.expr.Expr.TheFolds.{ind-Expr, para-roll-Expr}
use Rattle.vlog_tree.specs.declared.expr.Expr.TheOpen.{Expr-F}
use Rattle.vlog_tree.specs.declared.expr.UnOp.{UnOp}
use Rattle.vlog_tree.specs.declared.expr.UnOp.TheVariants as unary
use Rattle.vlog_tree.specs.declared.item.GateKind.{GateKind}
use Rattle.vlog_tree.specs.declared.item.GateKind.TheVariants as kind
use Rattle.vlog_tree.specs.Meaning.Ranges.{Bits, bit_with, part_bits, whole_bits}
use Rattle.vlog_tree.specs.Meaning.Uses.{Text}
use Rattle.lowering.specs.Expressions.{AtWidth, Operand, Wires, assigned, beside, binary_at, compared, condition, conditional, expression, joined, lowered_at, only, own, repeated, selected, truth, unary_at, width_of, wired}
use Rattle.lowering.specs.Gates.{Gate, all_bits, and_bits, any_bit, both_true, chosen_bits, folded, folded_from, gate, or_bits, pairwise, parity, reduced, same_bits, some_true, xnor_bits, xor_bits}
use Rattle.lowering.specs.Lowered.{Lowered, Lowering, and_then, and_then_both, given, in_turn, inverted, nodes_of, widened}
use Rattle.flat_design.proofs.InsideLists.{Each, each-append, each-backwards, each-map, each-repeat, each-replicate, each-through}

module _ (bound : ℕ) where
  -- so many nodes fit from a number on
  abbrev pub HasRoom : ℕ → List Node → Type 0
  HasRoom next nodes = next + length nodes ≤ bound

  pub room_first : (next : ℕ) (nodes more : List Node) → HasRoom next (nodes ++ more) → HasRoom next nodes
  room_first next nodes more h = omega (arith, h, length-append nodes more)

  pub room_rest : (next : ℕ) (nodes more : List Node) → HasRoom next (nodes ++ more) → HasRoom (next + length nodes) more
  room_rest next nodes more h = omega (arith, h, length-append nodes more)

  abbrev pub AreInner : List Node → Type 0
  AreInner = Each (IsInner bound)

  abbrev pub AreWithin : List Edge → Type 0
  AreWithin = Each (IsWithin bound)

  pub record StaysWithin (done : Lowered) : Type 0 where
    pub nodes : AreInner done.nodes
    pub edges : AreWithin done.edges

  -- A lowering stays within the count, from each number on at which its nodes fit.
  abbrev pub IsInside : Lowering → Type 0
  IsInside lowering = (next : ℕ) → HasRoom next (lowering next).nodes → StaysWithin (lowering next)

  pub inside_given : (edges : List Edge) → AreWithin edges → IsInside (given edges)
  inside_given edges h next room = record { nodes = tt; edges = h }

  pub inside_then : (first : Lowering) (rest : List Edge → Lowering) → IsInside first
      → ((edges : List Edge) → AreWithin edges → IsInside (rest edges)) → IsInside (and_then first rest)
  inside_then first rest h k next room =
      let one : Lowered = first next in
      let two : Lowered = rest one.edges (next + length one.nodes) in
      let here : StaysWithin one = h next (room_first next one.nodes two.nodes room) in
      let there : StaysWithin two = k one.edges here.edges (next + length one.nodes) (room_rest next one.nodes two.nodes room) in
      record { nodes = each-append (IsInner bound) one.nodes two.nodes here.nodes there.nodes; edges = there.edges }

  pub inside_both : (first second : Lowering) (rest : List Edge → List Edge → Lowering) → IsInside first → IsInside second
      → ((left right : List Edge) → AreWithin left → AreWithin right → IsInside (rest left right))
      → IsInside (and_then_both first second rest)
  inside_both first second rest h k l =
      inside_then first (λ left. and_then second (λ right. rest left right)) h
      (λ left on_left. inside_then second (λ right. rest left right) k (λ right on_right. l left right on_left on_right))

  all_negated : (edges : List Edge) → AreWithin edges → AreWithin (map negated edges)
  all_negated = each-through (IsWithin bound) (IsWithin bound) negated (λ edge h. h)

  pub inside_inverted : (lowering : Lowering) → IsInside lowering → IsInside (inverted lowering)
  inside_inverted lowering h next room =
      let done : StaysWithin (lowering next) = h next room in
      record { nodes = done.nodes; edges = all_negated (lowering next).edges done.edges }

  -- ---- gates

  abbrev StaysInner : Gate → Type 0
  StaysInner gate = (left right : Edge) → IsWithin bound left → IsWithin bound right → IsInner bound (gate left right)

  and_inner : StaysInner And
  and_inner left right h k = (h, k)

  xor_inner : StaysInner Xor
  xor_inner left right h k = (h, k)

  inside_pairwise : (gate : Gate) → StaysInner gate → (left right : List Edge) → AreWithin left → AreWithin right
      → IsInside (pairwise gate left right)
  inside_pairwise gate inner [] right h k next room = record { nodes = tt; edges = tt }
  inside_pairwise gate inner (edge ∷ left) [] h k next room = record { nodes = tt; edges = tt }
  inside_pairwise gate inner (edge ∷ left) (one ∷ right) h k next room =
      let rest : StaysWithin (pairwise gate left right (next + 1)) =
      inside_pairwise gate inner left right h.1 k.1 (next + 1) (omega (arith, room)) in
      record { nodes = (inner edge one h.0 k.0, rest.nodes); edges = (omega (arith, room), rest.edges) }

  inside_from : (gate : Gate) → StaysInner gate → (edge : Edge) (bits : List Edge) → IsWithin bound edge → AreWithin bits
      → IsInside (folded_from gate edge bits)
  inside_from gate inner edge [] h k next room = record { nodes = tt; edges = (h, tt) }
  inside_from gate inner edge (bit ∷ bits) h k next room =
      let rest : StaysWithin (folded_from gate (plain next) bits (next + 1)) =
      inside_from gate inner (plain next) bits (omega (arith, room)) k.1 (next + 1) (omega (arith, room)) in
      record { nodes = (inner edge bit h k.0, rest.nodes); edges = rest.edges }

  inside_folded : (gate : Gate) → StaysInner gate → (none : Edge) → IsWithin bound none → (bits : List Edge) → AreWithin bits
      → IsInside (folded gate none bits)
  inside_folded gate inner none is [] h = inside_given (none ∷ []) (is, tt)
  inside_folded gate inner none is (bit ∷ bits) h = inside_from gate inner bit bits h.0 h.1

  pub inside_pairs : (choice : Edge) → IsWithin bound choice → (first second : List Edge) → AreWithin first → AreWithin second
      → IsInside (chosen_bits choice first second)
  inside_pairs choice is [] second h k next room = record { nodes = tt; edges = tt }
  inside_pairs choice is (edge ∷ first) [] h k next room = record { nodes = tt; edges = tt }
  inside_pairs choice is (edge ∷ first) (one ∷ second) h k next room =
      let rest : StaysWithin (chosen_bits choice first second (next + 3)) =
      inside_pairs choice is first second h.1 k.1 (next + 3) (omega (arith, room)) in
      record {
        nodes = ((is, h.0), ((is, k.0), ((omega (arith, room), omega (arith, room)), rest.nodes)));
        edges = (omega (arith, room), rest.edges);
      }

  module _ (positive : 0 < bound) where
    pub inside_widened : (width : ℕ) (lowering : Lowering) → IsInside lowering → IsInside (widened width lowering)
    inside_widened width lowering h next room =
        let done : StaysWithin (lowering next) = h next room in
        let edges : List Edge = (lowering next).edges in
        record {
          nodes = done.nodes;
          edges = each-append (IsWithin bound) edges (replicate (width - length edges) zero_edge) done.edges
              (each-replicate (IsWithin bound) (width - length edges) zero_edge positive);
        }

    pub inside_all : (bits : List Edge) → AreWithin bits → IsInside (all_bits bits)
    inside_all = inside_folded And and_inner one_edge positive

    inside_none : (bits : List Edge) → AreWithin bits → IsInside (folded And one_edge (map negated bits))
    inside_none bits h = inside_folded And and_inner one_edge positive (map negated bits) (all_negated bits h)

    pub inside_any : (bits : List Edge) → AreWithin bits → IsInside (any_bit bits)
    inside_any bits h = inside_inverted (folded And one_edge (map negated bits)) (inside_none bits h)

    inside_parity : (bits : List Edge) → AreWithin bits → IsInside (parity bits)
    inside_parity = inside_folded Xor xor_inner zero_edge positive

    inside_reduced : (op : UnOp) (bits : List Edge) → AreWithin bits → IsInside (reduced op bits)
    inside_reduced unary.RedAnd bits h = inside_all bits h
    inside_reduced unary.RedNand bits h = inside_inverted (all_bits bits) (inside_all bits h)
    inside_reduced unary.RedOr bits h = inside_any bits h
    inside_reduced unary.RedNor bits h = inside_inverted (any_bit bits) (inside_any bits h)
    inside_reduced unary.RedXor bits h = inside_parity bits h
    inside_reduced unary.RedXnor bits h = inside_inverted (parity bits) (inside_parity bits h)
    inside_reduced unary.Not bits h = inside_inverted (any_bit bits) (inside_any bits h)
    inside_reduced unary.Inv bits h = inside_given (map negated bits) (all_negated bits h)

    pub inside_gate : (one : GateKind) (inputs : List Edge) → AreWithin inputs → IsInside (gate one inputs)
    inside_gate kind.And inputs h = inside_all inputs h
    inside_gate kind.Nand inputs h = inside_inverted (all_bits inputs) (inside_all inputs h)
    inside_gate kind.Or inputs h = inside_any inputs h
    inside_gate kind.Nor inputs h = inside_inverted (any_bit inputs) (inside_any inputs h)
    inside_gate kind.Xor inputs h = inside_parity inputs h
    inside_gate kind.Xnor inputs h = inside_inverted (parity inputs) (inside_parity inputs h)
    inside_gate kind.Buf inputs h = inside_given inputs h
    inside_gate kind.Not inputs h = inside_given (map negated inputs) (all_negated inputs h)

    -- what is made of the edges of two operands
    abbrev Combines : (List Edge → List Edge → Lowering) → Type 0
    Combines combined = (left right : List Edge) → AreWithin left → AreWithin right → IsInside (combined left right)

    combines_and : Combines and_bits
    combines_and left right h k = inside_pairwise And and_inner left right h k

    combines_or : Combines or_bits
    combines_or left right h k =
        inside_inverted (pairwise And (map negated left) (map negated right))
        (inside_pairwise And and_inner (map negated left) (map negated right) (all_negated left h) (all_negated right k))

    combines_xor : Combines xor_bits
    combines_xor left right h k = inside_pairwise Xor xor_inner left right h k

    combines_xnor : Combines xnor_bits
    combines_xnor left right h k = inside_inverted (pairwise Xor left right) (combines_xor left right h k)

    combines_both : Combines both_true
    combines_both left right h k =
        inside_both (any_bit left) (any_bit right) and_bits (inside_any left h) (inside_any right k) combines_and

    combines_some : Combines some_true
    combines_some left right h k =
        inside_both (any_bit left) (any_bit right) or_bits (inside_any left h) (inside_any right k) combines_or

    combines_same : Combines same_bits
    combines_same left right h k =
        inside_then (xor_bits left right) (λ differences. folded And one_edge (map negated differences)) (combines_xor left right h k)
        inside_none

    pub only_within : (edges : List Edge) → AreWithin edges → IsWithin bound (only edges)
    only_within [] h = positive
    only_within (edge ∷ others) h = h.0

    -- ---- parts in turn

    pub inside_turns : (parts : List Lowering) → Each IsInside parts → (next : ℕ) → HasRoom next (nodes_of (in_turn parts next))
        → AreInner (nodes_of (in_turn parts next)) × Each (λ (part : Lowered). AreWithin part.edges) (in_turn parts next)
    inside_turns [] h next room = (tt, tt)
    inside_turns (part ∷ parts) h next room =
        let one : Lowered = part next in
        let rest : List Node = nodes_of (in_turn parts (next + length one.nodes)) in
        let here : StaysWithin one = h.0 next (room_first next one.nodes rest room) in
        let there = inside_turns parts h.1 (next + length one.nodes) (room_rest next one.nodes rest room) in
        (each-append (IsInner bound) one.nodes rest here.nodes there.0, (here.edges, there.1))

    -- ---- expressions

    module _ (m : Module) (wires : Wires) (named : (name : Text) (bit : ℕ) → IsWithin bound (wires name bit)) where
      -- at each width
      abbrev pub IsInsideAt : AtWidth → Type 0
      IsInsideAt at = (width : ℕ) → IsInside (at width)

      inside_selected : (one : Option Bits) → IsInside (selected wires one)
      inside_selected None = inside_given [] tt
      inside_selected (Some bits) =
          inside_given (wired wires bits)
          (each-map (IsWithin bound) (wires bits.name) (named bits.name) (range_with_len bits.low bits.width))

      inside_own : (operand : Operand) → IsInsideAt operand.1 → IsInside (own m operand)
      inside_own operand h = h (width_of m operand.0)

      inside_truth : (operand : Operand) → IsInsideAt operand.1 → IsInside (truth m operand)
      inside_truth operand h = inside_then (own m operand) any_bit (inside_own operand h) inside_any

      inside_reduction : (op : UnOp) (arg : Operand) → IsInsideAt arg.1 → (width : ℕ)
          → IsInside (widened width (and_then (own m arg) (reduced op)))
      inside_reduction op arg h width =
          inside_widened width (and_then (own m arg) (reduced op))
          (inside_then (own m arg) (reduced op) (inside_own arg h) (inside_reduced op))

      inside_unary : (op : UnOp) (arg : Operand) → IsInsideAt arg.1 → IsInsideAt (unary_at m op arg)
      inside_unary unary.Inv arg h width = inside_inverted (arg.1 width) (h width)
      inside_unary unary.Not arg h width = inside_reduction unary.Not arg h width
      inside_unary unary.RedAnd arg h width = inside_reduction unary.RedAnd arg h width
      inside_unary unary.RedNand arg h width = inside_reduction unary.RedNand arg h width
      inside_unary unary.RedOr arg h width = inside_reduction unary.RedOr arg h width
      inside_unary unary.RedNor arg h width = inside_reduction unary.RedNor arg h width
      inside_unary unary.RedXor arg h width = inside_reduction unary.RedXor arg h width
      inside_unary unary.RedXnor arg h width = inside_reduction unary.RedXnor arg h width

      inside_compared : (left right : Operand) → IsInsideAt left.1 → IsInsideAt right.1 → IsInside (compared m left right)
      inside_compared left right h k =
          let width : ℕ = max (width_of m left.0) (width_of m right.0) in
          inside_both (left.1 width) (right.1 width) same_bits (h width) (k width) combines_same

      inside_binary : (op : BinOp) (left right : Operand) → IsInsideAt left.1 → IsInsideAt right.1 → IsInsideAt (binary_at m op left right)
      inside_binary binary.And left right h k width =
          inside_both (left.1 width) (right.1 width) and_bits (h width) (k width) combines_and
      inside_binary binary.Or left right h k width =
          inside_both (left.1 width) (right.1 width) or_bits (h width) (k width) combines_or
      inside_binary binary.Xor left right h k width =
          inside_both (left.1 width) (right.1 width) xor_bits (h width) (k width) combines_xor
      inside_binary binary.Xnor left right h k width =
          inside_both (left.1 width) (right.1 width) xnor_bits (h width) (k width) combines_xnor
      inside_binary binary.LogAnd left right h k width =
          inside_widened width (and_then_both (own m left) (own m right) both_true)
          (inside_both (own m left) (own m right) both_true (inside_own left h) (inside_own right k) combines_both)
      inside_binary binary.LogOr left right h k width =
          inside_widened width (and_then_both (own m left) (own m right) some_true)
          (inside_both (own m left) (own m right) some_true (inside_own left h) (inside_own right k) combines_some)
      inside_binary binary.Eq left right h k width =
          inside_widened width (compared m left right) (inside_compared left right h k)
      inside_binary binary.Ne left right h k width =
          inside_widened width (inverted (compared m left right))
          (inside_inverted (compared m left right) (inside_compared left right h k))

      inside_conditional : (choice first second : Operand) → IsInsideAt choice.1 → IsInsideAt first.1 → IsInsideAt second.1
          → IsInsideAt (conditional m choice first second)
      inside_conditional choice first second g h k width =
          inside_then (truth m choice) (λ edges. and_then_both (first.1 width) (second.1 width) (chosen_bits (only edges)))
          (inside_truth choice g)
          (λ edges is. inside_both (first.1 width) (second.1 width) (chosen_bits (only edges)) (h width) (k width)
          (inside_pairs (only edges) (only_within edges is)))

      inside_beside : (parts : List Lowering) → Each IsInside parts → IsInside (λ next. beside (in_turn parts next))
      inside_beside parts h next room =
          let done = inside_turns parts h next room in
          record {
            nodes = done.0;
            edges = each-backwards (IsWithin bound) (λ (part : Lowered). part.edges) (in_turn parts next) done.1;
          }

      inside_repeated : (count : ℕ) (lowering : Lowering) → IsInside lowering → IsInside (λ next. repeated count (lowering next))
      inside_repeated count lowering h next room =
          let done : StaysWithin (lowering next) = h next room in
          record { nodes = done.nodes; edges = each-repeat (IsWithin bound) count (lowering next).edges done.edges }

      -- ---- one level, and all

      abbrev edged : Expr → Operand
      edged e = (e, expression m wires e)

      -- What stands for an expression stays within the count.
      abbrev pub LoweredInside : Expr → Type 0
      LoweredInside e = IsInsideAt (expression m wires e)

      abbrev Proved : Type 0
      Proved = (e : Expr) × LoweredInside e

      abbrev bare : List Proved → List Expr
      bare parts = map (λ part. part.0) parts

      parts_inside : (parts : List Proved) → Each IsInside (map (own m) (map edged (bare parts)))
      parts_inside [] = tt
      parts_inside (part ∷ parts) = (inside_own (edged part.0) part.1, parts_inside parts)

      inside_joined : (parts : List Proved) → IsInside (joined m (map edged (bare parts)))
      inside_joined parts = inside_beside (map (own m) (map edged (bare parts))) (parts_inside parts)

      level : (x : Expr-F Expr) → IsInsideAt (lowered_at m wires (map-Expr Expr Operand edged x)) → LoweredInside (roll-Expr x)
      unfolding expression
      level x h = subst IsInsideAt (sym (para-roll-Expr AtWidth (lowered_at m wires) x)) h

      abbrev FormInside : Expr-F Expr → Type 0
      FormInside x = LoweredInside (roll-Expr x)

      form : (y : Expr-F Proved) → FormInside (map-Expr Proved Expr (λ e. e.0) y)
      form (Expr-F.Number at digits) =
          level (Expr-F.Number at digits) (λ width. inside_widened width (given (map constant digits))
          (inside_given (map constant digits) (each-map (IsWithin bound) constant (λ digit. positive) digits)))
      form (Expr-F.Whole at name) =
          level (Expr-F.Whole at name) (λ width. inside_widened width (selected wires (whole_bits m name))
          (inside_selected (whole_bits m name)))
      form (Expr-F.Bit at name index) =
          level (Expr-F.Bit at name index) (λ width. inside_widened width (selected wires (bit_with m name index))
          (inside_selected (bit_with m name index)))
      form (Expr-F.Part at name part) =
          level (Expr-F.Part at name part) (λ width. inside_widened width (selected wires (part_bits m name part))
          (inside_selected (part_bits m name part)))
      form (Expr-F.Unary op arg) = level (Expr-F.Unary op arg.0) (inside_unary op (edged arg.0) arg.1)
      form (Expr-F.Binary op left right) =
          level (Expr-F.Binary op left.0 right.0) (inside_binary op (edged left.0) (edged right.0) left.1 right.1)
      form (Expr-F.Cond choice first second) =
          level (Expr-F.Cond choice.0 first.0 second.0)
          (inside_conditional (edged choice.0) (edged first.0) (edged second.0) choice.1 first.1 second.1)
      form (Expr-F.Join parts) =
          level (Expr-F.Join (bare parts)) (λ width. inside_widened width (joined m (map edged (bare parts))) (inside_joined parts))
      form (Expr-F.Repeat count parts) =
          level (Expr-F.Repeat count (bare parts)) (λ width. inside_widened width
          (λ next. repeated count (joined m (map edged (bare parts)) next))
          (inside_repeated count (joined m (map edged (bare parts))) (inside_joined parts)))

      pub lowered_inside : (e : Expr) → LoweredInside e
      lowered_inside = ind-Expr LoweredInside (λ x y is. subst FormInside is (form y))

      pub inside_condition : (e : Expr) → IsInside (condition m wires e)
      inside_condition e = inside_truth (edged e) (lowered_inside e)

      pub inside_assigned : (count : ℕ) (e : Expr) → IsInside (assigned m wires count e)
      inside_assigned count e = lowered_inside e (max count (width_of m e))
