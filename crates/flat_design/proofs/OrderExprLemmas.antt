-- The nodes of expressions read nodes before them, form by form.
use Rattle.std.specs.Prelude.{◌≡◌, ℕ, zero, suc, ◌+◌, ◌<◌, ◌≤◌, List, [], ◌∷◌, ◌++◌, Bool, Option, None, Some, flat_map, length, map, max, reverse}
use Rattle.std.specs.List.{range_with_len, zip}
use Rattle.std.proofs.Common.{arith, length-append, sym, subst}
use Rattle.flat_net.specs.declared.edge.Edge.{Edge}
use Rattle.flat_net.specs.Edges.{constant, negated, one_edge}
use Rattle.lowering.specs.Expressions.{AtWidth, Operand, Wires, assigned, beside, compared, condition, expression, joined, lowered_at, only, own, repeated, selected, truth, width_of, wired}
use Rattle.lowering.specs.Gates.{and_bits, any_bit, both_true, chosen_bits, chosen_nodes, chosen_pairs, folded, or_bits, reduced, same_bits, some_true, xnor_bits, xor_bits}
use Rattle.lowering.specs.Lowered.{Lowered, Lowering, after, and_then, and_then_both, given, in_turn, inverted, nodes_of, widened}
use Rattle.lowering.proofs.PartLemmas.{flat-reverse}
use Rattle.vlog_tree.specs.declared.design.Module.{Module}
use Rattle.vlog_tree.specs.declared.expr.BinOp.{BinOp}
use Rattle.vlog_tree.specs.declared.expr.BinOp.TheVariants as binary
use Rattle.vlog_tree.specs.declared.expr.Expr.{Expr, map-Expr, roll-Expr}
use Rattle.vlog_tree.specs.declared.expr.Expr.TheFolds.{ind-Expr, para-roll-Expr}
use Rattle.vlog_tree.specs.declared.expr.Expr.TheOpen.{Expr-F}
use Rattle.vlog_tree.specs.declared.expr.UnOp.{UnOp}
use Rattle.vlog_tree.specs.declared.expr.UnOp.TheVariants as unary
use Rattle.vlog_tree.specs.Meaning.Ranges.{Bits, bit_with, part_bits, whole_bits}
use Rattle.vlog_tree.specs.Meaning.Uses.{Text}
use Rattle.flat_design.specs.Order.{AreOrdered}
use Rattle.flat_design.proofs.OrderLemmas.{AllBelow, IsOrdered, and_ordered, any_ordered, below_append, below_more, below_repeat, given_ordered, inverted_ordered, or_ordered, ordered_append, reduced_ordered, then_ordered, widened_ordered, xnor_ordered, xor_ordered, none_ordered}

-- ---- two lists of edges

-- A lowering of two lists of edges adds nodes that read nodes before them.
abbrev IsJoint : (List Edge → List Edge → Lowering) → Type 0
IsJoint rest = (next : ℕ) → 0 < next → (left right : List Edge) → AllBelow next left → AllBelow next right → IsOrdered next (rest left right next)

both_ordered : (next : ℕ) (first second : Lowering) (rest : List Edge → List Edge → Lowering) → 0 < next → IsOrdered next (first next)
    → ((number : ℕ) → next ≤ number → IsOrdered number (second number)) → IsJoint rest
    → IsOrdered next (and_then_both first second rest next)
both_ordered next first second rest some one two joint =
    then_ordered next first (λ left. and_then second (λ right. rest left right)) one (λ left on_left.
    let number : ℕ = after next (first next) in
    then_ordered number second (λ right. rest left right) (two number (omega arith)) (λ right on_right.
    joint (after number (second number)) (omega (arith, some)) left right
    (below_more number (after number (second number)) left (omega arith) on_left) on_right))

and_joint : IsJoint and_bits
and_joint next some left right one two = and_ordered next some left right one two

or_joint : IsJoint or_bits
or_joint next some left right one two = or_ordered next some left right one two

xor_joint : IsJoint xor_bits
xor_joint next some left right one two = xor_ordered next some left right one two

xnor_joint : IsJoint xnor_bits
xnor_joint next some left right one two = xnor_ordered next some left right one two

true_joint : IsJoint both_true
true_joint next some left right one two =
    both_ordered next (any_bit left) (any_bit right) and_bits some (any_ordered next some left one)
    (λ number fits. any_ordered number (omega (arith, some, fits)) right (below_more next number right fits two)) and_joint

some_joint : IsJoint some_true
some_joint next some left right one two =
    both_ordered next (any_bit left) (any_bit right) or_bits some (any_ordered next some left one)
    (λ number fits. any_ordered number (omega (arith, some, fits)) right (below_more next number right fits two)) or_joint

same_joint : IsJoint same_bits
same_joint next some left right one two =
    then_ordered next (xor_bits left right) (λ differences. folded _ one_edge (map negated differences)) (xor_ordered next some left right one two)
    (λ differences below. none_ordered (after next (xor_bits left right next)) (omega (arith, some)) differences below)

pairs_chosen : (choice : Edge) (next number : ℕ) (left right : List Edge) → number ≤ next → choice.node < number → AllBelow number left → AllBelow number right
    → IsOrdered next (chosen_pairs choice (zip left right) next)
pairs_chosen choice next number [] right fits here one two = record { nodes = tt; edges = tt }
pairs_chosen choice next number (edge ∷ left) [] fits here one two = record { nodes = tt; edges = tt }
pairs_chosen choice next number (edge ∷ left) (other ∷ right) fits here (first, one) (second, two) =
    let rest = pairs_chosen choice (next + 3) number left right (omega (arith, fits)) here one two in
    let three : next + 1 + 1 + 1 ≡ next + 3 = omega arith in
    record {
      nodes = (
        (omega (arith, fits, here), omega (arith, fits, first)),
        (
          (omega (arith, fits, here), omega (arith, fits, second)),
          ((omega arith, omega arith), subst (λ number. AreOrdered number (chosen_pairs choice (zip left right) (next + 3)).nodes) (sym three) rest.nodes),
        ),
      );
      edges = (
        omega arith,
        below_more (next + 3 + length (chosen_pairs choice (zip left right) (next + 3)).nodes)
            (next + length (chosen_nodes choice edge other next ++ (chosen_pairs choice (zip left right) (next + 3)).nodes))
            (chosen_pairs choice (zip left right) (next + 3)).edges
            (omega arith) rest.edges,
      );
    }

pub chosen_joint : (choice : Edge) (number : ℕ) → choice.node < number → (next : ℕ) → number ≤ next → (left right : List Edge) → AllBelow next left → AllBelow next right
    → IsOrdered next (chosen_bits choice left right next)
chosen_joint choice number here next fits left right one two = pairs_chosen choice next next left right (omega arith) (omega (arith, here, fits)) one two

pub only_below : (number : ℕ) (edges : List Edge) → 0 < number → AllBelow number edges → (only edges).node < number
only_below number [] some below = some
only_below number (edge ∷ edges) some (first, below) = first

-- ---- expressions

module _ (m : Module) (wires : Wires) (first : ℕ) (some : 0 < first) (named : (name : Text) (bit : ℕ) → (wires name bit).node < first) where
  -- whatever width it has, and wherever it begins behind the nodes of bits
  abbrev pub InOrder : Expr → Type 0
  InOrder e = (width next : ℕ) → first ≤ next → IsOrdered next (expression m wires e width next)

  abbrev pub edged : Expr → Operand
  edged e = (e, expression m wires e)

  abbrev LevelInOrder : Expr-F Expr → Type 0
  LevelInOrder x = (width next : ℕ) → first ≤ next → IsOrdered next (lowered_at m wires (map-Expr Expr Operand edged x) width next)

  level : (x : Expr-F Expr) → LevelInOrder x → InOrder (roll-Expr x)
  unfolding expression
  level x here width next fits =
      subst (λ (at : AtWidth). IsOrdered next (at width next)) (sym (para-roll-Expr AtWidth (lowered_at m wires) x)) (here width next fits)

  -- ---- numbers and names

  constants_below : (number : ℕ) (bits : List Bool) → 0 < number → AllBelow number (map constant bits)
  constants_below number [] inside = tt
  constants_below number (bit ∷ bits) inside = (inside, constants_below number bits inside)

  wired_below : (number : ℕ) (name : Text) (from count : ℕ) → first ≤ number → AllBelow number (map (wires name) (range_with_len from count))
  wired_below number name from zero fits = tt
  wired_below number name from (suc count) fits = (omega (arith, fits, named name from), wired_below number name (from + 1) count fits)

  selected_ordered : (next : ℕ) → first ≤ next → (one : Option Bits) → IsOrdered next (selected wires one next)
  selected_ordered next fits None = given_ordered next [] tt
  selected_ordered next fits (Some one) = given_ordered next (wired wires one) (wired_below next one.name one.low one.width fits)

  wide : (next width : ℕ) (lowering : Lowering) → first ≤ next → IsOrdered next (lowering next) → IsOrdered next (widened width lowering next)
  wide next width lowering fits is = widened_ordered next width lowering (omega (arith, some, fits)) is

  -- ---- operators

  own_ordered : (e : Expr) → InOrder e → (next : ℕ) → first ≤ next → IsOrdered next (own m (edged e) next)
  own_ordered e h next fits = h (width_of m e) next fits

  truth_ordered : (e : Expr) → InOrder e → (next : ℕ) → first ≤ next → IsOrdered next (truth m (edged e) next)
  truth_ordered e h next fits =
      then_ordered next (own m (edged e)) any_bit (own_ordered e h next fits)
      (λ edges below. any_ordered (after next (own m (edged e) next)) (omega (arith, some, fits)) edges below)

  reduced_form : (op : UnOp) (e : Expr) → InOrder e → (width next : ℕ) → first ≤ next
      → IsOrdered next (widened width (and_then (own m (edged e)) (reduced op)) next)
  reduced_form op e h width next fits =
      wide next width (and_then (own m (edged e)) (reduced op)) fits
      (then_ordered next (own m (edged e)) (reduced op) (own_ordered e h next fits)
      (λ edges below. reduced_ordered (after next (own m (edged e) next)) (omega (arith, some, fits)) op edges below))

  unary_form : (op : UnOp) (e : Expr) → InOrder e → InOrder (roll-Expr (Expr-F.Unary op e))
  unary_form unary.Inv e h =
      level (Expr-F.Unary unary.Inv e) (λ width next fits. inverted_ordered next (expression m wires e width) (h width next fits))
  unary_form unary.Not e h = level (Expr-F.Unary unary.Not e) (reduced_form unary.Not e h)
  unary_form unary.RedAnd e h = level (Expr-F.Unary unary.RedAnd e) (reduced_form unary.RedAnd e h)
  unary_form unary.RedNand e h = level (Expr-F.Unary unary.RedNand e) (reduced_form unary.RedNand e h)
  unary_form unary.RedOr e h = level (Expr-F.Unary unary.RedOr e) (reduced_form unary.RedOr e h)
  unary_form unary.RedNor e h = level (Expr-F.Unary unary.RedNor e) (reduced_form unary.RedNor e h)
  unary_form unary.RedXor e h = level (Expr-F.Unary unary.RedXor e) (reduced_form unary.RedXor e h)
  unary_form unary.RedXnor e h = level (Expr-F.Unary unary.RedXnor e) (reduced_form unary.RedXnor e h)

  two_at : (left right : Expr) (width other : ℕ) → InOrder left → InOrder right → (rest : List Edge → List Edge → Lowering) → IsJoint rest
      → (next : ℕ) → first ≤ next → IsOrdered next (and_then_both (expression m wires left width) (expression m wires right other) rest next)
  two_at left right width other h k rest joint next fits =
      both_ordered next (expression m wires left width) (expression m wires right other) rest (omega (arith, some, fits)) (h width next fits)
      (λ number more. k other number (omega (arith, fits, more))) joint

  compared_form : (left right : Expr) → InOrder left → InOrder right → (next : ℕ) → first ≤ next
      → IsOrdered next (compared m (edged left) (edged right) next)
  compared_form left right h k next fits =
      two_at left right (max (width_of m left) (width_of m right)) (max (width_of m left) (width_of m right)) h k same_bits same_joint next fits

  binary_form : (op : BinOp) (left right : Expr) → InOrder left → InOrder right → InOrder (roll-Expr (Expr-F.Binary op left right))
  binary_form binary.And left right h k = level (Expr-F.Binary binary.And left right) (λ width. two_at left right width width h k and_bits and_joint)
  binary_form binary.Or left right h k = level (Expr-F.Binary binary.Or left right) (λ width. two_at left right width width h k or_bits or_joint)
  binary_form binary.Xor left right h k = level (Expr-F.Binary binary.Xor left right) (λ width. two_at left right width width h k xor_bits xor_joint)
  binary_form binary.Xnor left right h k = level (Expr-F.Binary binary.Xnor left right) (λ width. two_at left right width width h k xnor_bits xnor_joint)
  binary_form binary.LogAnd left right h k =
      level (Expr-F.Binary binary.LogAnd left right) (λ width next fits.
      wide next width (and_then_both (own m (edged left)) (own m (edged right)) both_true) fits
      (two_at left right (width_of m left) (width_of m right) h k both_true true_joint next fits))
  binary_form binary.LogOr left right h k =
      level (Expr-F.Binary binary.LogOr left right) (λ width next fits.
      wide next width (and_then_both (own m (edged left)) (own m (edged right)) some_true) fits
      (two_at left right (width_of m left) (width_of m right) h k some_true some_joint next fits))
  binary_form binary.Eq left right h k =
      level (Expr-F.Binary binary.Eq left right) (λ width next fits.
      wide next width (compared m (edged left) (edged right)) fits (compared_form left right h k next fits))
  binary_form binary.Ne left right h k =
      level (Expr-F.Binary binary.Ne left right) (λ width next fits.
      wide next width (inverted (compared m (edged left) (edged right))) fits
      (inverted_ordered next (compared m (edged left) (edged right)) (compared_form left right h k next fits)))

  choice_form : (test one other : Expr) → InOrder test → InOrder one → InOrder other → InOrder (roll-Expr (Expr-F.Cond test one other))
  choice_form test one other g h k =
      level (Expr-F.Cond test one other) (λ width next fits.
      then_ordered next (truth m (edged test)) (λ choice. and_then_both (expression m wires one width) (expression m wires other width) (chosen_bits (only choice)))
      (truth_ordered test g next fits) (λ choice below.
      let number : ℕ = after next (truth m (edged test) next) in
      let chosen = only_below number choice (omega (arith, some, fits)) below in
      then_ordered number (expression m wires one width) (λ left. and_then (expression m wires other width) (λ right. chosen_bits (only choice) left right))
      (h width number (omega (arith, fits))) (λ left on_left.
      let more : ℕ = after number (expression m wires one width number) in
      then_ordered more (expression m wires other width) (λ right. chosen_bits (only choice) left right)
      (k width more (omega (arith, fits))) (λ right on_right.
      chosen_joint (only choice) number chosen (after more (expression m wires other width more)) (omega arith) left right
      (below_more more (after more (expression m wires other width more)) left (omega arith) on_left) on_right))))

  -- ---- parts

  abbrev Proved : Type 0
  Proved = (e : Expr) × InOrder e

  abbrev bare : List Proved → List Expr
  bare parts = map (λ part. part.0) parts

  abbrev turns : List Proved → ℕ → List Lowered
  turns parts next = in_turn (map (own m) (map edged (bare parts))) next

  turns_ordered : (parts : List Proved) (next : ℕ) → first ≤ next → IsOrdered next (beside (turns parts next))
  turns_ordered [] next fits = record { nodes = tt; edges = tt }
  turns_ordered (part ∷ parts) next fits =
      let one : Lowered = own m (edged part.0) next in
      let number : ℕ = after next one in
      let here = own_ordered part.0 part.1 next fits in
      let rest = turns_ordered parts number (omega (arith, fits)) in
      let others : List Edge = flat_map (λ (part : Lowered). part.edges) (reverse (turns parts number)) in
      let total : ℕ = next + length (one.nodes ++ nodes_of (turns parts number)) in
      let long : total ≡ number + length (nodes_of (turns parts number)) = omega (arith, length-append one.nodes (nodes_of (turns parts number))) in
      record {
        nodes = ordered_append next one.nodes (nodes_of (turns parts number)) here.nodes rest.nodes;
        edges = subst (AllBelow total) (sym (flat-reverse (λ (part : Lowered). part.edges) one (turns parts number)))
            (below_append total others one.edges
            (below_more (number + length (nodes_of (turns parts number))) total others (omega (arith, long)) rest.edges)
            (below_more number total one.edges (omega (arith, long)) here.edges));
      }

  repeated_ordered : (times next : ℕ) (done : Lowered) → IsOrdered next done → IsOrdered next (repeated times done)
  repeated_ordered times next done is = record { nodes = is.nodes; edges = below_repeat (after next done) times done.edges is.edges }

  form : (y : Expr-F Proved) → InOrder (roll-Expr (map-Expr Proved Expr (λ e. e.0) y))
  form (Expr-F.Number at digits) =
      level (Expr-F.Number at digits) (λ width next fits.
      wide next width (given (map constant digits)) fits
      (given_ordered next (map constant digits) (constants_below next digits (omega (arith, some, fits)))))
  form (Expr-F.Whole at name) =
      level (Expr-F.Whole at name) (λ width next fits.
      wide next width (selected wires (whole_bits m name)) fits (selected_ordered next fits (whole_bits m name)))
  form (Expr-F.Bit at name index) =
      level (Expr-F.Bit at name index) (λ width next fits.
      wide next width (selected wires (bit_with m name index)) fits (selected_ordered next fits (bit_with m name index)))
  form (Expr-F.Part at name part) =
      level (Expr-F.Part at name part) (λ width next fits.
      wide next width (selected wires (part_bits m name part)) fits (selected_ordered next fits (part_bits m name part)))
  form (Expr-F.Unary op arg) = unary_form op arg.0 arg.1
  form (Expr-F.Binary op left right) = binary_form op left.0 right.0 left.1 right.1
  form (Expr-F.Cond test one other) = choice_form test.0 one.0 other.0 test.1 one.1 other.1
  form (Expr-F.Join parts) =
      level (Expr-F.Join (bare parts)) (λ width next fits.
      wide next width (joined m (map edged (bare parts))) fits (turns_ordered parts next fits))
  form (Expr-F.Repeat times parts) =
      level (Expr-F.Repeat times (bare parts)) (λ width next fits.
      wide next width (λ number. repeated times (joined m (map edged (bare parts)) number)) fits
      (repeated_ordered times next (joined m (map edged (bare parts)) next) (turns_ordered parts next fits)))

  pub in_order : (e : Expr) → InOrder e
  in_order = ind-Expr InOrder (λ x y is. subst (λ x. InOrder (roll-Expr x)) is (form y))

  pub condition_ordered : (e : Expr) (next : ℕ) → first ≤ next → IsOrdered next (condition m wires e next)
  condition_ordered e next fits = truth_ordered e (in_order e) next fits

  pub assigned_ordered : (count : ℕ) (e : Expr) (next : ℕ) → first ≤ next → IsOrdered next (assigned m wires count e next)
  assigned_ordered count e next fits = in_order e (max count (width_of m e)) next fits
