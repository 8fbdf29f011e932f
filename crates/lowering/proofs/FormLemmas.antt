-- What an expression is lowered to at each form of it.
use Rattle.std.proofs.Common.{◌≡◌, ℕ, ◌+◌, Bool, List, [], ◌∷◌, ◌++◌, Option, Some, None, ap, map, max, refl, reverse, sym, ◌∙◌, append_assoc}
use Rattle.std.proofs.lemmas.List.{append-nil, reverse-append, reverse-reverse}
use Rattle.std.specs.List.{flat_map, repeat, zip}
use Rattle.bm_base.specs.declared.range.Range.{Range}
use Rattle.flat_net.specs.declared.edge.Edge.{Edge}
use Rattle.flat_net.specs.declared.node.Node.{Node}
use Rattle.flat_net.specs.declared.node.Node.TheVariants as node
use Rattle.flat_net.specs.Edges.{constant, negated, plain}
use Rattle.vlog_tree.specs.declared.design.Module.{Module}
use Rattle.vlog_tree.specs.declared.expr.BinOp.{BinOp}
use Rattle.vlog_tree.specs.declared.expr.BinOp.TheVariants as binary
use Rattle.vlog_tree.specs.declared.expr.Expr.{Expr}
use Rattle.vlog_tree.specs.declared.expr.Expr.TheFolds.{para-roll-Expr}
use Rattle.vlog_tree.specs.declared.expr.Expr.TheOpen.{Expr-F}
use Rattle.vlog_tree.specs.declared.expr.Expr.TheVariants as expr
use Rattle.vlog_tree.specs.declared.expr.UnOp.{UnOp}
use Rattle.vlog_tree.specs.declared.expr.UnOp.TheVariants as unary
use Rattle.vlog_tree.specs.Meaning.Ranges.{Bits, bit_with, part_bits, whole_bits}
use Rattle.vlog_tree.specs.Meaning.Uses.{Text}
use Rattle.lowering.specs.declared.pairs.Pairing.TheVariants as pairing
use Rattle.lowering.specs.Expressions.{AtWidth, Operand, Wires, binary_at, expression, joined, lowered_at, only, own, selected, truth, unary_at, width_of}
use Rattle.lowering.specs.Forms.{branches, highest_first, leaf, of_choice, of_join, of_parts, of_repeat, operand_width, operand_widths}
use Rattle.lowering.specs.Gates.{and_bits, any_bit, both_true, chosen, chosen_bits, chosen_pairs, or_bits, same_bits, some_true, xnor_bits, xor_bits}
use Rattle.lowering.specs.Loops.{continued}
use Rattle.lowering.specs.Lowered.{Lowered, Lowering, after, and_then, and_then_both, extended, followed, in_turn, inverted, lowered, nodes_of, widened}
use Rattle.lowering.specs.Operators.{all_paired, are_same, binary_of, no_bit, of_truths, unary_of}
use Rattle.lowering.specs.Wiring.{edges_of}
use Rattle.lowering.proofs.ChainLemmas.{and_then_assoc}

-- ---- operators

pub and_is : (left right : List Edge) (next : ℕ) → and_bits left right next ≡ all_paired pairing.And left right next
and_is [] right next = refl
and_is (x ∷ left) [] next = refl
and_is (x ∷ left) (y ∷ right) next =
    ap (λ (rest : Lowered). lowered (node.And x y ∷ rest.nodes) (plain next ∷ rest.edges)) (and_is left right (next + 1))

pub or_is : (left right : List Edge) (next : ℕ) → or_bits left right next ≡ all_paired pairing.Or left right next
or_is [] right next = refl
or_is (x ∷ left) [] next = refl
or_is (x ∷ left) (y ∷ right) next =
    ap (λ (rest : Lowered). lowered (node.And (negated x) (negated y) ∷ rest.nodes) (negated (plain next) ∷ rest.edges))
    (or_is left right (next + 1))

pub xor_is : (left right : List Edge) (next : ℕ) → xor_bits left right next ≡ all_paired pairing.Xor left right next
xor_is [] right next = refl
xor_is (x ∷ left) [] next = refl
xor_is (x ∷ left) (y ∷ right) next =
    ap (λ (rest : Lowered). lowered (node.Xor x y ∷ rest.nodes) (plain next ∷ rest.edges)) (xor_is left right (next + 1))

pub xnor_is : (left right : List Edge) (next : ℕ) → xnor_bits left right next ≡ all_paired pairing.Xnor left right next
xnor_is [] right next = refl
xnor_is (x ∷ left) [] next = refl
xnor_is (x ∷ left) (y ∷ right) next =
    ap (λ (rest : Lowered). lowered (node.Xor x y ∷ rest.nodes) (negated (plain next) ∷ rest.edges)) (xnor_is left right (next + 1))

pub choice_is : (choice : Edge) (left right : List Edge) (next : ℕ)
    → chosen_pairs choice (zip left right) next ≡ all_paired (pairing.Choice choice) left right next
choice_is choice [] right next = refl
choice_is choice (x ∷ left) [] next = refl
choice_is choice (x ∷ left) (y ∷ right) next =
    ap (λ (rest : Lowered). continued (chosen choice x y next) rest) (choice_is choice left right (next + 3))

-- ---- one level

module _ (m : Module) (wires : Wires) where
  abbrev operand : Expr → Operand
  operand e = (e, expression m wires e)

  selected_is : (bits : Option Bits) (next : ℕ) → selected wires bits next ≡ lowered [] (edges_of wires bits)
  selected_is (Some bits) next = refl
  selected_is None next = refl

  pub at_number : (width next : ℕ) {e : Expr} {at : ℕ} {bits : List Bool} → e ≡ expr.Number at bits
      → expression m wires e width next ≡ leaf width (map constant bits)
  unfolding expression
  at_number width next {e} {at} {bits} is =
      ap (λ e. expression m wires e width next) (is ∙ sym (expr.rolls-Number at bits))
      ∙ ap (λ (v : AtWidth). v width next) (para-roll-Expr AtWidth (lowered_at m wires) (Expr-F.Number at bits))

  pub at_whole : (width next : ℕ) {e : Expr} {at : ℕ} {name : Text} → e ≡ expr.Whole at name
      → expression m wires e width next ≡ leaf width (edges_of wires (whole_bits m name))
  unfolding expression
  at_whole width next {e} {at} {name} is =
      ap (λ e. expression m wires e width next) (is ∙ sym (expr.rolls-Whole at name))
      ∙ ap (λ (v : AtWidth). v width next) (para-roll-Expr AtWidth (lowered_at m wires) (Expr-F.Whole at name))
      ∙ ap (λ (part : Lowered). lowered part.nodes (extended width part.edges)) (selected_is (whole_bits m name) next)

  pub at_bit : (width next : ℕ) {e : Expr} {at : ℕ} {name : Text} {index : ℕ} → e ≡ expr.Bit at name index
      → expression m wires e width next ≡ leaf width (edges_of wires (bit_with m name index))
  unfolding expression
  at_bit width next {e} {at} {name} {index} is =
      ap (λ e. expression m wires e width next) (is ∙ sym (expr.rolls-Bit at name index))
      ∙ ap (λ (v : AtWidth). v width next) (para-roll-Expr AtWidth (lowered_at m wires) (Expr-F.Bit at name index))
      ∙ ap (λ (part : Lowered). lowered part.nodes (extended width part.edges)) (selected_is (bit_with m name index) next)

  pub at_part : (width next : ℕ) {e : Expr} {at : ℕ} {name : Text} {range : Range} → e ≡ expr.Part at name range
      → expression m wires e width next ≡ leaf width (edges_of wires (part_bits m name range))
  unfolding expression
  at_part width next {e} {at} {name} {range} is =
      ap (λ e. expression m wires e width next) (is ∙ sym (expr.rolls-Part at name range))
      ∙ ap (λ (v : AtWidth). v width next) (para-roll-Expr AtWidth (lowered_at m wires) (Expr-F.Part at name range))
      ∙ ap (λ (part : Lowered). lowered part.nodes (extended width part.edges)) (selected_is (part_bits m name range) next)

  unary_is : (op : UnOp) (arg : Expr) (width next : ℕ)
      → unary_at m op (operand arg) width next ≡ and_then (expression m wires arg (operand_width m op arg width)) (unary_of op width) next
  unary_is unary.Inv arg width next =
      let inner : Lowered = expression m wires arg width next in
      ap (λ (nodes : List Node). lowered nodes (map negated inner.edges)) (sym (append-nil inner.nodes))
  unary_is unary.Not arg width next = refl
  unary_is unary.RedAnd arg width next = refl
  unary_is unary.RedNand arg width next = refl
  unary_is unary.RedOr arg width next = refl
  unary_is unary.RedNor arg width next = refl
  unary_is unary.RedXor arg width next = refl
  unary_is unary.RedXnor arg width next = refl

  pub at_unary : (width next : ℕ) {e : Expr} {op : UnOp} {arg read : Expr} {inner : ℕ} → e ≡ expr.Unary op arg
      → read ≡ arg → inner ≡ operand_width m op read width
      → expression m wires e width next ≡ and_then (expression m wires read inner) (unary_of op width) next
  unfolding expression
  at_unary width next {e} {op} {arg} {read} {inner} is read_is inner_is =
      ap (λ e. expression m wires e width next) (is ∙ sym (expr.rolls-Unary op arg))
      ∙ ap (λ (v : AtWidth). v width next) (para-roll-Expr AtWidth (lowered_at m wires) (Expr-F.Unary op arg))
      ∙ unary_is op arg width next
      ∙ ap (λ e. and_then (expression m wires e (operand_width m op e width)) (unary_of op width) next) (sym read_is)
      ∙ ap (λ k. and_then (expression m wires read k) (unary_of op width) next) (sym inner_is)

  -- both operands, and then what is made of them
  both_then : (left right : Expr) (lw rw next : ℕ) (f g : List Edge → List Edge → Lowering)
      → ((xs ys : List Edge) (n : ℕ) → f xs ys n ≡ g xs ys n)
      → and_then_both (expression m wires left lw) (expression m wires right rw) f next
      ≡ and_then_both (expression m wires left lw) (expression m wires right rw) g next
  both_then left right lw rw next f g same =
      let first : Lowered = expression m wires left lw next in
      let second : Lowered = expression m wires right rw (after next first) in
      ap (λ (rest : Lowered). followed first (followed second rest))
      (same first.edges second.edges (after (after next first) second))

  truths_is : (width : ℕ) (xs ys : List Edge) (n : ℕ) → widened width (both_true xs ys) n ≡ widened width (of_truths pairing.And xs ys) n
  truths_is width xs ys n =
      let first : Lowered = any_bit xs n in
      let second : Lowered = any_bit ys (after n first) in
      ap (λ (rest : Lowered). let it : Lowered = followed first (followed second rest) in lowered it.nodes (extended width it.edges))
      (and_is first.edges second.edges (after (after n first) second))

  some_is : (width : ℕ) (xs ys : List Edge) (n : ℕ) → widened width (some_true xs ys) n ≡ widened width (of_truths pairing.Or xs ys) n
  some_is width xs ys n =
      let first : Lowered = any_bit xs n in
      let second : Lowered = any_bit ys (after n first) in
      ap (λ (rest : Lowered). let it : Lowered = followed first (followed second rest) in lowered it.nodes (extended width it.edges))
      (or_is first.edges second.edges (after (after n first) second))

  same_is : (xs ys : List Edge) (n : ℕ) → same_bits xs ys n ≡ are_same xs ys n
  same_is xs ys n = ap (λ (first : Lowered). followed first (no_bit first.edges (after n first))) (xor_is xs ys n)

  abbrev of_both : BinOp → Expr → Expr → ℕ × ℕ → ℕ → Lowering
  of_both op left right widths width =
      and_then_both (expression m wires left widths.0) (expression m wires right widths.1) (binary_of op width)

  binary_is : (op : BinOp) (left right : Expr) (width next : ℕ)
      → binary_at m op (operand left) (operand right) width next ≡ of_both op left right (operand_widths m op left right width) width next
  binary_is binary.And left right width next = both_then left right width width next and_bits (all_paired pairing.And) and_is
  binary_is binary.Or left right width next = both_then left right width width next or_bits (all_paired pairing.Or) or_is
  binary_is binary.Xor left right width next = both_then left right width width next xor_bits (all_paired pairing.Xor) xor_is
  binary_is binary.Xnor left right width next = both_then left right width width next xnor_bits (all_paired pairing.Xnor) xnor_is
  binary_is binary.LogAnd left right width next =
      both_then left right (width_of m left) (width_of m right) next (λ xs ys. widened width (both_true xs ys))
      (binary_of binary.LogAnd width) (truths_is width)
  binary_is binary.LogOr left right width next =
      both_then left right (width_of m left) (width_of m right) next (λ xs ys. widened width (some_true xs ys))
      (binary_of binary.LogOr width) (some_is width)
  binary_is binary.Eq left right width next =
      let both : ℕ = max (width_of m left) (width_of m right) in
      both_then left right both both next (λ xs ys. widened width (same_bits xs ys)) (binary_of binary.Eq width)
      (λ xs ys n. ap (λ (it : Lowered). lowered it.nodes (extended width it.edges)) (same_is xs ys n))
  binary_is binary.Ne left right width next =
      let both : ℕ = max (width_of m left) (width_of m right) in
      both_then left right both both next (λ xs ys. widened width (inverted (same_bits xs ys))) (binary_of binary.Ne width)
      (λ xs ys n. ap (λ (it : Lowered). lowered it.nodes (extended width (map negated it.edges))) (same_is xs ys n))

  pub at_binary : (width next : ℕ) {e : Expr} {op : BinOp} {left right first second : Expr} {inner : ℕ × ℕ}
      → e ≡ expr.Binary op left right → first ≡ left → second ≡ right → inner ≡ operand_widths m op first second width
      → expression m wires e width next
      ≡ and_then_both (expression m wires first inner.0) (expression m wires second inner.1) (binary_of op width) next
  unfolding expression
  at_binary width next {e} {op} {left} {right} {first} {second} {inner} is first_is second_is inner_is =
      let both : Expr → Expr → ℕ × ℕ → Lowered = λ left right widths.
      and_then_both (expression m wires left widths.0) (expression m wires right widths.1) (binary_of op width) next in
      ap (λ e. expression m wires e width next) (is ∙ sym (expr.rolls-Binary op left right))
      ∙ ap (λ (v : AtWidth). v width next) (para-roll-Expr AtWidth (lowered_at m wires) (Expr-F.Binary op left right))
      ∙ binary_is op left right width next
      ∙ ap (λ e. both e right (operand_widths m op e right width)) (sym first_is)
      ∙ ap (λ e. both first e (operand_widths m op first e width)) (sym second_is)
      ∙ ap (both first second) (sym inner_is)

  pub at_choice : (width next : ℕ) {e condition first second read taken other : Expr} {inner : ℕ}
      → e ≡ expr.Cond condition first second → read ≡ condition → taken ≡ first → other ≡ second → inner ≡ width_of m read
      → expression m wires e width next ≡ of_choice m wires read taken other inner width next
  unfolding expression
  at_choice width next {e} {condition} {first} {second} {read} {taken} {other} {inner} is read_is taken_is other_is inner_is =
      let condition_first : Lowering = expression m wires condition (width_of m condition) in
      let chosen : Lowered = truth m (operand condition) next in
      let edge : Edge = only chosen.edges in
      ap (λ e. expression m wires e width next) (is ∙ sym (expr.rolls-Cond condition first second))
      ∙ ap (λ (v : AtWidth). v width next) (para-roll-Expr AtWidth (lowered_at m wires) (Expr-F.Cond condition first second))
      ∙ ap (λ (rest : Lowered). followed chosen rest)
      (both_then first second width width (after next chosen) (chosen_bits edge) (all_paired (pairing.Choice edge)) (choice_is edge))
      ∙ and_then_assoc condition_first any_bit (λ choice. branches m wires (only choice) first second width) next
      ∙ ap (λ e. of_choice m wires e first second (width_of m e) width next) (sym read_is)
      ∙ ap (λ e. of_choice m wires read e second (width_of m read) width next) (sym taken_is)
      ∙ ap (λ e. of_choice m wires read taken e (width_of m read) width next) (sym other_is)
      ∙ ap (λ k. of_choice m wires read taken other k width next) (sym inner_is)

  -- ---- parts

  abbrev lowerings : List Expr → List Lowering
  lowerings parts = map (own m) (map operand parts)

  part_nodes : (parts : List Expr) (next : ℕ) → nodes_of (in_turn (lowerings parts) next) ≡ (highest_first m wires parts next).nodes
  part_nodes [] next = refl
  part_nodes (part ∷ parts) next =
      let first : Lowered = own m (operand part) next in
      ap (λ (nodes : List Node). first.nodes ++ nodes) (part_nodes parts (after next first))

  edges_after : (lists others : List Lowered) → flat_map (λ (part : Lowered). part.edges) (lists ++ others)
      ≡ flat_map (λ (part : Lowered). part.edges) lists ++ flat_map (λ (part : Lowered). part.edges) others
  edges_after [] others = refl
  edges_after (part ∷ lists) others =
      ap (λ (edges : List Edge). part.edges ++ edges) (edges_after lists others)
      ∙ sym (append_assoc part.edges (flat_map (λ (part : Lowered). part.edges) lists) (flat_map (λ (part : Lowered). part.edges) others))

  part_edges : (parts : List Expr) (next : ℕ) → flat_map (λ (part : Lowered). part.edges) (reverse (in_turn (lowerings parts) next))
      ≡ reverse (highest_first m wires parts next).edges
  part_edges [] next = refl
  part_edges (part ∷ parts) next =
      let first : Lowered = own m (operand part) next in
      let others : List Lowered = in_turn (lowerings parts) (after next first) in
      let rest : List Edge = (highest_first m wires parts (after next first)).edges in
      ap (flat_map (λ (part : Lowered). part.edges)) (reverse-append (first ∷ []) others)
      ∙ edges_after (reverse others) (first ∷ [])
      ∙ ap (λ (edges : List Edge). flat_map (λ (part : Lowered). part.edges) (reverse others) ++ edges) (append-nil first.edges)
      ∙ ap (λ (edges : List Edge). edges ++ first.edges) (part_edges parts (after next first))
      ∙ sym (reverse-append (reverse first.edges) rest ∙ ap (λ (edges : List Edge). reverse rest ++ edges) (reverse-reverse first.edges))

  parts_is : (parts : List Expr) (next : ℕ) → joined m (map operand parts) next ≡ of_parts m wires parts next
  unfolding of_parts
  parts_is parts next =
      let edges : List Edge = flat_map (λ (part : Lowered). part.edges) (reverse (in_turn (lowerings parts) next)) in
      ap (λ (nodes : List Node). lowered nodes edges) (part_nodes parts next)
      ∙ ap (λ (edges : List Edge). lowered (highest_first m wires parts next).nodes edges) (part_edges parts next)

  pub at_join : (width next : ℕ) {e : Expr} {parts read : List Expr} → e ≡ expr.Join parts → read ≡ parts
      → expression m wires e width next ≡ of_join m wires read width next
  unfolding expression
  at_join width next {e} {parts} {read} is read_is =
      ap (λ e. expression m wires e width next) (is ∙ sym (expr.rolls-Join parts))
      ∙ ap (λ (v : AtWidth). v width next) (para-roll-Expr AtWidth (lowered_at m wires) (Expr-F.Join parts))
      ∙ ap (λ (it : Lowered). lowered it.nodes (extended width it.edges)) (parts_is parts next)
      ∙ ap (λ parts. of_join m wires parts width next) (sym read_is)

  pub at_repeat : (width next : ℕ) {e : Expr} {count : ℕ} {parts read : List Expr} → e ≡ expr.Repeat count parts → read ≡ parts
      → expression m wires e width next ≡ of_repeat m wires count read width next
  unfolding expression
  at_repeat width next {e} {count} {parts} {read} is read_is =
      ap (λ e. expression m wires e width next) (is ∙ sym (expr.rolls-Repeat count parts))
      ∙ ap (λ (v : AtWidth). v width next) (para-roll-Expr AtWidth (lowered_at m wires) (Expr-F.Repeat count parts))
      ∙ ap (λ (it : Lowered). lowered it.nodes (extended width (repeat count it.edges))) (parts_is parts next)
      ∙ ap (λ parts. of_repeat m wires count parts width next) (sym read_is)
