use Rattle.std.proofs.Common.{◌≡◌, ℕ, ◌+◌, List, [], ◌∷◌, ◌++◌, ap, arith, drop, map, refl, reverse, sym, ◌∙◌}
use Rattle.std.proofs.lemmas.List.{append-nil, at_drop_all, at_drop_more}
use Rattle.std.specs.List.{repeat}
use Rattle.flat_net.specs.declared.edge.Edge.{Edge}
use Rattle.flat_net.specs.Edges.{constant}
use Rattle.vlog_tree.specs.declared.expr.Expr.{Expr}
use Rattle.vlog_tree.specs.Meaning.Ranges.{bit_with, part_bits, whole_bits}
use Rattle.lowering.specs.declared.pairs.Pairing.TheVariants.{Choice}
use Rattle.lowering.specs.Expressions.{expression, only, width_of}
use Rattle.lowering.specs.Forms.{branches, highest_first, of_parts}
use Rattle.lowering.specs.Gates.{any_bit}
use Rattle.lowering.specs.Limits.{next_of, with_more}
use Rattle.lowering.specs.Loops.{continued}
use Rattle.lowering.specs.Lowered.{Lowered, Lowering, after, and_then, extended, lowered}
use Rattle.lowering.specs.Operators.{all_paired, binary_of, unary_of}
use Rattle.lowering.specs.Wiring.{edges_of}
use Rattle.lowering.proofs.BoundLemmas.{excused}
use Rattle.lowering.proofs.ChainLemmas.{goes_on, is_within, last_edges, last_nodes, last_within}
use Rattle.lowering.proofs.FormLemmas.{at_bit, at_join, at_number, at_part, at_repeat, at_whole}
use Rattle.lowering.proofs.RemainsLemmas.{end_edges, end_nodes, turn, within}
use Rattle.lowering.proofs.StepLemmas.{begins_binary, begins_choice, begins_unary, leaf_edges, leaf_nodes, parts_within}
use Rattle.lowering.proofs.expressions.+expressions.Goals as goal

-- ---- numbers, names and selects

pub lower-returns-in_ok-extended-in-Number-clause-nodes : goal.lower-returns-in_ok-extended-in-Number-clause-nodes
lower-returns-in_ok-extended-in-Number-clause-nodes g t c =
    let m = g.S.Scope.module_of c.args.scope.now in
    let wires = g.S.Scope.wires c.args.scope.now in
    let start = c.args.nodes.now in
    let width = c.args.width in
    let i = c.in-Number in
    leaf_nodes start width (map constant i.bits) (at_number m wires width (next_of start) i.is)

pub lower-returns-in_ok-extended-in-Number-clause-edges : goal.lower-returns-in_ok-extended-in-Number-clause-edges
lower-returns-in_ok-extended-in-Number-clause-edges g t c =
    let m = g.S.Scope.module_of c.args.scope.now in
    let wires = g.S.Scope.wires c.args.scope.now in
    let start = c.args.nodes.now in
    let width = c.args.width in
    let i = c.in-Number in
    leaf_edges width (at_number m wires width (next_of start) i.is)
    c.in_ok-extended-in-Number.ensures.edges c.in_ok-constants-in-Number.ensures.edges

pub lower-returns-in_ok-extended-in-Whole-clause-nodes : goal.lower-returns-in_ok-extended-in-Whole-clause-nodes
lower-returns-in_ok-extended-in-Whole-clause-nodes g t c =
    let m = g.S.Scope.module_of c.args.scope.now in
    let wires = g.S.Scope.wires c.args.scope.now in
    let start = c.args.nodes.now in
    let width = c.args.width in
    let i = c.in-Whole in
    leaf_nodes start width (edges_of wires (whole_bits m i.name)) (at_whole m wires width (next_of start) i.is)

pub lower-returns-in_ok-extended-in-Whole-clause-edges : goal.lower-returns-in_ok-extended-in-Whole-clause-edges
lower-returns-in_ok-extended-in-Whole-clause-edges g t c =
    let m = g.S.Scope.module_of c.args.scope.now in
    let wires = g.S.Scope.wires c.args.scope.now in
    let start = c.args.nodes.now in
    let width = c.args.width in
    let i = c.in-Whole in
    leaf_edges width (at_whole m wires width (next_of start) i.is)
    c.in_ok-extended-in-Whole.ensures.edges c.in_ok-whole-in-Whole.ensures.edges

pub lower-returns-in_ok-extended-in-Bit-clause-nodes : goal.lower-returns-in_ok-extended-in-Bit-clause-nodes
lower-returns-in_ok-extended-in-Bit-clause-nodes g t c =
    let m = g.S.Scope.module_of c.args.scope.now in
    let wires = g.S.Scope.wires c.args.scope.now in
    let start = c.args.nodes.now in
    let width = c.args.width in
    let i = c.in-Bit in
    leaf_nodes start width (edges_of wires (bit_with m i.name i.index)) (at_bit m wires width (next_of start) i.is)

pub lower-returns-in_ok-extended-in-Bit-clause-edges : goal.lower-returns-in_ok-extended-in-Bit-clause-edges
lower-returns-in_ok-extended-in-Bit-clause-edges g t c =
    let m = g.S.Scope.module_of c.args.scope.now in
    let wires = g.S.Scope.wires c.args.scope.now in
    let start = c.args.nodes.now in
    let width = c.args.width in
    let i = c.in-Bit in
    leaf_edges width (at_bit m wires width (next_of start) i.is)
    c.in_ok-extended-in-Bit.ensures.edges c.in_ok-bit-in-Bit.ensures.edges

pub lower-returns-in_ok-extended-in-Part-clause-nodes : goal.lower-returns-in_ok-extended-in-Part-clause-nodes
lower-returns-in_ok-extended-in-Part-clause-nodes g t c =
    let m = g.S.Scope.module_of c.args.scope.now in
    let wires = g.S.Scope.wires c.args.scope.now in
    let start = c.args.nodes.now in
    let width = c.args.width in
    let i = c.in-Part in
    leaf_nodes start width (edges_of wires (part_bits m i.name i.range)) (at_part m wires width (next_of start) i.is)

pub lower-returns-in_ok-extended-in-Part-clause-edges : goal.lower-returns-in_ok-extended-in-Part-clause-edges
lower-returns-in_ok-extended-in-Part-clause-edges g t c =
    let m = g.S.Scope.module_of c.args.scope.now in
    let wires = g.S.Scope.wires c.args.scope.now in
    let start = c.args.nodes.now in
    let width = c.args.width in
    let i = c.in-Part in
    leaf_edges width (at_part m wires width (next_of start) i.is)
    c.in_ok-extended-in-Part.ensures.edges c.in_ok-part-in-Part.ensures.edges

-- ---- unary operators

pub lower-returns-in_err-bits-in-Unary-clause-fault : goal.lower-returns-in_err-bits-in-Unary-clause-fault
lower-returns-in_err-bits-in-Unary-clause-fault g t c =
    let m = g.S.Scope.module_of c.args.scope.now in
    let wires = g.S.Scope.wires c.args.scope.now in
    let start = c.args.nodes.now in
    let width = c.args.width in
    let i = c.in-Unary in
    let first : Lowering = expression m wires c.get-arg.result.now c.operand_width.result in
    let rest : List Edge → Lowering = unary_of i.op width in
    let r0 = begins_unary m wires start width i.is c.get-arg.ensures c.operand_width.ensures in
    excused _ _ c.from_residual-in_err-bits-in-Unary.result _ c.from_residual-in_err-bits-in-Unary.ensures.1
    c.in_err-bits-in-Unary.ensures.fault (is_within first rest r0)

pub lower-returns-in_err-unary-in-Unary-clause-fault : goal.lower-returns-in_err-unary-in-Unary-clause-fault
lower-returns-in_err-unary-in-Unary-clause-fault g t c =
    let m = g.S.Scope.module_of c.args.scope.now in
    let wires = g.S.Scope.wires c.args.scope.now in
    let start = c.args.nodes.now in
    let width = c.args.width in
    let i = c.in-Unary in
    let first : Lowering = expression m wires c.get-arg.result.now c.operand_width.result in
    let rest : List Edge → Lowering = unary_of i.op width in
    let r0 = begins_unary m wires start width i.is c.get-arg.ensures c.operand_width.ensures in
    let read = c.in_ok-bits-in-Unary.ensures in
    let r1 = goes_on first rest r0 c.as_slice.result.now c.lower.new.nodes read.nodes (c.as_slice.ensures ∙ read.edges) in
    excused _ _ c.from_residual-in_err-unary-in-Unary.result _ c.from_residual-in_err-unary-in-Unary.ensures.1
    c.in_err-unary-in-Unary.ensures.fault (last_within r1)

pub lower-returns-in_ok-unary-in-Unary-clause-nodes : goal.lower-returns-in_ok-unary-in-Unary-clause-nodes
lower-returns-in_ok-unary-in-Unary-clause-nodes g t c =
    let m = g.S.Scope.module_of c.args.scope.now in
    let wires = g.S.Scope.wires c.args.scope.now in
    let start = c.args.nodes.now in
    let width = c.args.width in
    let i = c.in-Unary in
    let first : Lowering = expression m wires c.get-arg.result.now c.operand_width.result in
    let rest : List Edge → Lowering = unary_of i.op width in
    let r0 = begins_unary m wires start width i.is c.get-arg.ensures c.operand_width.ensures in
    let read = c.in_ok-bits-in-Unary.ensures in
    let r1 = goes_on first rest r0 c.as_slice.result.now c.lower.new.nodes read.nodes (c.as_slice.ensures ∙ read.edges) in
    last_nodes r1 c.unary.new.nodes c.in_ok-unary-in-Unary.ensures.nodes

pub lower-returns-in_ok-unary-in-Unary-clause-edges : goal.lower-returns-in_ok-unary-in-Unary-clause-edges
lower-returns-in_ok-unary-in-Unary-clause-edges g t c =
    let m = g.S.Scope.module_of c.args.scope.now in
    let wires = g.S.Scope.wires c.args.scope.now in
    let start = c.args.nodes.now in
    let width = c.args.width in
    let i = c.in-Unary in
    let first : Lowering = expression m wires c.get-arg.result.now c.operand_width.result in
    let rest : List Edge → Lowering = unary_of i.op width in
    let r0 = begins_unary m wires start width i.is c.get-arg.ensures c.operand_width.ensures in
    let read = c.in_ok-bits-in-Unary.ensures in
    let r1 = goes_on first rest r0 c.as_slice.result.now c.lower.new.nodes read.nodes (c.as_slice.ensures ∙ read.edges) in
    last_edges r1 c.in_ok-unary-in-Unary.field-0 c.in_ok-unary-in-Unary.ensures.edges

-- ---- binary operators

pub lower-returns-in_err-first-in-Binary-clause-fault : goal.lower-returns-in_err-first-in-Binary-clause-fault
lower-returns-in_err-first-in-Binary-clause-fault g t c =
    let m = g.S.Scope.module_of c.args.scope.now in
    let wires = g.S.Scope.wires c.args.scope.now in
    let start = c.args.nodes.now in
    let width = c.args.width in
    let i = c.in-Binary in
    let widths = c.operand_widths-widths in
    let first : Lowering = expression m wires c.get-left.result.now widths.result.0 in
    let second : Lowering = expression m wires c.get-right.result.now widths.result.1 in
    let rest : List Edge → List Edge → Lowering = binary_of i.op width in
    let r0 = begins_binary m wires start width i.is c.get-left.ensures c.get-right.ensures widths.ensures in
    excused _ _ c.from_residual-in_err-first-in-Binary.result _ c.from_residual-in_err-first-in-Binary.ensures.1
    c.in_err-first-in-Binary.ensures.fault (is_within first (λ left. and_then second (rest left)) r0)

pub lower-returns-in_err-second-in-Binary-clause-fault : goal.lower-returns-in_err-second-in-Binary-clause-fault
lower-returns-in_err-second-in-Binary-clause-fault g t c =
    let m = g.S.Scope.module_of c.args.scope.now in
    let wires = g.S.Scope.wires c.args.scope.now in
    let start = c.args.nodes.now in
    let width = c.args.width in
    let i = c.in-Binary in
    let widths = c.operand_widths-widths in
    let first : Lowering = expression m wires c.get-left.result.now widths.result.0 in
    let second : Lowering = expression m wires c.get-right.result.now widths.result.1 in
    let rest : List Edge → List Edge → Lowering = binary_of i.op width in
    let r0 = begins_binary m wires start width i.is c.get-left.ensures c.get-right.ensures widths.ensures in
    let left = c.in_ok-first-in-Binary.first in
    let one = c.in_ok-first-in-Binary.ensures in
    let r1 = goes_on first (λ left. and_then second (rest left)) r0 left c.lower-in-Binary.new.nodes one.nodes (one.edges) in
    excused _ _ c.from_residual-in_err-second-in-Binary.result _ c.from_residual-in_err-second-in-Binary.ensures.1
    c.in_err-second-in-Binary.ensures.fault (is_within second (rest left) r1)

pub lower-returns-in_err-binary-in-Binary-clause-fault : goal.lower-returns-in_err-binary-in-Binary-clause-fault
lower-returns-in_err-binary-in-Binary-clause-fault g t c =
    let m = g.S.Scope.module_of c.args.scope.now in
    let wires = g.S.Scope.wires c.args.scope.now in
    let start = c.args.nodes.now in
    let width = c.args.width in
    let i = c.in-Binary in
    let widths = c.operand_widths-widths in
    let first : Lowering = expression m wires c.get-left.result.now widths.result.0 in
    let second : Lowering = expression m wires c.get-right.result.now widths.result.1 in
    let rest : List Edge → List Edge → Lowering = binary_of i.op width in
    let r0 = begins_binary m wires start width i.is c.get-left.ensures c.get-right.ensures widths.ensures in
    let left = c.as_slice-in-Binary.result.now in
    let one = c.in_ok-first-in-Binary.ensures in
    let r1 = goes_on first (λ left. and_then second (rest left)) r0 left c.lower-in-Binary.new.nodes one.nodes
    (c.as_slice-in-Binary.ensures ∙ one.edges) in
    let right = c.as_slice-in-Binary-2 in
    let two = c.in_ok-second-in-Binary.ensures in
    let r2 = goes_on second (rest left) r1 right.result.now c.lower-in-Binary-2.new.nodes two.nodes (right.ensures ∙ two.edges) in
    excused _ _ c.from_residual-in_err-binary-in-Binary.result _ c.from_residual-in_err-binary-in-Binary.ensures.1
    c.in_err-binary-in-Binary.ensures.fault (last_within r2)

pub lower-returns-in_ok-binary-in-Binary-clause-nodes : goal.lower-returns-in_ok-binary-in-Binary-clause-nodes
lower-returns-in_ok-binary-in-Binary-clause-nodes g t c =
    let m = g.S.Scope.module_of c.args.scope.now in
    let wires = g.S.Scope.wires c.args.scope.now in
    let start = c.args.nodes.now in
    let width = c.args.width in
    let i = c.in-Binary in
    let widths = c.operand_widths-widths in
    let first : Lowering = expression m wires c.get-left.result.now widths.result.0 in
    let second : Lowering = expression m wires c.get-right.result.now widths.result.1 in
    let rest : List Edge → List Edge → Lowering = binary_of i.op width in
    let r0 = begins_binary m wires start width i.is c.get-left.ensures c.get-right.ensures widths.ensures in
    let left = c.as_slice-in-Binary.result.now in
    let one = c.in_ok-first-in-Binary.ensures in
    let r1 = goes_on first (λ left. and_then second (rest left)) r0 left c.lower-in-Binary.new.nodes one.nodes
    (c.as_slice-in-Binary.ensures ∙ one.edges) in
    let right = c.as_slice-in-Binary-2 in
    let two = c.in_ok-second-in-Binary.ensures in
    let r2 = goes_on second (rest left) r1 right.result.now c.lower-in-Binary-2.new.nodes two.nodes (right.ensures ∙ two.edges) in
    last_nodes r2 c.binary.new.nodes c.in_ok-binary-in-Binary.ensures.nodes

pub lower-returns-in_ok-binary-in-Binary-clause-edges : goal.lower-returns-in_ok-binary-in-Binary-clause-edges
lower-returns-in_ok-binary-in-Binary-clause-edges g t c =
    let m = g.S.Scope.module_of c.args.scope.now in
    let wires = g.S.Scope.wires c.args.scope.now in
    let start = c.args.nodes.now in
    let width = c.args.width in
    let i = c.in-Binary in
    let widths = c.operand_widths-widths in
    let first : Lowering = expression m wires c.get-left.result.now widths.result.0 in
    let second : Lowering = expression m wires c.get-right.result.now widths.result.1 in
    let rest : List Edge → List Edge → Lowering = binary_of i.op width in
    let r0 = begins_binary m wires start width i.is c.get-left.ensures c.get-right.ensures widths.ensures in
    let left = c.as_slice-in-Binary.result.now in
    let one = c.in_ok-first-in-Binary.ensures in
    let r1 = goes_on first (λ left. and_then second (rest left)) r0 left c.lower-in-Binary.new.nodes one.nodes
    (c.as_slice-in-Binary.ensures ∙ one.edges) in
    let right = c.as_slice-in-Binary-2 in
    let two = c.in_ok-second-in-Binary.ensures in
    let r2 = goes_on second (rest left) r1 right.result.now c.lower-in-Binary-2.new.nodes two.nodes (right.ensures ∙ two.edges) in
    last_edges r2 c.in_ok-binary-in-Binary.field-0 c.in_ok-binary-in-Binary.ensures.edges

-- ---- conditionals

pub lower-returns-in_err-bits-in-Cond-clause-fault : goal.lower-returns-in_err-bits-in-Cond-clause-fault
lower-returns-in_err-bits-in-Cond-clause-fault g t c =
    let m = g.S.Scope.module_of c.args.scope.now in
    let wires = g.S.Scope.wires c.args.scope.now in
    let start = c.args.nodes.now in
    let width = c.args.width in
    let i = c.in-Cond in
    let condition : Lowering = expression m wires c.get-cond.result.now c.width_of.result in
    let taken : Expr = i.yes in
    let other : Expr = i.no in
    let chosen : List Edge → Lowering = λ edges. branches m wires (only edges) taken other width in
    let rest : List Edge → Lowering = λ bits. and_then (any_bit bits) chosen in
    let r0 = begins_choice m wires start width {taken = taken} {other = other} i.is
    c.get-cond.ensures refl refl c.width_of.ensures in
    excused _ _ c.from_residual-in_err-bits-in-Cond.result _ c.from_residual-in_err-bits-in-Cond.ensures.1
    c.in_err-bits-in-Cond.ensures.fault (is_within condition rest r0)

pub lower-returns-in_err-choice-in-Cond-clause-fault : goal.lower-returns-in_err-choice-in-Cond-clause-fault
lower-returns-in_err-choice-in-Cond-clause-fault g t c =
    let m = g.S.Scope.module_of c.args.scope.now in
    let wires = g.S.Scope.wires c.args.scope.now in
    let start = c.args.nodes.now in
    let width = c.args.width in
    let i = c.in-Cond in
    let condition : Lowering = expression m wires c.get-cond.result.now c.width_of.result in
    let taken : Expr = i.yes in
    let other : Expr = i.no in
    let chosen : List Edge → Lowering = λ edges. branches m wires (only edges) taken other width in
    let rest : List Edge → Lowering = λ bits. and_then (any_bit bits) chosen in
    let r0 = begins_choice m wires start width {taken = taken} {other = other} i.is
    c.get-cond.ensures refl refl c.width_of.ensures in
    let bits = c.as_slice-in-Cond in
    let read = c.in_ok-bits-in-Cond.ensures in
    let r1 = goes_on condition rest r0 bits.result.now c.lower-in-Cond.new.nodes read.nodes (bits.ensures ∙ read.edges) in
    excused _ _ c.from_residual-in_err-choice-in-Cond.result _ c.from_residual-in_err-choice-in-Cond.ensures.1
    c.in_err-choice-in-Cond.ensures.fault (is_within (any_bit bits.result.now) chosen r1)

pub lower-returns-in_err-first-in-Cond-clause-fault : goal.lower-returns-in_err-first-in-Cond-clause-fault
lower-returns-in_err-first-in-Cond-clause-fault g t c =
    let m = g.S.Scope.module_of c.args.scope.now in
    let wires = g.S.Scope.wires c.args.scope.now in
    let start = c.args.nodes.now in
    let width = c.args.width in
    let i = c.in-Cond in
    let condition : Lowering = expression m wires c.get-cond.result.now c.width_of.result in
    let taken : Expr = c.get-yes.result.now in
    let other : Expr = i.no in
    let chosen : List Edge → Lowering = λ edges. branches m wires (only edges) taken other width in
    let rest : List Edge → Lowering = λ bits. and_then (any_bit bits) chosen in
    let r0 = begins_choice m wires start width {taken = taken} {other = other} i.is
    c.get-cond.ensures c.get-yes.ensures refl c.width_of.ensures in
    let bits = c.as_slice-in-Cond in
    let read = c.in_ok-bits-in-Cond.ensures in
    let r1 = goes_on condition rest r0 bits.result.now c.lower-in-Cond.new.nodes read.nodes (bits.ensures ∙ read.edges) in
    let choice = c.in_ok-choice-in-Cond in
    let r2 = goes_on (any_bit bits.result.now) chosen r1 (choice.choice ∷ []) c.any_bit.new.nodes
    choice.ensures.nodes choice.ensures.edges in
    let first : Lowering = expression m wires taken width in
    let second : Lowering = expression m wires other width in
    let pairs : List Edge → List Edge → Lowering = all_paired (Choice choice.choice) in
    excused _ _ c.from_residual-in_err-first-in-Cond.result _ c.from_residual-in_err-first-in-Cond.ensures.1
    c.in_err-first-in-Cond.ensures.fault (is_within first (λ left. and_then second (pairs left)) r2)

pub lower-returns-in_err-second-in-Cond-clause-fault : goal.lower-returns-in_err-second-in-Cond-clause-fault
lower-returns-in_err-second-in-Cond-clause-fault g t c =
    let m = g.S.Scope.module_of c.args.scope.now in
    let wires = g.S.Scope.wires c.args.scope.now in
    let start = c.args.nodes.now in
    let width = c.args.width in
    let i = c.in-Cond in
    let condition : Lowering = expression m wires c.get-cond.result.now c.width_of.result in
    let taken : Expr = c.get-yes.result.now in
    let other : Expr = c.get-no.result.now in
    let chosen : List Edge → Lowering = λ edges. branches m wires (only edges) taken other width in
    let rest : List Edge → Lowering = λ bits. and_then (any_bit bits) chosen in
    let r0 = begins_choice m wires start width {taken = taken} {other = other} i.is
    c.get-cond.ensures c.get-yes.ensures c.get-no.ensures c.width_of.ensures in
    let bits = c.as_slice-in-Cond in
    let read = c.in_ok-bits-in-Cond.ensures in
    let r1 = goes_on condition rest r0 bits.result.now c.lower-in-Cond.new.nodes read.nodes (bits.ensures ∙ read.edges) in
    let choice = c.in_ok-choice-in-Cond in
    let r2 = goes_on (any_bit bits.result.now) chosen r1 (choice.choice ∷ []) c.any_bit.new.nodes
    choice.ensures.nodes choice.ensures.edges in
    let first : Lowering = expression m wires taken width in
    let second : Lowering = expression m wires other width in
    let pairs : List Edge → List Edge → Lowering = all_paired (Choice choice.choice) in
    let left = c.in_ok-first-in-Cond.first in
    let one = c.in_ok-first-in-Cond.ensures in
    let r3 = goes_on first (λ left. and_then second (pairs left)) r2 left c.lower-in-Cond-2.new.nodes one.nodes (one.edges) in
    excused _ _ c.from_residual-in_err-second-in-Cond.result _ c.from_residual-in_err-second-in-Cond.ensures.1
    c.in_err-second-in-Cond.ensures.fault (is_within second (pairs left) r3)

pub lower-returns-in_err-pair_all-in-Cond-clause-fault : goal.lower-returns-in_err-pair_all-in-Cond-clause-fault
lower-returns-in_err-pair_all-in-Cond-clause-fault g t c =
    let m = g.S.Scope.module_of c.args.scope.now in
    let wires = g.S.Scope.wires c.args.scope.now in
    let start = c.args.nodes.now in
    let width = c.args.width in
    let i = c.in-Cond in
    let condition : Lowering = expression m wires c.get-cond.result.now c.width_of.result in
    let taken : Expr = c.get-yes.result.now in
    let other : Expr = c.get-no.result.now in
    let chosen : List Edge → Lowering = λ edges. branches m wires (only edges) taken other width in
    let rest : List Edge → Lowering = λ bits. and_then (any_bit bits) chosen in
    let r0 = begins_choice m wires start width {taken = taken} {other = other} i.is
    c.get-cond.ensures c.get-yes.ensures c.get-no.ensures c.width_of.ensures in
    let bits = c.as_slice-in-Cond in
    let read = c.in_ok-bits-in-Cond.ensures in
    let r1 = goes_on condition rest r0 bits.result.now c.lower-in-Cond.new.nodes read.nodes (bits.ensures ∙ read.edges) in
    let choice = c.in_ok-choice-in-Cond in
    let r2 = goes_on (any_bit bits.result.now) chosen r1 (choice.choice ∷ []) c.any_bit.new.nodes
    choice.ensures.nodes choice.ensures.edges in
    let first : Lowering = expression m wires taken width in
    let second : Lowering = expression m wires other width in
    let pairs : List Edge → List Edge → Lowering = all_paired (Choice choice.choice) in
    let left = c.as_slice-in-Cond-2.result.now in
    let one = c.in_ok-first-in-Cond.ensures in
    let r3 = goes_on first (λ left. and_then second (pairs left)) r2 left c.lower-in-Cond-2.new.nodes one.nodes
    (c.as_slice-in-Cond-2.ensures ∙ one.edges) in
    let right = c.as_slice-in-Cond-3 in
    let two = c.in_ok-second-in-Cond.ensures in
    let r4 = goes_on second (pairs left) r3 right.result.now c.lower-in-Cond-3.new.nodes two.nodes (right.ensures ∙ two.edges) in
    excused _ _ c.from_residual-in_err-pair_all-in-Cond.result _ c.from_residual-in_err-pair_all-in-Cond.ensures.1
    c.in_err-pair_all-in-Cond.ensures.fault (last_within r4)

pub lower-returns-in_ok-pair_all-in-Cond-clause-nodes : goal.lower-returns-in_ok-pair_all-in-Cond-clause-nodes
lower-returns-in_ok-pair_all-in-Cond-clause-nodes g t c =
    let m = g.S.Scope.module_of c.args.scope.now in
    let wires = g.S.Scope.wires c.args.scope.now in
    let start = c.args.nodes.now in
    let width = c.args.width in
    let i = c.in-Cond in
    let condition : Lowering = expression m wires c.get-cond.result.now c.width_of.result in
    let taken : Expr = c.get-yes.result.now in
    let other : Expr = c.get-no.result.now in
    let chosen : List Edge → Lowering = λ edges. branches m wires (only edges) taken other width in
    let rest : List Edge → Lowering = λ bits. and_then (any_bit bits) chosen in
    let r0 = begins_choice m wires start width {taken = taken} {other = other} i.is
    c.get-cond.ensures c.get-yes.ensures c.get-no.ensures c.width_of.ensures in
    let bits = c.as_slice-in-Cond in
    let read = c.in_ok-bits-in-Cond.ensures in
    let r1 = goes_on condition rest r0 bits.result.now c.lower-in-Cond.new.nodes read.nodes (bits.ensures ∙ read.edges) in
    let choice = c.in_ok-choice-in-Cond in
    let r2 = goes_on (any_bit bits.result.now) chosen r1 (choice.choice ∷ []) c.any_bit.new.nodes
    choice.ensures.nodes choice.ensures.edges in
    let first : Lowering = expression m wires taken width in
    let second : Lowering = expression m wires other width in
    let pairs : List Edge → List Edge → Lowering = all_paired (Choice choice.choice) in
    let left = c.as_slice-in-Cond-2.result.now in
    let one = c.in_ok-first-in-Cond.ensures in
    let r3 = goes_on first (λ left. and_then second (pairs left)) r2 left c.lower-in-Cond-2.new.nodes one.nodes
    (c.as_slice-in-Cond-2.ensures ∙ one.edges) in
    let right = c.as_slice-in-Cond-3 in
    let two = c.in_ok-second-in-Cond.ensures in
    let r4 = goes_on second (pairs left) r3 right.result.now c.lower-in-Cond-3.new.nodes two.nodes (right.ensures ∙ two.edges) in
    last_nodes r4 c.pair_all.new.nodes c.in_ok-pair_all-in-Cond.ensures.nodes

pub lower-returns-in_ok-pair_all-in-Cond-clause-edges : goal.lower-returns-in_ok-pair_all-in-Cond-clause-edges
lower-returns-in_ok-pair_all-in-Cond-clause-edges g t c =
    let m = g.S.Scope.module_of c.args.scope.now in
    let wires = g.S.Scope.wires c.args.scope.now in
    let start = c.args.nodes.now in
    let width = c.args.width in
    let i = c.in-Cond in
    let condition : Lowering = expression m wires c.get-cond.result.now c.width_of.result in
    let taken : Expr = c.get-yes.result.now in
    let other : Expr = c.get-no.result.now in
    let chosen : List Edge → Lowering = λ edges. branches m wires (only edges) taken other width in
    let rest : List Edge → Lowering = λ bits. and_then (any_bit bits) chosen in
    let r0 = begins_choice m wires start width {taken = taken} {other = other} i.is
    c.get-cond.ensures c.get-yes.ensures c.get-no.ensures c.width_of.ensures in
    let bits = c.as_slice-in-Cond in
    let read = c.in_ok-bits-in-Cond.ensures in
    let r1 = goes_on condition rest r0 bits.result.now c.lower-in-Cond.new.nodes read.nodes (bits.ensures ∙ read.edges) in
    let choice = c.in_ok-choice-in-Cond in
    let r2 = goes_on (any_bit bits.result.now) chosen r1 (choice.choice ∷ []) c.any_bit.new.nodes
    choice.ensures.nodes choice.ensures.edges in
    let first : Lowering = expression m wires taken width in
    let second : Lowering = expression m wires other width in
    let pairs : List Edge → List Edge → Lowering = all_paired (Choice choice.choice) in
    let left = c.as_slice-in-Cond-2.result.now in
    let one = c.in_ok-first-in-Cond.ensures in
    let r3 = goes_on first (λ left. and_then second (pairs left)) r2 left c.lower-in-Cond-2.new.nodes one.nodes
    (c.as_slice-in-Cond-2.ensures ∙ one.edges) in
    let right = c.as_slice-in-Cond-3 in
    let two = c.in_ok-second-in-Cond.ensures in
    let r4 = goes_on second (pairs left) r3 right.result.now c.lower-in-Cond-3.new.nodes two.nodes (right.ensures ∙ two.edges) in
    last_edges r4 c.in_ok-pair_all-in-Cond.field-0 c.in_ok-pair_all-in-Cond.ensures.edges

-- ---- concatenations and replications

pub lower-returns-in_err-edges-in-Join-clause-fault : goal.lower-returns-in_err-edges-in-Join-clause-fault
lower-returns-in_err-edges-in-Join-clause-fault g t c =
    let m = g.S.Scope.module_of c.args.scope.now in
    let wires = g.S.Scope.wires c.args.scope.now in
    let start = c.args.nodes.now in
    let width = c.args.width in
    let i = c.in-Join in
    let parts : Lowered = of_parts m wires c.as_slice-in-Join.result.now (next_of start) in
    let is = at_join m wires width (next_of start) i.is c.as_slice-in-Join.ensures in
    excused _ _ c.from_residual-in_err-edges-in-Join.result _ c.from_residual-in_err-edges-in-Join.ensures.1
    c.in_err-edges-in-Join.ensures.fault (parts_within (next_of start) parts (extended width parts.edges) is)

pub lower-returns-in_ok-extended-in-Join-clause-nodes : goal.lower-returns-in_ok-extended-in-Join-clause-nodes
lower-returns-in_ok-extended-in-Join-clause-nodes g t c =
    let m = g.S.Scope.module_of c.args.scope.now in
    let wires = g.S.Scope.wires c.args.scope.now in
    let start = c.args.nodes.now in
    let width = c.args.width in
    let i = c.in-Join in
    let parts : Lowered = of_parts m wires c.as_slice-in-Join.result.now (next_of start) in
    let is = at_join m wires width (next_of start) i.is c.as_slice-in-Join.ensures in
    c.in_ok-edges-in-Join.ensures.nodes ∙ ap (with_more start) (sym is)

pub lower-returns-in_ok-extended-in-Join-clause-edges : goal.lower-returns-in_ok-extended-in-Join-clause-edges
lower-returns-in_ok-extended-in-Join-clause-edges g t c =
    let m = g.S.Scope.module_of c.args.scope.now in
    let wires = g.S.Scope.wires c.args.scope.now in
    let start = c.args.nodes.now in
    let width = c.args.width in
    let i = c.in-Join in
    let parts : Lowered = of_parts m wires c.as_slice-in-Join.result.now (next_of start) in
    let is = at_join m wires width (next_of start) i.is c.as_slice-in-Join.ensures in
    c.in_ok-extended-in-Join.ensures.edges ∙ ap (extended width) c.in_ok-edges-in-Join.ensures.edges
    ∙ ap (λ (part : Lowered). part.edges) (sym is)

pub lower-returns-in_err-once-in-Repeat-clause-fault : goal.lower-returns-in_err-once-in-Repeat-clause-fault
lower-returns-in_err-once-in-Repeat-clause-fault g t c =
    let m = g.S.Scope.module_of c.args.scope.now in
    let wires = g.S.Scope.wires c.args.scope.now in
    let start = c.args.nodes.now in
    let width = c.args.width in
    let i = c.in-Repeat in
    let parts : Lowered = of_parts m wires c.as_slice-in-Repeat.result.now (next_of start) in
    let is = at_repeat m wires width (next_of start) i.is c.as_slice-in-Repeat.ensures in
    excused _ _ c.from_residual-in_err-once-in-Repeat.result _ c.from_residual-in_err-once-in-Repeat.ensures.1
    c.in_err-once-in-Repeat.ensures.fault (parts_within (next_of start) parts (extended width (repeat i.count parts.edges)) is)

pub lower-returns-in_ok-extended-in-Repeat-clause-nodes : goal.lower-returns-in_ok-extended-in-Repeat-clause-nodes
lower-returns-in_ok-extended-in-Repeat-clause-nodes g t c =
    let m = g.S.Scope.module_of c.args.scope.now in
    let wires = g.S.Scope.wires c.args.scope.now in
    let start = c.args.nodes.now in
    let width = c.args.width in
    let i = c.in-Repeat in
    let parts : Lowered = of_parts m wires c.as_slice-in-Repeat.result.now (next_of start) in
    let is = at_repeat m wires width (next_of start) i.is c.as_slice-in-Repeat.ensures in
    c.in_ok-once-in-Repeat.ensures.nodes ∙ ap (with_more start) (sym is)

pub lower-returns-in_ok-extended-in-Repeat-clause-edges : goal.lower-returns-in_ok-extended-in-Repeat-clause-edges
lower-returns-in_ok-extended-in-Repeat-clause-edges g t c =
    let m = g.S.Scope.module_of c.args.scope.now in
    let wires = g.S.Scope.wires c.args.scope.now in
    let start = c.args.nodes.now in
    let width = c.args.width in
    let i = c.in-Repeat in
    let parts : Lowered = of_parts m wires c.as_slice-in-Repeat.result.now (next_of start) in
    let is = at_repeat m wires width (next_of start) i.is c.as_slice-in-Repeat.ensures in
    let once = c.as_slice-in-Repeat-2.ensures ∙ c.in_ok-once-in-Repeat.ensures.edges in
    c.in_ok-extended-in-Repeat.ensures.edges
    ∙ ap (extended width) (c.in_ok-repeated-in-Repeat.ensures.edges ∙ ap (λ (edges : List Edge). repeat i.count edges) once)
    ∙ ap (λ (part : Lowered). part.edges) (sym is)

-- ---- parts

pub lower_parts-returns-in_err-bits-clause-fault : goal.lower_parts-returns-in_err-bits-clause-fault
unfolding of_parts
lower_parts-returns-in_err-bits-clause-fault g t c =
    let m = g.S.Scope.module_of c.args.scope.now in
    let wires = g.S.Scope.wires c.args.scope.now in
    let start = c.args.nodes.now in
    let now = c.loop-part.nodes in
    let next : ℕ = next_of now in
    let parts = c.args.parts.now in
    let place = c.loop-part.part-index in
    let left : List Expr → Lowering = highest_first m wires in
    let part : Expr = c.part-item.result in
    let own : Lowered = expression m wires part (width_of m part) next in
    let first : Lowered = expression m wires part c.width_of.result next in
    let own_is : own ≡ first = ap (λ (k : ℕ). expression m wires part k next) (sym c.width_of.ensures) in
    let turned : Lowered → Lowered = λ first. lowered first.nodes (reverse first.edges) in
    let rest : Lowered → Lowered = λ first. left (drop (place + 1) parts) (after next first) in
    let is : left (drop place parts) next ≡ continued (turned first) (rest first) =
    at_drop_more (λ parts. left parts next) parts place part (omega arith)
    ∙ ap (λ (part : Expr). left (part ∷ drop (place + 1) parts) next) (sym c.part-item.is)
    ∙ ap (λ (first : Lowered). continued (turned first) (rest first)) own_is in
    let le = within c.loop-part.edges now start (left (drop place parts)) (left parts) (turned first) (rest first) is
    c.loop-part.invariant in
    excused _ _ c.from_residual.result _ c.from_residual.ensures.1 c.in_err-bits.ensures.fault le

pub lower_parts-loop-part-preserved : goal.lower_parts-loop-part-preserved
lower_parts-loop-part-preserved g t c =
    let m = g.S.Scope.module_of c.args.scope.now in
    let wires = g.S.Scope.wires c.args.scope.now in
    let start = c.args.nodes.now in
    let now = c.loop-part.nodes in
    let next : ℕ = next_of now in
    let parts = c.args.parts.now in
    let place = c.loop-part.part-index in
    let left : List Expr → Lowering = highest_first m wires in
    let part : Expr = c.part-item.result in
    let own : Lowered = expression m wires part (width_of m part) next in
    let first : Lowered = expression m wires part c.width_of.result next in
    let own_is : own ≡ first = ap (λ (k : ℕ). expression m wires part k next) (sym c.width_of.ensures) in
    let turned : Lowered → Lowered = λ first. lowered first.nodes (reverse first.edges) in
    let rest : Lowered → Lowered = λ first. left (drop (place + 1) parts) (after next first) in
    let is : left (drop place parts) next ≡ continued (turned first) (rest first) =
    at_drop_more (λ parts. left parts next) parts place part (omega arith)
    ∙ ap (λ (part : Expr). left (part ∷ drop (place + 1) parts) next) (sym c.part-item.is)
    ∙ ap (λ (first : Lowered). continued (turned first) (rest first)) own_is in
    let bits = c.as_slice.ensures ∙ c.in_ok-bits.ensures.edges in
    let more = c.in_ok-add_reversed.ensures.edges ∙ ap (λ (edges : List Edge). c.loop-part.edges ++ reverse edges) bits in
    turn c.loop-part.edges now start (left (drop place parts)) (left parts) (left (drop (place + 1) parts)) (turned first)
    c.lower.new.nodes c.add_reversed.new.all is c.in_ok-bits.ensures.nodes more c.loop-part.invariant

pub lower_parts-returns-clause-nodes : goal.lower_parts-returns-clause-nodes
unfolding of_parts
lower_parts-returns-clause-nodes g t c =
    let m = g.S.Scope.module_of c.args.scope.now in
    let wires = g.S.Scope.wires c.args.scope.now in
    let start = c.args.nodes.now in
    let now = c.loop-part.nodes in
    let next : ℕ = next_of now in
    let parts = c.args.parts.now in
    let place = c.loop-part.part-index in
    let left : List Expr → Lowering = highest_first m wires in
    let nothing : left (drop place parts) next ≡ lowered [] [] = at_drop_all (λ parts. left parts next) parts place (omega arith) in
    end_nodes c.loop-part.edges now start (left (drop place parts)) (left parts) [] nothing c.loop-part.invariant

pub lower_parts-returns-clause-edges : goal.lower_parts-returns-clause-edges
unfolding of_parts
lower_parts-returns-clause-edges g t c =
    let m = g.S.Scope.module_of c.args.scope.now in
    let wires = g.S.Scope.wires c.args.scope.now in
    let start = c.args.nodes.now in
    let now = c.loop-part.nodes in
    let next : ℕ = next_of now in
    let parts = c.args.parts.now in
    let place = c.loop-part.part-index in
    let left : List Expr → Lowering = highest_first m wires in
    let nothing : left (drop place parts) next ≡ lowered [] [] = at_drop_all (λ parts. left parts next) parts place (omega arith) in
    c.in_ok-reversed.ensures.edges
    ∙ ap reverse (c.as_slice-2.ensures ∙ sym (append-nil c.loop-part.edges)
    ∙ end_edges c.loop-part.edges now start (left (drop place parts)) (left parts) [] nothing c.loop-part.invariant)
