use Rattle.std.proofs.Common.{rules, drop, ap, sym, ◌∙◌, ◌≡◌}
use Rattle.std.proofs.lemmas.List.{drop_all}
use Rattle.std.specs.Prelude.{[], ◌∷◌, map, max, ◌*◌}
use Rattle.vlog_tree.specs.Meaning.Widths.{binary_width, unary_width}
use Rattle.width_rules.specs.Capped.{bit_shape, capped, number_shape, part_shape, row_of, whole_shape}
use Rattle.width_rules.specs.Widths.{Shape, expr_shape, judged, together, widths_of}
use Rattle.width_rules.proofs.FormLemmas as form
use Rattle.width_rules.proofs.RowLemmas.{row_ends}
use Rattle.width_rules.proofs.ShapeLemmas.{judged_noted, noted_as, three_noted, three_whole, times_whole, two_noted, two_whole}
use Rattle.width_rules.proofs.inside.+exprs.Goals as goal

pub note_expr-returns-in-Number-clause-shape : goal.note_expr-returns-in-Number-clause-shape
note_expr-returns-in-Number-clause-shape t c =
    let i = c.in-Number in
    c.note_number.ensures.shape ∙ ap capped (sym (form.number c.args.nets.now c.args.expr.now i.at i.bits i.is))

pub note_expr-returns-in-Number-clause-failures : goal.note_expr-returns-in-Number-clause-failures
note_expr-returns-in-Number-clause-failures t c =
    let m = c.args.nets.now in
    let e = c.args.expr.now in
    let i = c.in-Number in
    noted_as (expr_shape m e) (number_shape m i.at i.bits) c.args.found.now c.note_number.new.found
    (form.number m e i.at i.bits i.is) c.note_number.ensures.failures

pub note_expr-returns-in-Whole-clause-shape : goal.note_expr-returns-in-Whole-clause-shape
note_expr-returns-in-Whole-clause-shape t c =
    let i = c.in-Whole in
    c.note_whole.ensures.shape ∙ ap capped (sym (form.whole c.args.nets.now c.args.expr.now i.at i.name i.is))

pub note_expr-returns-in-Whole-clause-failures : goal.note_expr-returns-in-Whole-clause-failures
note_expr-returns-in-Whole-clause-failures t c =
    let m = c.args.nets.now in
    let e = c.args.expr.now in
    let i = c.in-Whole in
    noted_as (expr_shape m e) (whole_shape m i.at i.name) c.args.found.now c.note_whole.new.found
    (form.whole m e i.at i.name i.is) c.note_whole.ensures.failures

pub note_expr-returns-in-Bit-clause-failures : goal.note_expr-returns-in-Bit-clause-failures
note_expr-returns-in-Bit-clause-failures t c =
    let m = c.args.nets.now in
    let e = c.args.expr.now in
    let i = c.in-Bit in
    noted_as (expr_shape m e) (bit_shape m i.at i.name i.index) c.args.found.now c.note_bit.new.found
    (form.bit m e i.at i.name i.index i.is) c.note_bit.ensures.failures

pub note_expr-returns-in-Part-clause-failures : goal.note_expr-returns-in-Part-clause-failures
note_expr-returns-in-Part-clause-failures t c =
    let m = c.args.nets.now in
    let e = c.args.expr.now in
    let i = c.in-Part in
    noted_as (expr_shape m e) (part_shape m i.at i.name i.range) c.args.found.now c.note_part.new.found
    (form.part m e i.at i.name i.range i.is) c.note_part.ensures.failures

pub note_expr-returns-in-Unary-clause-failures : goal.note_expr-returns-in-Unary-clause-failures
note_expr-returns-in-Unary-clause-failures t c =
    let m = c.args.nets.now in
    let e = c.args.expr.now in
    let i = c.in-Unary in
    let inside = expr_shape m i.arg in
    let whole : Shape = record inside { width = unary_width i.op inside.width } in
    let kept : c.with_width.result ≡ capped whole = search rules in
    noted_as (expr_shape m e) (judged m whole) c.args.found.now c.judged.new.found
    (form.unary m e i.op i.arg i.is)
    (judged_noted m whole c.with_width.result c.args.found.now c.note_expr-arg.new.found c.judged.new.found kept (search rules) c.judged.ensures.failures)

pub note_expr-returns-in-Binary-clause-failures : goal.note_expr-returns-in-Binary-clause-failures
note_expr-returns-in-Binary-clause-failures t c =
    let m = c.args.nets.now in
    let e = c.args.expr.now in
    let i = c.in-Binary in
    let first = expr_shape m i.left in
    let second = expr_shape m i.right in
    let whole : Shape = together (first ∷ second ∷ []) (binary_width i.op first.width second.width) in
    let kept : c.with_width-in-Binary.result ≡ capped whole =
    two_whole i.op first second c.note_expr-left.result c.note_expr-right.result c.beside.result c.with_width-in-Binary.result c.binary_width-width.result
    (search rules) (search rules) (search rules) (search rules) (search rules) in
    noted_as (expr_shape m e) (judged m whole) c.args.found.now c.judged-in-Binary.new.found
    (form.binary m e i.op i.left i.right i.is)
    (judged_noted m whole c.with_width-in-Binary.result c.args.found.now c.note_expr-right.new.found c.judged-in-Binary.new.found kept
    (two_noted first second c.args.found.now c.note_expr-left.new.found c.note_expr-right.new.found (search rules) (search rules))
    c.judged-in-Binary.ensures.failures)

pub note_expr-returns-in-Cond-clause-failures : goal.note_expr-returns-in-Cond-clause-failures
note_expr-returns-in-Cond-clause-failures t c =
    let m = c.args.nets.now in
    let e = c.args.expr.now in
    let i = c.in-Cond in
    let condition = expr_shape m i.cond in
    let first = expr_shape m i.yes in
    let second = expr_shape m i.no in
    let whole : Shape = together (condition ∷ first ∷ second ∷ []) (max first.width second.width) in
    let kept : c.with_width-in-Cond.result ≡ capped whole =
    three_whole condition first second c.note_expr-condition.result c.note_expr-first.result c.note_expr-second.result c.beside-in-Cond.result c.beside-in-Cond-2.result c.with_width-in-Cond.result c.max.result
    (search rules) (search rules) (search rules) (search rules) (search rules) (search rules) (search rules) in
    noted_as (expr_shape m e) (judged m whole) c.args.found.now c.judged-in-Cond.new.found
    (form.choice m e i.cond i.yes i.no i.is)
    (judged_noted m whole c.with_width-in-Cond.result c.args.found.now c.note_expr-second.new.found c.judged-in-Cond.new.found kept
    (three_noted condition first second c.args.found.now c.note_expr-condition.new.found c.note_expr-first.new.found c.note_expr-second.new.found
    (search rules) (search rules) (search rules))
    c.judged-in-Cond.ensures.failures)

pub note_expr-returns-in-Join-clause-failures : goal.note_expr-returns-in-Join-clause-failures
note_expr-returns-in-Join-clause-failures t c =
    let m = c.args.nets.now in
    let e = c.args.expr.now in
    let i = c.in-Join in
    let whole : Shape = row_of (map (expr_shape m) i.parts) in
    noted_as (expr_shape m e) (judged m whole) c.args.found.now c.judged-in-Join.new.found
    (form.join m e i.parts i.is)
    (judged_noted m whole c.note_exprs.result c.args.found.now c.note_exprs.new.found c.judged-in-Join.new.found
    (search rules) (search rules) c.judged-in-Join.ensures.failures)

pub note_expr-returns-in-Repeat-clause-shape : goal.note_expr-returns-in-Repeat-clause-shape
note_expr-returns-in-Repeat-clause-shape t c =
    let m = c.args.nets.now in
    let i = c.in-Repeat in
    let shapes = map (expr_shape m) i.parts in
    c.judged-in-Repeat.ensures.same
    ∙ (times_whole i.count shapes c.note_exprs-in-Repeat.result c.repeated.result (search rules) (search rules)
    ∙ ap capped (sym (form.repeat m c.args.expr.now i.count i.parts i.is)))

pub note_expr-returns-in-Repeat-clause-failures : goal.note_expr-returns-in-Repeat-clause-failures
note_expr-returns-in-Repeat-clause-failures t c =
    let m = c.args.nets.now in
    let e = c.args.expr.now in
    let i = c.in-Repeat in
    let shapes = map (expr_shape m) i.parts in
    let whole : Shape = together shapes (i.count * widths_of shapes) in
    noted_as (expr_shape m e) (judged m whole) c.args.found.now c.judged-in-Repeat.new.found
    (form.repeat m e i.count i.parts i.is)
    (judged_noted m whole c.repeated.result c.args.found.now c.note_exprs-in-Repeat.new.found c.judged-in-Repeat.new.found
    (times_whole i.count shapes c.note_exprs-in-Repeat.result c.repeated.result (search rules) (search rules))
    (search rules) c.judged-in-Repeat.ensures.failures)

pub note_exprs-returns-clause-shape : goal.note_exprs-returns-clause-shape
note_exprs-returns-clause-shape t c =
    let parts = c.args.parts.now in
    row_ends (expr_shape c.args.nets.now) parts (drop c.loop-part.part-index parts) c.loop-part.row c.unwrap_or.result
    (search rules) (drop_all c.loop-part.part-index parts (search rules)) c.loop-part.invariant.row
