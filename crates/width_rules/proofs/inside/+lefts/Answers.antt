use Rattle.std.proofs.Common.{rules, ap, drop, sym, ◌∙◌}
use Rattle.std.proofs.lemmas.List.{drop_all}
use Rattle.std.specs.Prelude.{map}
use Rattle.width_rules.specs.Capped.{bit_shape, capped, part_shape, row_of, whole_shape}
use Rattle.width_rules.specs.Widths.{Shape, judged, left_shape}
use Rattle.width_rules.proofs.FormLemmas as form
use Rattle.width_rules.proofs.RowLemmas.{row_ends}
use Rattle.width_rules.proofs.ShapeLemmas.{judged_noted, noted_as}
use Rattle.width_rules.proofs.inside.+lefts.Goals as goal

pub note_left-returns-in-Whole-clause-shape : goal.note_left-returns-in-Whole-clause-shape
note_left-returns-in-Whole-clause-shape t c =
    let i = c.in-Whole in
    c.note_whole.ensures.shape ∙ ap capped (sym (form.left_whole c.args.nets.now c.args.left.now i.at i.name i.is))

pub note_left-returns-in-Whole-clause-failures : goal.note_left-returns-in-Whole-clause-failures
note_left-returns-in-Whole-clause-failures t c =
    let m = c.args.nets.now in
    let side = c.args.left.now in
    let i = c.in-Whole in
    noted_as (left_shape m side) (whole_shape m i.at i.name) c.args.found.now c.note_whole.new.found
    (form.left_whole m side i.at i.name i.is) c.note_whole.ensures.failures

pub note_left-returns-in-Bit-clause-failures : goal.note_left-returns-in-Bit-clause-failures
note_left-returns-in-Bit-clause-failures t c =
    let m = c.args.nets.now in
    let side = c.args.left.now in
    let i = c.in-Bit in
    noted_as (left_shape m side) (bit_shape m i.at i.name i.index) c.args.found.now c.note_bit.new.found
    (form.left_bit m side i.at i.name i.index i.is) c.note_bit.ensures.failures

pub note_left-returns-in-Part-clause-failures : goal.note_left-returns-in-Part-clause-failures
note_left-returns-in-Part-clause-failures t c =
    let m = c.args.nets.now in
    let side = c.args.left.now in
    let i = c.in-Part in
    noted_as (left_shape m side) (part_shape m i.at i.name i.range) c.args.found.now c.note_part.new.found
    (form.left_part m side i.at i.name i.range i.is) c.note_part.ensures.failures

pub note_left-returns-in-Join-clause-failures : goal.note_left-returns-in-Join-clause-failures
note_left-returns-in-Join-clause-failures t c =
    let m = c.args.nets.now in
    let side = c.args.left.now in
    let i = c.in-Join in
    let whole : Shape = row_of (map (left_shape m) i.parts) in
    noted_as (left_shape m side) (judged m whole) c.args.found.now c.judged.new.found
    (form.left_join m side i.parts i.is)
    (judged_noted m whole c.note_lefts.result c.args.found.now c.note_lefts.new.found c.judged.new.found
    (search rules) (search rules) c.judged.ensures.failures)

pub note_lefts-returns-clause-shape : goal.note_lefts-returns-clause-shape
note_lefts-returns-clause-shape t c =
    let parts = c.args.parts.now in
    row_ends (left_shape c.args.nets.now) parts (drop c.loop-part.part-index parts) c.loop-part.row c.unwrap_or.result
    (search rules) (drop_all c.loop-part.part-index parts (search rules)) c.loop-part.invariant.row
