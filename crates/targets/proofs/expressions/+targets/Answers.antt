use Rattle.std.proofs.Common.{[], ◌++◌, ap, flat_map, is_some, map, sym, unwrap_or, ◌∙◌}
use Rattle.std.proofs.lemmas.Result.{on_ok_weaker}
use Rattle.targets.specs.Numbers.{assigned_bits, numbers_down}
use Rattle.vlog_tree.specs.Meaning.Lefts.{some_bits, target_bits}
use Rattle.vlog_tree.specs.Meaning.Ranges.{bit_with, part_bits, whole_bits}
use Rattle.vlog_tree.specs.Meaning.Widths.{all_of}
use Rattle.targets.proofs.NumberLemmas.{beside_down, list_more}
use Rattle.targets.proofs.TargetLemmas.{join_all, join_is, part_some, target_bit, target_part, target_whole}
use Rattle.targets.proofs.expressions.+targets.Goals as goal

pub add_target-returns-in-Whole : goal.add_target-returns-in-Whole
add_target-returns-in-Whole g t c =
    let m = g.N.Numbers.module_of c.args.numbers.now in
    let down = numbers_down (g.N.Numbers.number_of c.args.numbers.now) in
    let i = c.in-Whole in
    on_ok_weaker c.add_run.result (λ added _. added ∙ ap (λ more. c.args.list.now ++ more) (ap (λ bits. down (some_bits bits)) (c.whole.ensures.bits ∙ ap (λ m. whole_bits m i.name) c.nets.ensures)
    ∙ sym (ap (λ bits. down (unwrap_or bits [])) (target_whole m c.args.expr.now i.at i.name i.is))))
    c.add_run.ensures

pub add_target-returns-in-Bit : goal.add_target-returns-in-Bit
add_target-returns-in-Bit g t c =
    let m = g.N.Numbers.module_of c.args.numbers.now in
    let down = numbers_down (g.N.Numbers.number_of c.args.numbers.now) in
    let i = c.in-Bit in
    on_ok_weaker c.add_run-in-Bit.result (λ added _. added ∙ ap (λ more. c.args.list.now ++ more) (ap (λ bits. down (some_bits bits)) (c.bit.ensures.bits ∙ ap (λ m. bit_with m i.name i.index) c.nets-in-Bit.ensures)
    ∙ sym (ap (λ bits. down (unwrap_or bits [])) (target_bit m c.args.expr.now i.at i.name i.index i.is))))
    c.add_run-in-Bit.ensures

pub add_target-returns-in-Part : goal.add_target-returns-in-Part
add_target-returns-in-Part g t c =
    let m = g.N.Numbers.module_of c.args.numbers.now in
    let down = numbers_down (g.N.Numbers.number_of c.args.numbers.now) in
    let i = c.in-Part in
    on_ok_weaker c.add_run-in-Part.result (λ added _. added ∙ ap (λ more. c.args.list.now ++ more) (ap (λ bits. down (some_bits bits)) (c.part.ensures.bits ∙ ap (λ m. part_bits m i.name i.range) c.nets-in-Part.ensures)
    ∙ sym (ap (λ bits. down (unwrap_or bits [])) (target_part m c.args.expr.now i.at i.name i.range i.is))))
    c.add_run-in-Part.ensures

pub add_target-returns-in-Join : goal.add_target-returns-in-Join
add_target-returns-in-Join g t c =
    let m = g.N.Numbers.module_of c.args.numbers.now in
    let number = g.N.Numbers.number_of c.args.numbers.now in
    on_ok_weaker c.add_targets.result (λ added some.
    added (ap (λ parts. is_some (all_of (map (target_bits m) parts))) c.as_slice.ensures
    ∙ join_all m c.args.expr.now some c.in-Join.parts c.in-Join.is)
    ∙ ap (λ more. c.args.list.now ++ more)
    (ap (flat_map (λ part. numbers_down number (assigned_bits m part))) c.as_slice.ensures
    ∙ sym (ap (numbers_down number) (join_is m c.args.expr.now some c.in-Join.parts c.in-Join.is)
    ∙ beside_down number (assigned_bits m) c.in-Join.parts)))
    c.add_targets.ensures

pub add_targets-loop-part-preserved : goal.add_targets-loop-part-preserved
add_targets-loop-part-preserved g t c some =
    let m = g.N.Numbers.module_of c.args.numbers.now in
    let number = g.N.Numbers.number_of c.args.numbers.now in
    list_more number (assigned_bits m) c.args.parts.now c.loop-part.part-index c.part-item.result c.part-item.result
    c.loop-part.list c.add_target.new.list _ c.loop-part-test.true c.part-item.is
    (c.in_ok-add_target.ensures
    (ap (λ part. is_some (target_bits m part)) c.part-item.is
    ∙ part_some m c.args.parts.now c.loop-part.part-index c.part-item.result c.loop-part-test.true some)) (c.loop-part.invariant some)
