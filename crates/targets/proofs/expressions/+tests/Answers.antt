use Rattle.std.proofs.Common.{ap, is_some, map, sym, ◌∙◌}
use Rattle.std.proofs.Math.ListN.{drop_of_length-le}
use Rattle.vlog_tree.specs.Meaning.Lefts.{target_bits}
use Rattle.vlog_tree.specs.Meaning.Widths.{all_of}
use Rattle.targets.proofs.TargetLemmas.{join_some, part_fails, part_passes}
use Rattle.targets.proofs.expressions.+tests.Goals as goal

pub is_target-returns-in-Join : goal.is_target-returns-in-Join
is_target-returns-in-Join t c m =
    c.are_targets.ensures m
    ∙ ap (λ parts. is_some (all_of (map (target_bits m) parts))) c.as_slice.ensures
    ∙ join_some m c.args.expr.now c.in-Join.parts c.in-Join.is

pub are_targets-returns-then-not-is_target : goal.are_targets-returns-then-not-is_target
are_targets-returns-then-not-is_target t c m =
    part_fails m c.args.parts.now c.loop-part.part-index c.part-item.result c.loop-part-test.true _
    (sym c.if-not-is_target.true ∙ c.is_target.ensures m ∙ ap (λ part. is_some (target_bits m part)) c.part-item.is) (c.loop-part.invariant m)

pub are_targets-loop-part-preserved : goal.are_targets-loop-part-preserved
are_targets-loop-part-preserved t c m =
    part_passes m c.args.parts.now c.loop-part.part-index c.part-item.result c.loop-part-test.true _
    (sym c.if-not-is_target.false ∙ c.is_target.ensures m ∙ ap (λ part. is_some (target_bits m part)) c.part-item.is) (c.loop-part.invariant m)

pub are_targets-returns : goal.are_targets-returns
are_targets-returns t c m =
    sym (ap (λ parts. is_some (all_of (map (target_bits m) parts))) (drop_of_length-le c.args.parts.now c.loop-part-test.false))
    ∙ c.loop-part.invariant m
