use Rattle.std.proofs.Common.{ap, sym, ◌∙◌}
use Rattle.std.specs.List.{list_all}
use Rattle.std.specs.Prelude.{is_some}
use Rattle.vlog_tree.specs.Meaning.Lefts.{target_bits}
use Rattle.target_rules.proofs.TargetLemmas.{one_fails, one_more, target_join}
use Rattle.target_rules.proofs.assignable.+assignable.Goals as goal

pub are_assignable-returns-then-not-is_assignable : goal.are_assignable-returns-then-not-is_assignable
are_assignable-returns-then-not-is_assignable t c = λ m.
    one_fails (λ part. is_some (target_bits m part)) c.args.parts.now c.loop-part.part-index c.part-item.result
    c.loop-part-test.true c.part-item.is (c.loop-part.invariant m) (let is = c.is_assignable.ensures m in let not = c.if-not-is_assignable.true in cc)

pub are_assignable-loop-part-preserved : goal.are_assignable-loop-part-preserved
are_assignable-loop-part-preserved t c = λ m.
    one_more (λ part. is_some (target_bits m part)) c.args.parts.now c.loop-part.part-index c.part-item.result
    c.loop-part-test.true c.part-item.is (c.loop-part.invariant m) (let is = c.is_assignable.ensures m in let not = c.if-not-is_assignable.false in cc)

pub is_assignable-returns-in-Join : goal.is_assignable-returns-in-Join
is_assignable-returns-in-Join t c = λ m.
    c.are_assignable.ensures m
    ∙ (ap (list_all (λ part. is_some (target_bits m part))) c.as_slice.ensures
    ∙ (sym (target_join m c.in-Join.parts) ∙ ap (λ e. is_some (target_bits m e)) (sym c.in-Join.is)))
