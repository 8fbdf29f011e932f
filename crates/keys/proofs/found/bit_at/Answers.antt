use Rattle.std.proofs.Common.{◌≤◌, ap, cond, refl, subst, ◌∙◌}
use Rattle.vlog_tree.specs.Meaning.Ranges.{span}
use Rattle.keys.specs.Kinds.{is_of}
use Rattle.keys.proofs.BitLemmas.{found_here, found_nowhere, more_walked, none_walked}
use Rattle.keys.proofs.found.bit_at.Goals as goal

pub loop-i-init : goal.loop-i-init
loop-i-init c = none_walked c.args.nets.now (is_of c.args.kind c.args.is_top c.args.clock.now c.args.nets.now) c.args.number

pub returns-then-left-width : goal.returns-then-left-width
returns-then-left-width c =
    found_here c.args.nets.now (is_of c.args.kind c.args.is_top c.args.clock.now c.args.nets.now) c.args.number c.loop-i.i c.loop-i.left
    c.loop-i.invariant c.entry_at.result.0.now c.entry_at.result.1.now c.entry_at.ensures.entry c.entry_at.ensures.value
    c.width_of-width.result
    (c.width_of-width.ensures ∙ ap (λ b. cond b (span c.entry_at.result.1.now.range) 0) c.is_of.ensures)
    c.if-left-width.true

pub loop-i-preserved : goal.loop-i-preserved
loop-i-preserved c =
    more_walked c.args.nets.now (is_of c.args.kind c.args.is_top c.args.clock.now c.args.nets.now) c.args.number c.loop-i.i c.loop-i.left
    c.loop-i.invariant c.entry_at.result.0.now c.entry_at.result.1.now c.entry_at.ensures.entry c.entry_at.ensures.value
    c.width_of-width.result
    (c.width_of-width.ensures ∙ ap (λ b. cond b (span c.entry_at.result.1.now.range) 0) c.is_of.ensures)
    c.if-left-width.false _ refl

pub returns : goal.returns
returns c =
    found_nowhere c.args.nets.now (is_of c.args.kind c.args.is_top c.args.clock.now c.args.nets.now) c.args.number c.loop-i.i c.loop-i.left
    c.loop-i.invariant (subst (λ n. n ≤ c.loop-i.i) c.len-i-end.ensures c.loop-i-test.false)
