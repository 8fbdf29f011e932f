use Rattle.std.proofs.Common.{arith, length, refl, reverse}
use Rattle.std.proofs.lemmas.List.{length-reverse}
use Rattle.drives.proofs.EntryLemmas.{down_is, left_more, left_none, one_past}
use Rattle.drives.proofs.driven.Driven.give_down.Goals as goal

pub loop-i-preserved : goal.loop-i-preserved
loop-i-preserved c =
    left_more (reverse c.args.numbers.now) c.args.edges.now c.loop-i.i _ _ _ _ c.loop-i.self c.give_one.new.self _
    (omega (arith, c.min-i-end.ensures, c.loop-i-test.true, length-reverse c.args.numbers.now))
    (omega (arith, c.min-i-end.ensures, c.loop-i-test.true))
    (down_is c.args.numbers.now c.loop-i.i _ _ (omega (arith, c.min-i-end.ensures, c.loop-i-test.true)) refl) refl
    c.give_one.ensures c.loop-i.invariant

pub returns : goal.returns
returns c =
    left_none (reverse c.args.numbers.now) c.args.edges.now c.loop-i.i c.loop-i.self _
    (one_past (length (reverse c.args.numbers.now)) (length c.args.edges.now) c.loop-i.i
    (omega (arith, c.min-i-end.ensures, c.loop-i-test.false, length-reverse c.args.numbers.now))) c.loop-i.invariant
