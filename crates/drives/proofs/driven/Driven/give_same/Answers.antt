use Rattle.std.proofs.Common.{arith, refl, reverse}
use Rattle.std.proofs.lemmas.List.{length-reverse}
use Rattle.drives.proofs.EntryLemmas.{down_is, same_more}
use Rattle.drives.proofs.driven.Driven.give_same.Goals as goal

pub loop-i-preserved : goal.loop-i-preserved
loop-i-preserved c =
    same_more (reverse c.args.numbers.now) c.args.edge c.loop-i.i _ _ c.loop-i.self c.give_one.new.self _
    (omega (arith, c.loop-i-test.true, length-reverse c.args.numbers.now))
    (down_is c.args.numbers.now c.loop-i.i _ _ c.loop-i-test.true refl)
    c.give_one.ensures c.loop-i.invariant
