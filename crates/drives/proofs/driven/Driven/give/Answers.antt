use Rattle.std.proofs.Common.{arith, length}
use Rattle.drives.proofs.EntryLemmas.{left_none, one_past}
use Rattle.drives.proofs.driven.Driven.give.Goals as goal

pub returns : goal.returns
returns c =
    left_none c.args.numbers.now c.args.edges.now c.loop-i.i c.loop-i.self _
    (one_past (length c.args.numbers.now) (length c.args.edges.now) c.loop-i.i
    (omega (arith, c.min-i-end.ensures, c.loop-i-test.false))) c.loop-i.invariant
