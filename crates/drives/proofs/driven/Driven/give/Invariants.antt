use Rattle.std.proofs.Common.{◌≡◌}
use Rattle.drives.proofs.EntryLemmas.{left}
use Rattle.drives.proofs.driven.Driven.give.Given as goal

abbrev pub invariant-loop-i : goal.invariant-loop-i
invariant-loop-i l = left l.numbers l.edges l.i l.self ≡ left l.numbers l.edges 0 l.initial.self
