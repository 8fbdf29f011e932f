use Rattle.std.proofs.Common.{◌≡◌, reverse}
use Rattle.drives.proofs.EntryLemmas.{left}
use Rattle.drives.proofs.driven.Driven.give_down.Given as goal

abbrev pub invariant-loop-i : goal.invariant-loop-i
invariant-loop-i l = left (reverse l.numbers) l.edges l.i l.self ≡ left (reverse l.numbers) l.edges 0 l.initial.self
