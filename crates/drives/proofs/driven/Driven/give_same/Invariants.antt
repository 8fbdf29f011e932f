use Rattle.std.proofs.Common.{◌≡◌, reverse}
use Rattle.drives.proofs.EntryLemmas.{same_left}
use Rattle.drives.proofs.driven.Driven.give_same.Given as goal

abbrev pub invariant-loop-i : goal.invariant-loop-i
invariant-loop-i l = same_left (reverse l.numbers) l.edge l.i l.self ≡ same_left (reverse l.numbers) l.edge 0 l.initial.self
