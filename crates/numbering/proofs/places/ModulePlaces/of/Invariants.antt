use Rattle.std.specs.Option.{option_copied}
use Rattle.numbering.specs.Places.{placing}
use Rattle.numbering.proofs.PlacedLemmas.{SoFar}
use Rattle.numbering.proofs.places.ModulePlaces.of.Given as goal

abbrev pub invariant-loop-i : goal.invariant-loop-i
invariant-loop-i l = SoFar (placing l.nets (option_copied l.clock)) l.i l.places l.counts
