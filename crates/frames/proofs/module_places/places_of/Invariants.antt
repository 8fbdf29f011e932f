use Rattle.frames.specs.Found.{HavePlaces}
use Rattle.frames.specs.Numbered.{numbered}
use Rattle.frames.proofs.module_places.places_of.Given as goal

abbrev pub invariant-loop-i : goal.invariant-loop-i
invariant-loop-i l = HavePlaces (numbered l.design l.clock) l.i l.places
