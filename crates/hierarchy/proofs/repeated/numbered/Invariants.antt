use Rattle.hierarchy.specs.Places.{place_in}
use Rattle.hierarchy.proofs.PlaceLemmas.{Numbered}
use Rattle.hierarchy.proofs.repeated.numbered.Given as goal

abbrev pub invariant-loop-place : goal.invariant-loop-place
invariant-loop-place l = Numbered l.modules l.place (place_in l.places) l.repeated
