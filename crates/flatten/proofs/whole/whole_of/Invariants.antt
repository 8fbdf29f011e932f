use Rattle.frames.specs.Numbered.{setting_with}
use Rattle.flatten.proofs.GatheredLemmas.{SoFar}
use Rattle.flatten.proofs.whole.whole_of.Given as goal

abbrev pub invariant-loop-place : goal.invariant-loop-place
invariant-loop-place l = SoFar (setting_with l.frames) l.place l.nodes l.driven l.next
