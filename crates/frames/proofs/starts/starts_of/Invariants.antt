use Rattle.frames.proofs.StartLemmas.{StartTo}
use Rattle.frames.proofs.starts.starts_of.Given as goal

abbrev pub invariant-loop-i : goal.invariant-loop-i
invariant-loop-i l = StartTo l.ground l.inputs l.i l.list l.end
