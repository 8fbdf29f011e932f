use Rattle.std.proofs.Common.{◌-◌}
use Rattle.keys.specs.Holding.{HoldsIn}
use Rattle.keys.proofs.path.path_of.Given as goal

abbrev pub invariant-loop-at : goal.invariant-loop-at
invariant-loop-at l = HoldsIn l.frames l.at l.place l.path

abbrev pub decreases-loop-at : goal.decreases-loop-at
decreases-loop-at l = l.place - l.at
