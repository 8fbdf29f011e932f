use Rattle.std.proofs.Common.{◌≡◌, ◌-◌, length}
use Rattle.lowering.specs.Lowered.{extended}
use Rattle.flat_items.proofs.ports.extended.Given as goal

abbrev pub invariant-loop-all : goal.invariant-loop-all
invariant-loop-all l = extended l.width l.all ≡ extended l.width l.initial.all

abbrev pub decreases-loop-all : goal.decreases-loop-all
decreases-loop-all l = l.width - length l.all
