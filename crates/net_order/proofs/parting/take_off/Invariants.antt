use Rattle.std.proofs.Common.{◌≤◌, length}
use Rattle.net_order.specs.Partings.{IsTaken}
use Rattle.net_order.proofs.parting.take_off.Given as goal

abbrev pub invariant-loop-node : goal.invariant-loop-node
invariant-loop-node l = record {
  taken : IsTaken l.answer l.fn.parts l.parts;
  within : l.place ≤ length l.parts.waiting;
}

abbrev pub decreases-loop-node : goal.decreases-loop-node
decreases-loop-node l = length l.parts.waiting
