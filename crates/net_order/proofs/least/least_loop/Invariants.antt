use Rattle.std.proofs.Common.{ℕ, ◌<◌}
use Rattle.net_loops.specs.Loops.{ReadsItself}
use Rattle.net_order.proofs.least.least_loop.Given as goal

abbrev pub invariant-loop-node : goal.invariant-loop-node
invariant-loop-node l = (other : ℕ) → other < l.node → ReadsItself l.net.nodes other → ⊥
