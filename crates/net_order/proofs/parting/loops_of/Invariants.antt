use Rattle.std.proofs.Common.{◌≡◌, ◌<◌, ℕ, []}
use Rattle.net_order.specs.Marks.{Marked}
use Rattle.net_order.specs.Partings.{IsParting}
use Rattle.net_order.proofs.parting.loops_of.Given as goal

abbrev pub invariant-loop-node : goal.invariant-loop-node
invariant-loop-node l = record {
  parts : IsParting l.net.nodes l.parts;
  rest : l.parts.way ≡ [];
  all : (node : ℕ) → node < l.node → Marked l.parts.seen node;
}
