use Rattle.std.proofs.Common.{◌≡◌, ◌<◌, ℕ, []}
use Rattle.net_order.specs.Marks.{Marked}
use Rattle.net_order.specs.Walks.{IsWalk}
use Rattle.net_order.proofs.placing.place_all.Given as goal

abbrev pub invariant-loop-node : goal.invariant-loop-node
invariant-loop-node l = record {
  walk : IsWalk l.net.nodes l.walk;
  rest : l.walk.stack ≡ [];
  all : (node : ℕ) → node < l.node → Marked l.walk.seen node;
}
