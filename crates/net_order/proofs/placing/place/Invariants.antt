use Rattle.net_order.specs.Marks.{Grows, Marked}
use Rattle.net_order.specs.Walks.{IsWalk, size_of}
use Rattle.net_order.proofs.placing.place.Given as goal

abbrev pub invariant-loop-last : goal.invariant-loop-last
invariant-loop-last l = record {
  walk : IsWalk l.net.nodes l.walk;
  grows : Grows l.fn.walk.seen l.walk.seen;
  seen : Marked l.walk.seen l.node;
}

abbrev pub decreases-loop-last : goal.decreases-loop-last
decreases-loop-last l = size_of l.walk
