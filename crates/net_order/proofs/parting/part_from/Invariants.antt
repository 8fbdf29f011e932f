use Rattle.net_order.specs.Marks.{Grows, Marked}
use Rattle.net_order.specs.Partings.{IsParting, parting_size}
use Rattle.net_order.proofs.parting.part_from.Given as goal

abbrev pub invariant-loop-place : goal.invariant-loop-place
invariant-loop-place l = record {
  parts : IsParting l.net.nodes l.parts;
  grows : Grows l.fn.parts.seen l.parts.seen;
  seen : Marked l.parts.seen l.node;
}

abbrev pub decreases-loop-place : goal.decreases-loop-place
decreases-loop-place l = parting_size l.parts
