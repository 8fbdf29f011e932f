use Rattle.std.proofs.Common.{List, ap, arith, length, subst, sym}
use Rattle.flat_net.specs.declared.node.Node.{Node}
use Rattle.net_order.specs.Partings.{AreLoops, IsParting, Parting}
use Rattle.net_order.proofs.PartLemmas.{loops_are, unparted_parting}
use Rattle.net_order.proofs.parting.loops_of.Goals as goal

pub loop-node-init : goal.loop-node-init
loop-node-init c = record {
  parts =
      subst (λ walk. IsParting c.args.net.now.nodes walk) (sym c.in_ok-parts.ensures)
      (unparted_parting c.args.net.now.nodes (length c.nodes.result.now)
      (ap (λ (nodes : List Node). length nodes) c.nodes.ensures.nodes));
  rest = ap (λ (walk : Parting). walk.way) c.in_ok-parts.ensures;
  all = λ node below. absurd (omega arith);
}

pub returns : goal.returns
returns c =
    subst (λ marks. AreLoops c.args.net.now.nodes marks) (sym c.into_looped.ensures)
    (loops_are c.args.net.now.nodes c.loop-node.parts c.loop-node.invariant.parts c.loop-node.invariant.rest
    (λ node inside. c.loop-node.invariant.all node (omega (arith, inside, c.loop-node-test.false, c.count_of-node-end.ensures))))
