use Rattle.net_order.proofs.OrderLemmas.{least_of, none_more}
use Rattle.net_order.proofs.StepLemmas.{loop_mark}
use Rattle.net_order.proofs.least.least_loop.Goals as goal

pub loop-node-preserved : goal.loop-node-preserved
loop-node-preserved c =
    none_more c.args.net.now.nodes c.loop-node.node c.get.result
    (loop_mark c.args.net.now.nodes _ c.in_ok-marks.ensures c.args.looped c.requires.reads c.loop-node.node c.loop-node-test.true c.get.result
    c.get.ensures)
    c.if-get.false c.loop-node.invariant

pub returns : goal.returns
returns c =
    least_of c.args.net.now.nodes c.args.looped c.requires.reads c.loop-node.node c.loop-node-test.false c.loop-node.invariant
