use Rattle.flat_net.specs.declared.node.Node.TheVariants.{Reg}
use Rattle.flatten.proofs.SourceLemmas.{one_more}
use Rattle.flatten.proofs.sources.add_registers.Goals as goal

pub loop-i-preserved : goal.loop-i-preserved
loop-i-preserved c =
    one_more Reg c.args.nodes.now c.loop-i.nodes c.push.new.self c.loop-i.i c.loop-i.invariant c.in_ok-push.ensures.ok
