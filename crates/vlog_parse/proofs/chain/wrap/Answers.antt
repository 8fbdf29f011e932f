use Rattle.std.proofs.Common.{◌∙◌}
use Rattle.vlog_parse.proofs.ChainLoops.{wrap_turn}
use Rattle.vlog_parse.proofs.chain.wrap.Goals as goal

pub loop-op-preserved : goal.loop-op-preserved
loop-op-preserved c = c.loop-op.invariant ∙ wrap_turn c.loop-op.ops c.pop.new.self c.in-Some.op c.loop-op.whole c.in_ok-new.field-0 c.in-Some.ensures c.in_ok-new.ensures
