use Rattle.std.proofs.Common.{refl}
use Rattle.processes.proofs.WriteLemmas.{down_more}
use Rattle.processes.proofs.writing.write_down.Goals as goal

pub loop-i-preserved : goal.loop-i-preserved
loop-i-preserved c =
    down_more c.args.edges.now c.args.numbers.now c.loop-i.i _ _ c.edge_at.result c.loop-i.current c.put.new.current _ c.loop-i-test.true refl
    c.edge_at.ensures c.put.ensures c.loop-i.invariant
