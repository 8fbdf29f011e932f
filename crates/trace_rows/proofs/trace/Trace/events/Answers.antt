use Rattle.std.proofs.Common.{length, arith}
use Rattle.trace_rows.proofs.EventLemmas.{Counted-more, Counted-fits, event_count-is, change_count-le}
use Rattle.trace_rows.proofs.trace.Trace.events.Goals as goal

pub overflow_add-count : goal.overflow_add-count
overflow_add-count c =
    grind (arith, Counted-fits c.args.base.now c.args.self.now.rows c.loop-row.row-index c.loop-row.before.now c.loop-row.count c.changes-count.result c.loop-row.invariant, change_count-le c.loop-row.before.now c.row-item.result (length c.loop-row.before.now))

pub loop-row-preserved : goal.loop-row-preserved
loop-row-preserved c =
    grind (arith, Counted-more c.args.base.now c.args.self.now.rows c.loop-row.row-index c.loop-row.before.now c.row-item.result c.loop-row.count c.loop-row.invariant)

pub returns : goal.returns
returns c = grind (arith, event_count-is, c.loop-row.invariant.counted)
