use Rattle.std.proofs.Common.{arith}
use Rattle.trace_rows.proofs.EventLemmas.{change_count-le, change_count-more, differs_at-is}
use Rattle.trace_rows.proofs.trace.changes.Goals as goal
use Rattle.trace_rows.proofs.trace.changes.Goals.{then-get, else-get}

pub overflow_add-count : goal.overflow_add-count
overflow_add-count c = grind (arith, change_count-le c.args.before.now c.args.after.now c.loop-b.b)

pub loop-b-preserved : goal.loop-b-preserved
loop-b-preserved c =
    let more = change_count-more c.args.before.now c.args.after.now c.loop-b.b in
    let differs = differs_at-is c.args.before.now c.args.after.now c.loop-b.b c.get.result c.get-in-loop-b.result c.get.ensures c.get-in-loop-b.ensures in
    grind (arith, more, differs)
