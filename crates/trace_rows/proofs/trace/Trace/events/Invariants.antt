use Rattle.trace_rows.proofs.EventLemmas.{Counted}
use Rattle.trace_rows.proofs.trace.Trace.events.Given as goal

abbrev pub invariant-loop-row : goal.invariant-loop-row
invariant-loop-row l = Counted l.base l.self.rows l.row-index l.before l.count
