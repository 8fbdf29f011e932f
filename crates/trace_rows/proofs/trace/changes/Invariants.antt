use Rattle.std.proofs.Common.{◌≡◌}
use Rattle.trace_rows.specs.Events.{change_count}
use Rattle.trace_rows.proofs.trace.changes.Given as goal

abbrev pub invariant-loop-b : goal.invariant-loop-b
invariant-loop-b l = l.count ≡ change_count l.before l.after l.b
