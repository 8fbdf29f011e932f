use Rattle.std.proofs.Common.{◌≡◌, take}
use Rattle.trace_rows.specs.Cut.{cut}
use Rattle.trace_rows.proofs.trace.Trace.cut_copy.Given as goal

abbrev pub invariant-loop-t : goal.invariant-loop-t
invariant-loop-t l = l.copy ≡ record { width = l.self.width; rows = cut (take l.t l.self.rows) l.i }
