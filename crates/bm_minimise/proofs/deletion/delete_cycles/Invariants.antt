use Rattle.std.proofs.Common.{◌≡◌, ◌⊎◌, ◌<◌, length}
use Rattle.levelise.specs.Machine.{machine}
use Rattle.trace_rows.specs.Run.{IsFirstAtLast}
use Rattle.bm_minimise.proofs.deletion.delete_cycles.Given as goal

abbrev pub invariant-loop-trace : goal.invariant-loop-trace
invariant-loop-trace l = record {
  width : l.trace.width ≡ l.initial.trace.width;
  first : IsFirstAtLast (machine l.net) l.trace.rows;
  kept : (l.trace.rows ≡ l.initial.trace.rows) ⊎ (length l.trace.rows < length l.initial.trace.rows);
}

abbrev pub decreases-loop-trace : goal.decreases-loop-trace
decreases-loop-trace l = length l.trace.rows
