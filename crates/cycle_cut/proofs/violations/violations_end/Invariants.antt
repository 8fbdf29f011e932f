use Rattle.std.proofs.Common.{◌≡◌, ℕ, ◌≤◌, Some, length, slice_get, true}
use Rattle.levelise.specs.Machine.{machine}
use Rattle.trace_rows.specs.Run.{checks}
use Rattle.cycle_cut.proofs.violations.violations_end.Given as goal

abbrev pub invariant-loop-end : goal.invariant-loop-end
invariant-loop-end l = record {
  within : l.end ≤ length l.t.rows;
  none : (cycle : ℕ) → l.end ≤ cycle → slice_get (checks (machine l.net) l.t.rows) cycle ≡ Some true → ⊥;
  work : length l.work ≡ length l.net.net.nodes;
}

abbrev pub decreases-loop-end : goal.decreases-loop-end
decreases-loop-end l = l.end
