use Rattle.std.proofs.Common.{◌≡◌, ℕ, ◌<◌, Some, length, slice_get, true}
use Rattle.levelise.specs.Machine.{machine}
use Rattle.trace_rows.specs.Run.{checks}
use Rattle.cycle_cut.proofs.violations.first_violation.Given as goal

abbrev pub invariant-loop-i : goal.invariant-loop-i
invariant-loop-i l = record {
  none : (cycle : ℕ) → cycle < l.i → slice_get (checks (machine l.net) l.t.rows) cycle ≡ Some true → ⊥;
  work : length l.work ≡ length l.net.net.nodes;
}
