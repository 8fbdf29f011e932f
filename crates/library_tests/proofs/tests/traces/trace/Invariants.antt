use Rattle.std.proofs.Common.{◌≡◌}
use Rattle.library_tests.proofs.tests.traces.trace.Given as goal

abbrev pub invariant-loop-number : goal.invariant-loop-number
invariant-loop-number l = l.trace.width ≡ l.width
