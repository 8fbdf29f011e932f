use Rattle.std.proofs.Common.{◌≡◌, length}
use Rattle.library_tests.proofs.tests.traces.row.Given as goal

abbrev pub invariant-loop-b : goal.invariant-loop-b
invariant-loop-b l = length l.row ≡ l.width
