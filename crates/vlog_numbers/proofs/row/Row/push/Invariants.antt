-- The lowest bits of the value were filled in.
use Rattle.std.proofs.Common.{ℕ, Bool, List, ◌++◌}
use Rattle.vlog_tree.specs.Spelling.Numbers.{bits_of}
use Rattle.vlog_numbers.specs.Fill.{Holds}
use Rattle.vlog_numbers.proofs.row.Row.push.Given as goal

abbrev pub invariant-loop-i : goal.invariant-loop-i
invariant-loop-i l = (width : ℕ) (given : List Bool) → Holds width l.initial.self given → Holds width l.self (given ++ bits_of l.i l.value)
