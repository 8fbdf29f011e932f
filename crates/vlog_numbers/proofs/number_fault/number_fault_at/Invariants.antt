use Rattle.std.proofs.Common.{◌≡◌, length}
use Rattle.vlog_tokens.specs.Toks.{toks}
use Rattle.vlog_numbers.specs.NumberFaults.{number_fault_after, number_fault_at}
use Rattle.vlog_numbers.proofs.number_fault.number_fault_at.Given as goal

abbrev pub invariant-loop-rest : goal.invariant-loop-rest
invariant-loop-rest l = number_fault_at (toks l.fn.tokens) ≡ number_fault_after l.before (toks l.rest)

abbrev pub decreases-loop-rest : goal.decreases-loop-rest
decreases-loop-rest l = length l.rest
