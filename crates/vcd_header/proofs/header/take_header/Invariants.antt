use Rattle.std.proofs.Common.{length}
use Rattle.vcd_header.proofs.HeaderSteps.{HasDone}
use Rattle.vcd_header.proofs.header.take_header.Given as goal

abbrev pub invariant-loop-first : goal.invariant-loop-first
invariant-loop-first l = HasDone l.fn.tokens l.tokens l.declarations

abbrev pub decreases-loop-first : goal.decreases-loop-first
decreases-loop-first l = length l.tokens
