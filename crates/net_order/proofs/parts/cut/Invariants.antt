use Rattle.std.proofs.Common.{length}
use Rattle.net_order.proofs.CutLemmas.{IsCutting}
use Rattle.net_order.proofs.parts.cut.Given as goal

abbrev pub invariant-loop-last : goal.invariant-loop-last
invariant-loop-last l = IsCutting l.place l.fn.firsts l.firsts

abbrev pub decreases-loop-last : goal.decreases-loop-last
decreases-loop-last l = length l.firsts
