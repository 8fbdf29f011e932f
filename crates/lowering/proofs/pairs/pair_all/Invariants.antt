use Rattle.std.proofs.Common.{drop}
use Rattle.lowering.specs.Loops.{Remains}
use Rattle.lowering.specs.Operators.{all_paired}
use Rattle.lowering.proofs.pairs.pair_all.Given as goal

abbrev pub invariant-loop-i : goal.invariant-loop-i
invariant-loop-i l =
    Remains l.edges l.nodes l.initial.nodes (all_paired l.pairing (drop l.i l.left) (drop l.i l.right))
    (all_paired l.pairing l.left l.right)
