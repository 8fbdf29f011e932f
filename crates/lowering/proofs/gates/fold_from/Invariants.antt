use Rattle.std.proofs.Common.{[], drop, map}
use Rattle.lowering.specs.Gates.{folded_from}
use Rattle.lowering.specs.Loops.{Remains}
use Rattle.lowering.specs.Operators.{gate_of, turned}
use Rattle.lowering.proofs.gates.fold_from.Given as goal

-- What is left is folded from the edge so far.
abbrev pub invariant-loop-bit : goal.invariant-loop-bit
invariant-loop-bit l =
    Remains [] l.nodes l.initial.nodes (folded_from (gate_of l.gate) l.so_far (map (turned l.turn) (drop l.bit-index l.bits)))
    (folded_from (gate_of l.gate) l.initial.so_far (map (turned l.turn) l.bits))
