use Rattle.std.proofs.Common.{drop}
use Rattle.lowering.specs.Gates.{chosen_bits}
use Rattle.lowering.specs.Loops.{Remains}
use Rattle.processes.proofs.choices.choose_all.Given as goal

abbrev pub invariant-loop-i : goal.invariant-loop-i
invariant-loop-i l =
    Remains l.edges l.nodes l.initial.nodes (chosen_bits l.choice (drop l.i l.firsts) (drop l.i l.seconds)) (chosen_bits l.choice l.firsts l.seconds)
