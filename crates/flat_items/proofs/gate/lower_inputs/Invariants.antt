use Rattle.std.proofs.Common.{drop}
use Rattle.flat_items.specs.Parts.{inputs_of}
use Rattle.frames.specs.Framed.{wires_of}
use Rattle.lowering.specs.Loops.{Remains}
use Rattle.flat_items.proofs.gate.lower_inputs.Given as goal

abbrev pub invariant-loop-input : goal.invariant-loop-input
invariant-loop-input l =
    Remains l.edges l.nodes l.initial.nodes (inputs_of l.frame.placing.definition (wires_of l.frame) (drop l.input-index l.ins))
    (inputs_of l.frame.placing.definition (wires_of l.frame) l.ins)
