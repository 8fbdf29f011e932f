use Rattle.lowering.specs.Expressions.{Wires}
use Rattle.processes.proofs.AddLemmas.{AddsYet}
use Rattle.processes.proofs.assigned.+assigned.Given as goal

abbrev pub invariant-add_block-loop-stmt : goal.invariant-add_block-loop-stmt
invariant-add_block-loop-stmt l = (wires : Wires) → AddsYet l.places.definition wires l.body l.stmt-index l.initial.numbers l.numbers
