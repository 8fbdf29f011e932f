use Rattle.std.proofs.Common.{drop}
use Rattle.lowering.specs.Forms.{highest_first}
use Rattle.lowering.specs.Loops.{Remains}
use Rattle.lowering.proofs.expressions.+expressions.Given as goal

abbrev pub invariant-lower_parts-loop-part : goal.invariant-lower_parts-loop-part
invariant-lower_parts-loop-part g l =
    let parts = highest_first (g.S.Scope.module_of l.scope) (g.S.Scope.wires l.scope) in
    Remains l.edges l.nodes l.initial.nodes (parts (drop l.part-index l.parts)) (parts l.parts)
