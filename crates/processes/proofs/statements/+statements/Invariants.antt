use Rattle.std.proofs.Common.{drop, map}
use Rattle.processes.specs.Statements.{block, process_of}
use Rattle.processes.proofs.CarryLemmas.{Yet}
use Rattle.processes.proofs.statements.+statements.Given as goal

abbrev pub invariant-carry_out_all-loop-stmt : goal.invariant-carry_out_all-loop-stmt
invariant-carry_out_all-loop-stmt g l =
    Yet (g.S.Scope.module_of l.scope) (block (map (process_of (g.S.Scope.module_of l.scope) (g.S.Scope.wires l.scope)) (drop l.stmt-index l.body)))
    (block (map (process_of (g.S.Scope.module_of l.scope) (g.S.Scope.wires l.scope)) l.body)) l.initial.nodes l.nodes l.initial.current l.current
