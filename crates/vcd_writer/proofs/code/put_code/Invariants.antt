use Rattle.std.proofs.Common.{◌≡◌, ◌++◌}
use Rattle.vcd_writer.specs.Code.{code_of}
use Rattle.vcd_writer.proofs.code.put_code.Given as goal

abbrev pub invariant-loop-rest : goal.invariant-loop-rest
invariant-loop-rest l = l.text.items ++ code_of l.rest ≡ l.initial.text.items ++ code_of l.number

abbrev pub decreases-loop-rest : goal.decreases-loop-rest
decreases-loop-rest l = l.rest
