use Rattle.std.proofs.Common.{◌≡◌, ◌++◌, map}
use Rattle.std.specs.List.{range_with_len}
use Rattle.flat_net.specs.declared.node.Node.TheVariants.{Reg}
use Rattle.flatten.proofs.sources.add_registers.Given as goal

abbrev pub invariant-loop-i : goal.invariant-loop-i
invariant-loop-i l = l.nodes ≡ l.initial.nodes ++ map Reg (range_with_len 0 l.i)
