use Rattle.std.proofs.Common.{◌≡◌, ◌++◌, map}
use Rattle.std.specs.List.{range_with_len}
use Rattle.flat_net.specs.declared.node.Node.TheVariants.{Input}
use Rattle.flatten.proofs.sources.add_inputs.Given as goal

abbrev pub invariant-loop-i : goal.invariant-loop-i
invariant-loop-i l = l.nodes ≡ l.initial.nodes ++ map Input (range_with_len 0 l.i)
