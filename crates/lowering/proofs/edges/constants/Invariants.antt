use Rattle.std.proofs.Common.{◌≡◌, ◌++◌, drop, map}
use Rattle.flat_net.specs.Edges.{constant}
use Rattle.lowering.proofs.edges.constants.Given as goal

abbrev pub invariant-loop-i : goal.invariant-loop-i
invariant-loop-i l = l.all ++ map constant (drop l.i l.bits) ≡ map constant l.bits
