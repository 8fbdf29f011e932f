use Rattle.std.proofs.Common.{◌≡◌, map}
use Rattle.std.specs.List.{range_with_len}
use Rattle.frames.specs.Framed.{wires_of}
use Rattle.flat_items.proofs.ports.edges_of.Given as goal

abbrev pub invariant-loop-bit : goal.invariant-loop-bit
invariant-loop-bit l = l.edges ≡ map (wires_of l.frame l.name) (range_with_len 0 l.bit)
