use Rattle.std.proofs.Common.{◌≡◌, ◌++◌, map}
use Rattle.std.specs.List.{range_with_len}
use Rattle.vcd_header.specs.Bits.{wanted_of}
use Rattle.vcd_header.specs.Matching.{port_bit}
use Rattle.vcd_header.proofs.wanted.push_port.Given as goal

abbrev pub invariant-loop-position : goal.invariant-loop-position
invariant-loop-position l = map wanted_of l.bits.items ≡ map wanted_of l.initial.bits.items ++ map (port_bit l.port) (range_with_len 0 l.position)
