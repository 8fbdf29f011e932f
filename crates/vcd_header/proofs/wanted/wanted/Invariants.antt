use Rattle.std.proofs.Common.{◌≡◌, ◌++◌, drop, map}
use Rattle.std.specs.List.{flat_map}
use Rattle.vcd_header.specs.Bits.{wanted_of}
use Rattle.vcd_header.specs.Matching.{port_bits, wanted}
use Rattle.vcd_header.proofs.wanted.wanted.Given as goal

abbrev pub invariant-loop-port : goal.invariant-loop-port
invariant-loop-port l = map wanted_of l.bits.items ++ flat_map port_bits (drop l.port-index l.labels.ports) ≡ wanted l.labels
