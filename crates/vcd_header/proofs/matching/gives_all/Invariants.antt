use Rattle.std.proofs.Common.{◌≡◌, [], drop, get_or, map}
use Rattle.vcd_header.specs.Bits.{wanted_of}
use Rattle.vcd_header.specs.Matching.{gives_all}
use Rattle.vcd_header.proofs.matching.gives_all.Given as goal

abbrev pub invariant-loop-bit : goal.invariant-loop-bit
invariant-loop-bit l =
    gives_all l.table.variables (map wanted_of (drop l.bit-index l.bits)) (get_or l.table.scopes l.number [])
    ≡ gives_all l.table.variables (map wanted_of l.bits) (get_or l.table.scopes l.number [])
