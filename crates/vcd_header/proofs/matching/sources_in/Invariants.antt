use Rattle.std.proofs.Common.{◌≡◌, [], drop, get_or, map}
use Rattle.vcd_header.specs.Bits.{source_shown, wanted_of}
use Rattle.vcd_header.specs.Matching.{sources_of, within}
use Rattle.vcd_header.proofs.MatchingLemmas.{behind}
use Rattle.vcd_header.proofs.matching.sources_in.Given as goal

abbrev pub invariant-loop-bit : goal.invariant-loop-bit
invariant-loop-bit l =
    behind (map source_shown l.sources.items) (sources_of (within (get_or l.table.scopes l.number []) l.table.variables) (map wanted_of (drop l.bit-index l.bits)))
    ≡ sources_of (within (get_or l.table.scopes l.number []) l.table.variables) (map wanted_of l.bits)
