use Rattle.std.proofs.Common.{map}
use Rattle.vcd_header.specs.Bits.{wanted_of}
use Rattle.vcd_header.specs.Matching.{gives_all}
use Rattle.vcd_header.proofs.MatchingLemmas.{AreTried}
use Rattle.vcd_header.proofs.matching.full_scope.Given as goal

abbrev pub invariant-loop-number : goal.invariant-loop-number
invariant-loop-number l = AreTried (gives_all l.table.variables (map wanted_of l.bits)) l.table.scopes l.number
