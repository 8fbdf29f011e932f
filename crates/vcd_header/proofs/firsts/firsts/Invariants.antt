use Rattle.vcd_header.specs.Declares.{paths_of}
use Rattle.vcd_header.specs.Names.{number_in}
use Rattle.vcd_header.proofs.FirstLemmas.{AreEntered}
use Rattle.vcd_header.proofs.firsts.firsts.Given as goal

abbrev pub invariant-loop-scope : goal.invariant-loop-scope
invariant-loop-scope l = AreEntered (paths_of l.scopes) l.scope-index l.firsts.items (number_in l.names)
