use Rattle.levelise.specs.Machine.{machine}
use Rattle.cycle_cut.specs.Cuts.{NoCutFrom}
use Rattle.cycle_cut.specs.Runs.{HasRoom}
use Rattle.cycle_cut.proofs.search.first_cut.Given as goal

abbrev pub invariant-loop-i : goal.invariant-loop-i
invariant-loop-i l = record {
  none : NoCutFrom (machine l.net) l.t.rows l.from l.i;
  room : HasRoom l.net l.spare;
}
