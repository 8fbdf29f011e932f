use Rattle.std.proofs.Common.{◌≡◌, drop}
use Rattle.levelise.specs.Machine.{machine}
use Rattle.cycle_cut.specs.Runs.{HasRoom}
use Rattle.cycle_cut.specs.Violations.{violates_from}
use Rattle.cycle_cut.proofs.base_run.BaseRun.violates_onwards.Given as goal

abbrev pub invariant-loop-place : goal.invariant-loop-place
invariant-loop-place l = record {
  left : violates_from (machine l.self.net.now) l.initial.spare.before (drop l.from l.self.trace.now.rows)
      ≡ violates_from (machine l.self.net.now) l.spare.before (drop l.place l.self.trace.now.rows);
  room : HasRoom l.self.net.now l.spare;
}
