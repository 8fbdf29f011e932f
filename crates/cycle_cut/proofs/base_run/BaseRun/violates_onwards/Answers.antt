use Rattle.std.proofs.Common.{◌≤◌, arith, length, sym, ◌∙◌}
use Rattle.levelise.specs.Machine.{machine}
use Rattle.cycle_cut.proofs.TailLemmas.{none_left}
use Rattle.cycle_cut.proofs.base_run.BaseRun.violates_onwards.Goals as goal

pub returns-clause-violates : goal.returns-clause-violates
returns-clause-violates c =
    let past : length c.args.self.now.trace.now.rows ≤ c.loop-place.place = omega arith in
    sym (c.loop-place.invariant.left
    ∙ none_left (machine c.args.self.now.net.now) c.loop-place.spare.before c.args.self.now.trace.now.rows c.loop-place.place past)
