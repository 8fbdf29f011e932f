use Rattle.std.proofs.Common.{subst}
use Rattle.levelise.specs.Machine.{machine}
use Rattle.cycle_cut.specs.Cuts.{IsFirstCut}
use Rattle.bm_check.proofs.VerdictLemmas.{accepted_as, least}
use Rattle.bm_check.proofs.judging.judge_trace.Goals as goal

pub returns-in-Some : goal.returns-in-Some
returns-in-Some c =
    least (machine c.args.net.now) c.args.t.now.rows c.in-Some.cycle
    (c.in_ok-is_first_at_last.ensures.0 c.if-not-branch.false)
    (subst (IsFirstCut (machine c.args.net.now) c.args.t.now.rows 0) c.in-Some.is c.in_ok-cycle.ensures)

pub returns : goal.returns
returns c =
    accepted_as (machine c.args.net.now) c.args.t.now.rows c.in_ok-accepted-in-None.field-0
    (c.in_ok-is_first_at_last.ensures.0 c.if-not-branch.false)
    (subst (IsFirstCut (machine c.args.net.now) c.args.t.now.rows 0) c.in-None.is c.in_ok-cycle.ensures)
    c.in_ok-accepted-in-None.ensures
