use Rattle.std.proofs.Common.{subst}
use Rattle.std.proofs.lemmas.Bool.{OnFalse_at, OnFalse_from}
use Rattle.levelise.specs.Machine.{machine}
use Rattle.trace_rows.specs.Minimal.{NoCutViolates}
use Rattle.cycle_cut.specs.Cuts.{IsFirstCut}
use Rattle.bm_minimise.proofs.ShorterLemmas.{none_goes}
use Rattle.bm_minimise.proofs.deletion.delete_pass.Goals as goal

pub returns-clause-minimal : goal.returns-clause-minimal
returns-clause-minimal c =
    OnFalse_from c.loop-states.any (NoCutViolates (machine c.args.net.now) c.loop-states.trace.rows)
    (λ is. none_goes (machine c.args.net.now) c.loop-states.trace.rows c.loop-states.place
    (OnFalse_at is c.loop-states.invariant.start)
    (subst (IsFirstCut (machine c.args.net.now) c.loop-states.trace.rows c.loop-states.place) c.in_default.is c.in_ok-i.ensures))
