use Rattle.std.proofs.Common.{arith, sym, ◌∙◌}
use Rattle.levelise.specs.Machine.{machine}
use Rattle.trace_rows.proofs.ViolationLemmas.{no_violation}
use Rattle.bm_minimise.proofs.ShorterLemmas.{cut_off_at, cycle_within}
use Rattle.bm_minimise.proofs.cutting.cut_off.Goals as goal

pub overflow_add-cycle : goal.overflow_add-cycle
overflow_add-cycle c =
    omega (arith, cycle_within (machine c.args.net.now) c.args.t.rows c.in-Some.cycle (sym c.in_ok-cycle.ensures ∙ c.in-Some.is))

pub keep-requires : goal.keep-requires
keep-requires c =
    omega (arith, cycle_within (machine c.args.net.now) c.args.t.rows c.in-Some.cycle (sym c.in_ok-cycle.ensures ∙ c.in-Some.is))

pub returns-in-Some-clause-cut_off : goal.returns-in-Some-clause-cut_off
returns-in-Some-clause-cut_off c =
    cut_off_at (machine c.args.net.now) c.args.t c.keep.new.self c.in-Some.cycle (sym c.in_ok-cycle.ensures ∙ c.in-Some.is)
    c.keep.ensures

pub returns-in-None-clause-none : goal.returns-in-None-clause-none
returns-in-None-clause-none c =
    λ same. no_violation (machine c.args.net.now) c.args.t.rows (sym c.in_ok-cycle.ensures ∙ c.in-None.is)
