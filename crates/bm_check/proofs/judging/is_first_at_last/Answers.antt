use Rattle.std.proofs.Common.{◌+◌, arith, sym, ◌∙◌}
use Rattle.std.proofs.lemmas.Bool.{eq-eqb, eqb-true, false≢true}
use Rattle.levelise.specs.Machine.{machine}
use Rattle.bm_check.proofs.VerdictLemmas.{at_last, cycle_within, is_last, not_at_last}
use Rattle.bm_check.proofs.judging.is_first_at_last.Goals as goal

pub overflow_add-result : goal.overflow_add-result
overflow_add-result c =
    omega (arith, cycle_within (machine c.args.net.now) c.args.t.now.rows c.in-Some.cycle (sym c.in_ok-cycle.ensures ∙ c.in-Some.is))

pub returns-in-Some : goal.returns-in-Some
returns-in-Some c = (
  λ same. at_last (machine c.args.net.now) c.args.t.now.rows c.in-Some.cycle (sym c.in_ok-cycle.ensures ∙ c.in-Some.is)
      (eqb-true (c.in-Some.cycle + 1) c.len-cycles.result same ∙ c.len-cycles.ensures.len),
  λ first. eq-eqb (c.in-Some.cycle + 1) c.len-cycles.result
      (is_last (machine c.args.net.now) c.args.t.now.rows c.in-Some.cycle (sym c.in_ok-cycle.ensures ∙ c.in-Some.is) first
      ∙ sym c.len-cycles.ensures.len),
)

pub returns-in-None : goal.returns-in-None
returns-in-None c = (
  λ is. absurd (false≢true is),
  λ first. absurd (not_at_last (machine c.args.net.now) c.args.t.now.rows (sym c.in_ok-cycle.ensures ∙ c.in-None.is) first),
)
