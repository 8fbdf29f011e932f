use Rattle.std.proofs.Common.{arith, below_more}
use Rattle.levelise.specs.Machine.{machine}
use Rattle.trace_rows.specs.Run.{checks}
use Rattle.cycle_cut.proofs.TailLemmas.{is_one, not_one}
use Rattle.cycle_cut.proofs.violations.first_violation.Goals as goal

pub loop-i-preserved : goal.loop-i-preserved
loop-i-preserved c = record {
  none =
      below_more _ _ c.loop-i.invariant.none
      (not_one (checks (machine c.args.net.now) c.args.t.now.rows) c.loop-i.i c.violates_at.result c.violates_at.ensures.bit
      c.if-violates_at.false);
  work = c.violates_at.ensures.work;
}

pub returns-then-violates_at-clause-first : goal.returns-then-violates_at-clause-first
returns-then-violates_at-clause-first c = record {
  none = c.loop-i.invariant.none;
  some =
      λ within. is_one (checks (machine c.args.net.now) c.args.t.now.rows) c.loop-i.i c.violates_at.result
      c.violates_at.ensures.bit c.if-violates_at.true;
}

pub returns-clause-first : goal.returns-clause-first
returns-clause-first c = record {
  none = λ cycle below. c.loop-i.invariant.none cycle (omega arith);
  some = λ within. absurd (omega arith);
}
