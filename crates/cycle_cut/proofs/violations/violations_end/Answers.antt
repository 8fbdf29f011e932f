use Rattle.std.proofs.Common.{◌-◌, arith}
use Rattle.levelise.specs.Machine.{machine}
use Rattle.trace_rows.specs.Run.{checks}
use Rattle.cycle_cut.proofs.TailLemmas.{is_one, none_before, none_past}
use Rattle.cycle_cut.proofs.violations.violations_end.Goals as goal

pub loop-end-init : goal.loop-end-init
loop-end-init c = record {
  within = omega arith;
  none = λ cycle past. none_past (machine c.args.net.now) c.args.t.now.rows cycle (omega arith);
  work = c.requires.work;
}

pub loop-end-preserved : goal.loop-end-preserved
loop-end-preserved c = record {
  within = omega arith;
  none =
      none_before (machine c.args.net.now) c.args.t.now.rows c.loop-end.end c.violates_at.result c.loop-end-test.true
      c.violates_at.ensures.bit c.if-violates_at.false c.loop-end.invariant.none;
  work = c.violates_at.ensures.work;
}

pub returns-then-violates_at-clause-end : goal.returns-then-violates_at-clause-end
returns-then-violates_at-clause-end c = record {
  none = c.loop-end.invariant.none;
  some =
      λ some. is_one (checks (machine c.args.net.now) c.args.t.now.rows) (c.loop-end.end - 1) c.violates_at.result
      c.violates_at.ensures.bit c.if-violates_at.true;
}

pub returns-clause-end : goal.returns-clause-end
returns-clause-end c = record {
  none = λ cycle past. c.loop-end.invariant.none cycle (omega arith);
  some = λ some. absurd (omega arith);
}
