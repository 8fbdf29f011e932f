use Rattle.std.proofs.Common.{arith, subst}
use Rattle.levelise.specs.Machine.{machine}
use Rattle.cycle_cut.specs.Runs.{HasRoom}
use Rattle.cycle_cut.proofs.SearchLemmas.{base_agrees, found_cut, none_more}
use Rattle.cycle_cut.proofs.search.first_cut.Goals as goal

pub returns-then-violates_without : goal.returns-then-violates_without
returns-then-violates_without c =
    found_cut (machine c.args.net.now) c.args.t.now.rows c.args.from c.loop-i.i (omega arith) (omega arith)
    (base_agrees c.of-base.result.net.now c.args.net.now c.of-base.result.trace.now c.args.t.now c.of-base.ensures.net c.of-base.ensures.trace
    c.loop-i.i c.violates_without.result c.violates_without.ensures.violates)
    c.if-violates_without.true c.loop-i.invariant.none

pub loop-i-preserved : goal.loop-i-preserved
loop-i-preserved c = record {
  none =
      none_more (machine c.args.net.now) c.args.t.now.rows c.args.from c.loop-i.i
      (base_agrees c.of-base.result.net.now c.args.net.now c.of-base.result.trace.now c.args.t.now c.of-base.ensures.net
      c.of-base.ensures.trace c.loop-i.i c.violates_without.result c.violates_without.ensures.violates)
      c.if-violates_without.false c.loop-i.invariant.none;
  room = subst (λ level. HasRoom level c.violates_without.new.spare) c.of-base.ensures.net c.violates_without.ensures.room;
}

pub returns : goal.returns
returns c = λ i at below. c.loop-i.invariant.none i at (omega arith)
