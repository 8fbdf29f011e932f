use Rattle.std.proofs.Common.{arith, sym, ◌∙◌}
use Rattle.levelise.specs.Machine.{machine}
use Rattle.cycle_cut.proofs.RunLemmas.{state_is, states_long}
use Rattle.cycle_cut.proofs.TailLemmas.{turn_ends, turn_goes_on, turn_meets}
use Rattle.cycle_cut.proofs.base_run.BaseRun.turn.Goals as goal

pub get-requires : goal.get-requires
get-requires c =
    omega (
      arith,
      states_long c.args.self.now.net.now c.args.self.now.trace.now c.args.self.now.states.now c.args.self.now.told.run,
      c.requires.within,
    )

pub returns-then-same-clause-turns : goal.returns-then-same-clause-turns
returns-then-same-clause-turns c =
    turn_meets (machine c.args.self.now.net.now) c.args.self.now.trace.now.rows c.args.self.now.end c.args.place
    c.args.self.now.told.ends c.args.state.now c.get.result.now (c.same.ensures.0 c.if-same.true)
    (state_is c.args.self.now.net.now c.args.self.now.trace.now c.args.self.now.states.now c.args.self.now.told.run c.args.place
    c.get.result.now c.get.ensures)

pub returns-then-cycle-clause-turns : goal.returns-then-cycle-clause-turns
returns-then-cycle-clause-turns c =
    turn_ends (machine c.args.self.now.net.now) c.args.self.now.trace.now.rows c.args.place c.row.result.now c.row.ensures.row
    c.args.state.now (sym c.cycle.ensures.bad ∙ c.if-cycle.true)

pub returns-clause-turns : goal.returns-clause-turns
returns-clause-turns c =
    turn_goes_on (machine c.args.self.now.net.now) c.args.self.now.trace.now.rows c.args.place c.row.result.now c.row.ensures.row
    c.args.state.now c.cycle.new.next c.cycle.ensures.next (sym c.cycle.ensures.bad ∙ c.if-cycle.false)
