use Rattle.std.proofs.Common.{◌+◌, ap, arith, drop, false, sym, ◌∙◌}
use Rattle.levelise.specs.Machine.{machine}
use Rattle.trace_rows.specs.Run.{state_at}
use Rattle.cycle_cut.specs.Violations.{violates_from}
use Rattle.cycle_cut.proofs.RunLemmas.{state_counted, state_is, states_long}
use Rattle.cycle_cut.proofs.TailLemmas.{none_left, without_early, without_late}
use Rattle.cycle_cut.proofs.base_run.BaseRun.violates_without.Goals as goal

pub returns-then-self-cycle-clause-violates : goal.returns-then-self-cycle-clause-violates
returns-then-self-cycle-clause-violates c =
    without_early (machine c.args.self.now.net.now) c.args.self.now.trace.now.rows c.args.self.now.first c.args.cycle
    c.args.self.now.told.starts c.if-self-cycle.true c.requires.within

pub returns-then-place-len-clause-violates : goal.returns-then-place-len-clause-violates
returns-then-place-len-clause-violates c =
    without_late (machine c.args.self.now.net.now) c.args.self.now.trace.now.rows c.args.self.now.first c.args.cycle
    c.args.self.now.told.starts c.if-self-cycle.false false
    (none_left (machine c.args.self.now.net.now) (state_at (machine c.args.self.now.net.now) c.args.self.now.trace.now.rows c.args.cycle)
    c.args.self.now.trace.now.rows (c.args.cycle + 1) (omega arith))

pub get-state-requires : goal.get-state-requires
get-state-requires c =
    omega (
      arith,
      states_long c.args.self.now.net.now c.args.self.now.trace.now c.args.self.now.states.now c.args.self.now.told.run,
      c.requires.within,
    )

pub turn-requires-clause-state : goal.turn-requires-clause-state
turn-requires-clause-state c =
    state_counted c.args.self.now.net.now c.args.self.now.trace.now c.args.self.now.states.now c.args.self.now.told.run c.args.cycle
    c.get-state.result.now c.get-state.ensures

pub returns-in-Some-clause-violates : goal.returns-in-Some-clause-violates
returns-in-Some-clause-violates c =
    without_late (machine c.args.self.now.net.now) c.args.self.now.trace.now.rows c.args.self.now.first c.args.cycle
    c.args.self.now.told.starts c.if-self-cycle.false c.in-Some.answer
    (ap (λ state. violates_from (machine c.args.self.now.net.now) state (drop (c.args.cycle + 1) c.args.self.now.trace.now.rows))
    (sym (state_is c.args.self.now.net.now c.args.self.now.trace.now c.args.self.now.states.now c.args.self.now.told.run c.args.cycle
    c.get-state.result.now c.get-state.ensures))
    ∙ c.in-Some.ensures.turns)

pub returns-in-None-clause-violates : goal.returns-in-None-clause-violates
returns-in-None-clause-violates c =
    without_late (machine c.args.self.now.net.now) c.args.self.now.trace.now.rows c.args.self.now.first c.args.cycle
    c.args.self.now.told.starts c.if-self-cycle.false c.violates_onwards.result
    (ap (λ state. violates_from (machine c.args.self.now.net.now) state (drop (c.args.cycle + 1) c.args.self.now.trace.now.rows))
    (sym (state_is c.args.self.now.net.now c.args.self.now.trace.now c.args.self.now.states.now c.args.self.now.told.run c.args.cycle
    c.get-state.result.now c.get-state.ensures))
    ∙ c.in-None.ensures.turns
    ∙ sym c.violates_onwards.ensures.violates)
