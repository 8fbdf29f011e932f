use Rattle.std.proofs.Common.{arith}
use Rattle.cycle_cut.proofs.RunLemmas.{bit_is, state_counted, states_long}
use Rattle.cycle_cut.proofs.violations.violates_at.Goals as goal

pub get-requires : goal.get-requires
get-requires c =
    omega (arith, states_long c.args.net.now c.args.t.now c.args.states.now c.requires.run, c.requires.within)

pub bad-requires-clause-state : goal.bad-requires-clause-state
bad-requires-clause-state c =
    state_counted c.args.net.now c.args.t.now c.args.states.now c.requires.run c.args.i c.get.result.now c.get.ensures

pub returns-clause-bit : goal.returns-clause-bit
returns-clause-bit c =
    bit_is c.args.net.now c.args.t.now c.args.states.now c.requires.run c.args.i c.get.result.now c.row.result.now c.bad.result
    c.get.ensures c.row.ensures.row c.bad.ensures.bad
