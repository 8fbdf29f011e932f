use Rattle.driver_rules.proofs.RunLemmas.{last_up_to, nothing_up_to}
use Rattle.driver_rules.proofs.bit_set.BitSet.last_up_to.Goals as goal

pub returns-in-Some : goal.returns-in-Some
returns-in-Some c =
    last_up_to c.args.self.now.runs c.args.net c.args.bit c.range.result (c.range.ensures.in_range tt) c.in-Some.key.now c.in-Some.last.now _ c.in-Some.ensures.steps
    c.run_of.result c.run_of.ensures.net c.run_of.ensures.bits c.run_of.ensures.none

pub returns-in-None : goal.returns-in-None
returns-in-None c = nothing_up_to c.args.self.now.runs c.args.net c.args.bit c.range.result (c.range.ensures.in_range tt) c.in-None.ensures.steps.0
