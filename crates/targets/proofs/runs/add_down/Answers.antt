use Rattle.targets.proofs.NumberLemmas.{less_taken}
use Rattle.targets.proofs.runs.add_down.Goals as goal

pub loop-i-preserved : goal.loop-i-preserved
loop-i-preserved c =
    less_taken c.loop-i.list c.push.new.self _ c.args.first c.args.low c.args.width c.loop-i.i c.last_of.result c.loop-i-test.true
    c.in_ok-push.ensures.ok c.last_of.ensures c.loop-i.invariant
