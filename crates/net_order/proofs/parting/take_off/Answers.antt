use Rattle.net_order.proofs.TakeLemmas.{took_inside, took_one}
use Rattle.net_order.proofs.parting.take_off.Goals as goal

pub mark-requires-clause-done : goal.mark-requires-clause-done
mark-requires-clause-done c =
    (took_inside c.args.answer c.args.parts.now c.loop-node.parts c.take_behind.new.self c.in-Some.node c.requires.places
    c.loop-node.invariant.taken c.in-Some.ensures.1).0

pub mark-requires-clause-looped : goal.mark-requires-clause-looped
mark-requires-clause-looped c =
    (took_inside c.args.answer c.args.parts.now c.loop-node.parts c.take_behind.new.self c.in-Some.node c.requires.places
    c.loop-node.invariant.taken c.in-Some.ensures.1).1

pub loop-node-preserved : goal.loop-node-preserved
loop-node-preserved c =
    let took =
    took_one c.args.answer c.args.place c.args.parts.now c.loop-node.parts c.take_behind.new.self c.mark.new.self c.in-Some.node
    c.requires.places c.loop-node.invariant.taken c.in-Some.ensures.0 c.in-Some.ensures.1 c.mark.ensures in
    record { taken = took.taken; within = took.within }
