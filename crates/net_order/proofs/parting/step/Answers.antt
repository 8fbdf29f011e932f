use Rattle.net_order.specs.Partings.{with_way}
use Rattle.net_order.proofs.PartLemmas.{place_inside}
use Rattle.net_order.proofs.StepLemmas.{next_inside, waits_inside, went_on}
use Rattle.net_order.proofs.parting.step.Goals as goal

pub node_at-node-requires : goal.node_at-node-requires
node_at-node-requires c = place_inside c.args.net.now.nodes c.args.parts.now c.args.place c.requires

pub pending-requires-clause-within : goal.pending-requires-clause-within
pending-requires-clause-within c =
    waits_inside c.args.net.now.nodes (with_way c.args.parts.now c.args.place) c.requires c.args.place c.node_at-node.result
    c.node_at-node.ensures

pub enter-requires-clause-seen : goal.enter-requires-clause-seen
enter-requires-clause-seen c =
    (next_inside c.args.net.now.nodes c.args.parts.now c.args.place c.requires c.put_back.new.self c.in_ok-put_back-in-Some.ensures
    c.seen.result.now c.seen.ensures c.node_at-node.result c.in-Some.next c.in-Some.ensures).0

pub enter-requires-clause-places : goal.enter-requires-clause-places
enter-requires-clause-places c =
    (next_inside c.args.net.now.nodes c.args.parts.now c.args.place c.requires c.put_back.new.self c.in_ok-put_back-in-Some.ensures
    c.seen.result.now c.seen.ensures c.node_at-node.result c.in-Some.next c.in-Some.ensures).1

pub returns-in_ok-enter-in-Some-clause-parts : goal.returns-in_ok-enter-in-Some-clause-parts
returns-in_ok-enter-in-Some-clause-parts c =
    (went_on c.args.net.now.nodes c.args.parts.now c.args.place c.requires c.put_back.new.self c.in_ok-put_back-in-Some.ensures
    c.seen.result.now c.seen.ensures c.node_at-node.result c.in-Some.next c.in-Some.ensures c.node_at-node.ensures c.enter.new.self
    c.in_ok-enter-in-Some.ensures).parts

pub returns-in_ok-enter-in-Some-clause-grows : goal.returns-in_ok-enter-in-Some-clause-grows
returns-in_ok-enter-in-Some-clause-grows c =
    (went_on c.args.net.now.nodes c.args.parts.now c.args.place c.requires c.put_back.new.self c.in_ok-put_back-in-Some.ensures
    c.seen.result.now c.seen.ensures c.node_at-node.result c.in-Some.next c.in-Some.ensures c.node_at-node.ensures c.enter.new.self
    c.in_ok-enter-in-Some.ensures).grows

pub returns-in_ok-enter-in-Some-clause-smaller : goal.returns-in_ok-enter-in-Some-clause-smaller
returns-in_ok-enter-in-Some-clause-smaller c =
    (went_on c.args.net.now.nodes c.args.parts.now c.args.place c.requires c.put_back.new.self c.in_ok-put_back-in-Some.ensures
    c.seen.result.now c.seen.ensures c.node_at-node.result c.in-Some.next c.in-Some.ensures c.node_at-node.ensures c.enter.new.self
    c.in_ok-enter-in-Some.ensures).smaller
