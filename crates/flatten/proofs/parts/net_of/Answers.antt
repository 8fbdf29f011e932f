use Rattle.std.proofs.Common.{◌∙◌}
use Rattle.flatten.proofs.PartLemmas.{is_net, net_is}
use Rattle.flatten.proofs.parts.net_of.Goals as goal

pub new-requires : goal.new-requires
new-requires c =
    is_net c.args.frames.now c.args.check.now c.args.whole.nodes c.args.whole.driven c.edges.result.now c.args.whole.next c.requires.whole
    c.edges.ensures c.inputs-inputs.result c.registers.result c.inputs-inputs.ensures c.registers.ensures c.in_ok-nodes.nodes
    c.in_ok-nodes.ensures c.edge_of_check-bad.result c.edge_of_check-bad.ensures c.in_ok-power_up.power_up c.in_ok-power_up.ensures
    c.requires.few

pub returns : goal.returns
returns c =
    c.new.ensures
    ∙ net_is c.args.frames.now c.args.check.now c.args.whole.nodes c.args.whole.driven c.edges.result.now c.args.whole.next c.requires.whole
    c.edges.ensures c.inputs-inputs.result c.registers.result c.inputs-inputs.ensures c.registers.ensures c.in_ok-nodes.nodes
    c.in_ok-nodes.ensures c.edge_of_check-bad.result c.edge_of_check-bad.ensures c.in_ok-power_up.power_up c.in_ok-power_up.ensures
