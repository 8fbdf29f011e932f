use Rattle.std.proofs.Common.{ap, ◌∙◌, slice_get}
use Rattle.flat_net.specs.Values.{edge_value, node_value}
use Rattle.levelise.proofs.BitLemmas.{both_differ}
use Rattle.levelise.proofs.values.node_bit.Goals as goal

pub returns-in-Xor : goal.returns-in-Xor
returns-in-Xor c =
    ap (node_value c.args.state.now c.args.row.now (slice_get c.args.work.now)) c.in-Xor.is
    ∙ both_differ (edge_value (slice_get c.args.work.now) c.in-Xor.left) (edge_value (slice_get c.args.work.now) c.in-Xor.right)
    c.edge_bit-in-Xor.result c.edge_bit-in-Xor-2.result c.edge_bit-in-Xor.ensures c.edge_bit-in-Xor-2.ensures
