use Rattle.flatten.proofs.PartLemmas.{bit_within, check_edge}
use Rattle.flatten.proofs.parts.edge_of_check.Goals as goal

pub edge-requires : goal.edge-requires
edge-requires c =
    bit_within c.args.frames.now c.args.check.now c.requires c.at-frame.result c.at-frame.ensures.definition c.wire_of.result
    c.wire_of.ensures.within

pub returns : goal.returns
returns c =
    check_edge c.args.frames.now c.args.check.now c.requires c.at-frame.result c.at-frame.ensures.definition c.at-frame.ensures.wires
    c.wire_of.result c.wire_of.ensures.edges c.edge.result c.edge.ensures
