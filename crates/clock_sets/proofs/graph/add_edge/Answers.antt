use Rattle.std.proofs.Common.{vec_items}
use Rattle.clock_sets.proofs.EdgeLemmas.{edge_added}
use Rattle.clock_sets.proofs.graph.add_edge.Goals as goal

pub returns : goal.returns
returns c =
    edge_added vec_items c.args.graph.now.items c.args.from c.args.to c.index_mut.result.now c.push.new.self c.requires
    c.index_mut.ensures.value c.in_ok-push.ensures.items
