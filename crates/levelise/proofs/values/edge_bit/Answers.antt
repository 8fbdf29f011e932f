use Rattle.std.proofs.Common.{slice_get}
use Rattle.levelise.proofs.BitLemmas.{edge_is}
use Rattle.levelise.proofs.values.edge_bit.Goals as goal

pub returns : goal.returns
returns c = edge_is (slice_get c.args.work.now) c.args.edge c.get.result c.get.ensures
