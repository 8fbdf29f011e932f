use Rattle.vlog_tree.proofs.RangeLemmas.{range_by_use}
use Rattle.vlog_tree.proofs.ranges.ModuleRanges.range_of.Goals as goal

pub returns-in-None : goal.returns-in-None
returns-in-None c = let by_use = range_by_use c.args.self.now c.args.name.now cc in cc
