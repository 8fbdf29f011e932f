use Rattle.std.proofs.Common.{rules}
use Rattle.vlog_parse.specs.Lefts.{join}
use Rattle.vlog_parse.proofs.left.join.Goals as goal

pub returns-in_err-parts-clause-reads : goal.returns-in_err-parts-clause-reads
unfolding join
returns-in_err-parts-clause-reads g c rule is = let reads = c.separated.ensures.reads rule is in search rules
