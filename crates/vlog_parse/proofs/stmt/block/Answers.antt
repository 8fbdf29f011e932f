use Rattle.std.proofs.Common.{rules}
use Rattle.vlog_parse.specs.Stmts.{block}
use Rattle.vlog_parse.proofs.stmt.block.Goals as goal

pub returns-in_err-stmts-clause-reads : goal.returns-in_err-stmts-clause-reads
unfolding block
returns-in_err-stmts-clause-reads g c rule is = let reads = c.repeated_until.ensures.reads rule is in search rules
