use Rattle.std.proofs.Common.{rules}
use Rattle.vlog_parse.specs.Stmts.{choice}
use Rattle.vlog_parse.proofs.stmt.choice.Goals as goal

pub returns-in_err-other-clause-reads : goal.returns-in_err-other-clause-reads
unfolding choice
returns-in_err-other-clause-reads g c rule is = let reads = c.otherwise.ensures.reads rule is in search rules
