use Rattle.std.proofs.Common.{arith, ◌-◌, suc, ◌≡◌}
use Rattle.vlog_parse.specs.Stmts.{stmt}
use Rattle.vlog_parse.proofs.stmt.+fn-stmt-statement+stmt.Goals as goal

pub statement-requires : goal.statement-requires
statement-requires t c = record { callable = λ old. (omega arith, tt); consumes = λ old new result post. post.1 }

pub returns-clause-reads : goal.returns-clause-reads
unfolding stmt
returns-clause-reads t c =
    let deeper : c.args.depth ≡ suc (c.args.depth - 1) = omega arith in
    rw deeper (c.statement.ensures.reads (stmt (c.args.depth - 1)) (λ old new result post. post.0))
