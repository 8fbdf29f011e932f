use Rattle.std.proofs.Common.{arith, ◌-◌, suc, ◌≡◌}
use Rattle.vlog_parse.specs.Lefts.{left}
use Rattle.vlog_parse.proofs.left.+fn-left-target+left.Goals as goal

pub target-requires : goal.target-requires
target-requires t c = record { callable = λ old. (omega arith, tt); consumes = λ old new result post. post.1 }

pub returns-clause-reads : goal.returns-clause-reads
unfolding left
returns-clause-reads t c =
    let deeper : c.args.depth ≡ suc (c.args.depth - 1) = omega arith in
    rw deeper (c.target.ensures.reads (left (c.args.depth - 1)) (λ old new result post. post.0))
