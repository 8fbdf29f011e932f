use Rattle.std.proofs.Common.{◌+◌, ◌*◌}
use Rattle.vlog_parse.proofs.stmt.+fn-stmt-statement+stmt.Given as goal

abbrev pub decreases-statement : goal.decreases-statement
decreases-statement l = 2 * l.below + 1

abbrev pub decreases-stmt : goal.decreases-stmt
decreases-stmt l = 2 * l.depth
