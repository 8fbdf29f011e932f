use Rattle.std.proofs.Common.{◌+◌, ◌*◌}
use Rattle.vlog_parse.proofs.left.+fn-left-target+left.Given as goal

abbrev pub decreases-target : goal.decreases-target
decreases-target l = 2 * l.below + 1

abbrev pub decreases-left : goal.decreases-left
decreases-left l = 2 * l.depth
