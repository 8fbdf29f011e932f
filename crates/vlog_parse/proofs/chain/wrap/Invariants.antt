use Rattle.std.proofs.Common.{◌≡◌, length}
use Rattle.vlog_tree.specs.declared.expr.UnOp.{UnOp}
use Rattle.vlog_parse.specs.Chains.{wrap}
use Rattle.vlog_parse.proofs.chain.wrap.Given as goal

abbrev pub invariant-loop-op : goal.invariant-loop-op
invariant-loop-op l = wrap l.fn.ops l.fn.operand ≡ wrap l.ops l.whole

abbrev pub decreases-loop-op : goal.decreases-loop-op
decreases-loop-op l = length {A = UnOp} l.ops
