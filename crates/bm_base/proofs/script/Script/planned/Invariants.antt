use Rattle.std.proofs.Common.{◌≡◌, ◌==◌}
use Rattle.std.specs.Map.{lookup}
use Rattle.std.specs.VecDeque.Iter.{deque_iter_rest}
use Rattle.bm_base.specs.Script.{planned}
use Rattle.bm_base.proofs.script.Script.planned.Given as goal

abbrev pub invariant-loop-nth : goal.invariant-loop-nth
invariant-loop-nth l = planned l.self ≡ lookup (λ nth. nth == l.self.asked) (deque_iter_rest l.nth-iterator)
