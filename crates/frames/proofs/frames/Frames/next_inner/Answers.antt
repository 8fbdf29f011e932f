use Rattle.std.proofs.Common.{arith}
use Rattle.frames.proofs.frames.Frames.next_inner.Goals as goal

pub overflow_add-result : goal.overflow_add-result
overflow_add-result c =
    let few = c.size_at.ensures.limited in omega (arith, few)
