-- What a node reads among those that have marks.
use Rattle.std.specs.Prelude.{◌≡◌, ℕ, List, Bool, false, Some, slice_get}
use Rattle.flat_net.specs.declared.node.Node.{Node}
use Rattle.net_loops.specs.Loops.{Reads}

-- the node reads the next one, which has no mark
pub record IsPending (nodes : List Node) (marks : List Bool) (node next : ℕ) : Type 0 where
  pub reads : Reads nodes node next
  pub not_marked : slice_get marks next ≡ Some false
