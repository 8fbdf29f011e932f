-- Orders of evaluation.
use Rattle.std.specs.Prelude.{◌≡◌, ◌<◌, ℕ, List, Some, length, slice_get}
use Rattle.flat_net.specs.declared.node.Node.{Node}
use Rattle.net_loops.specs.Loops.{Reads}
use Rattle.net_order.specs.Marks.{AreOnce, Stands}

-- Each node stands once in the list of their numbers, and after all that it reads.
pub record IsOrder (nodes : List Node) (order : List ℕ) : Type 0 where
  pub within : (place node : ℕ) → slice_get order place ≡ Some node → node < length nodes
  pub all : (node : ℕ) → node < length nodes → Stands order node
  pub once : AreOnce order
  pub after : (place node next : ℕ) → slice_get order place ≡ Some node → Reads nodes node next →
      (earlier : ℕ) × ((earlier < place) × (slice_get order earlier ≡ Some next))
