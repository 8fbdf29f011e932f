-- How far nodes are placed.
use Rattle.std.specs.Prelude.{◌≡◌, ◌⊎◌, ◌+◌, ◌*◌, ◌<◌, ℕ, suc, List, [], ◌∷◌, ◌++◌, Bool, true, false, Some, length, replicate, slice_get, slice_set}
use Rattle.flat_net.specs.declared.node.Node.{Node}
use Rattle.net_loops.specs.Loops.{Reads}
use Rattle.net_order.specs.Marks.{AreOnce, Marked, Stands, unmarked}

pub record Progress : Type 0 where
  -- the nodes that are placed or stand on the way
  pub seen : List Bool
  -- those that are placed
  pub done : List Bool
  -- the way to the node that is being placed, each node of it read by the one before
  pub stack : List ℕ
  pub order : List ℕ

abbrev pub fresh : ℕ → Progress
fresh count = record { seen = replicate count false; done = replicate count false; stack = []; order = [] }

-- with one more node at the end of the way
abbrev pub with_top : Progress → ℕ → Progress
with_top walk node = record { seen = walk.seen; done = walk.done; stack = walk.stack ++ node ∷ []; order = walk.order }

abbrev pub begun : Progress → ℕ → Progress
begun walk node = record {
  seen = slice_set walk.seen node true;
  done = walk.done;
  stack = walk.stack ++ node ∷ [];
  order = walk.order;
}

abbrev pub finished : Progress → ℕ → Progress
finished walk node = record {
  seen = walk.seen;
  done = slice_set walk.done node true;
  stack = walk.stack;
  order = walk.order ++ node ∷ [];
}

-- It falls with each step: a node is seen once, and taken from the way once.
abbrev pub size_of : Progress → ℕ
size_of walk = 2 * unmarked walk.seen + length walk.stack

-- What is done stands in the order, after all that it reads.
pub record ArePlaced (nodes : List Node) (done : List Bool) (order : List ℕ) : Type 0 where
  pub stands : (node : ℕ) → Marked done node → Stands order node
  pub marked : (place node : ℕ) → slice_get order place ≡ Some node → Marked done node
  pub once : AreOnce order
  pub after : (place node next : ℕ) → slice_get order place ≡ Some node → Reads nodes node next →
      (earlier : ℕ) × ((earlier < place) × (slice_get order earlier ≡ Some next))

pub record IsWalk (nodes : List Node) (walk : Progress) : Type 0 where
  pub seen_count : length walk.seen ≡ length nodes
  pub done_count : length walk.done ≡ length nodes
  pub placed : ArePlaced nodes walk.done walk.order
  pub known : (node : ℕ) → Marked walk.seen node → Marked walk.done node ⊎ Stands walk.stack node
  pub done_seen : (node : ℕ) → Marked walk.done node → Marked walk.seen node
  pub ahead_seen : (place node : ℕ) → slice_get walk.stack place ≡ Some node → Marked walk.seen node
  pub ahead : (place node : ℕ) → slice_get walk.stack place ≡ Some node → slice_get walk.done node ≡ Some false
  pub once : AreOnce walk.stack
  pub way : (place node next : ℕ) → slice_get walk.stack place ≡ Some node → slice_get walk.stack (suc place) ≡ Some next →
      Reads nodes node next
