-- Where nodes pass their limit.
use Rattle.std.specs.Prelude.{⊤, ℕ, ◌+◌, ◌<◌, ◌≡◌, List, ◌++◌, length}
use Rattle.bm_base.specs.declared.size.Size.TheVariants.{Nodes}
use Rattle.bm_base.specs.Size.{limit_of}
use Rattle.flat_net.specs.declared.node.Node.{Node}
use Rattle.flat_net.specs.declared.fault.FlatFault.{FlatFault}
use Rattle.flat_net.specs.declared.fault.FlatFault.TheVariants.{Memory, TooLarge}
use Rattle.lowering.specs.Lowered.{Lowered}

-- nodes that are added one after another, behind so many that are there already
pub record Added : Type 0 where
  pub first : ℕ
  pub nodes : List Node

-- the number of the node that is added next
abbrev pub next_of : Added → ℕ
next_of added = added.first + length added.nodes

abbrev pub with_more : Added → Lowered → Added
with_more added more = record { first = added.first; nodes = added.nodes ++ more.nodes }

-- A call that would come to so many nodes may answer so: by want of memory, or where they are too many.
abbrev pub Excuses : ℕ → FlatFault → Type 0
Excuses count Memory = ⊤
Excuses count (TooLarge what) = (what ≡ Nodes) × (limit_of Nodes < count)
