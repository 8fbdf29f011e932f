-- The node that a fault names.
use Rattle.std.specs.Prelude.{⊤, ◌<◌, ℕ, List}
use Rattle.flat_net.specs.declared.node.Node.{Node}
use Rattle.net_loops.specs.Loops.{ReadsItself}
use Rattle.net_order.specs.declared.fault.OrderFault.{OrderFault}
use Rattle.net_order.specs.declared.fault.OrderFault.TheVariants.{Loop, Memory}

-- the least node that reads itself
pub record IsLeastLoop (nodes : List Node) (node : ℕ) : Type 0 where
  pub loop : ReadsItself nodes node
  pub least : (other : ℕ) → other < node → ReadsItself nodes other → ⊥

-- A loop is named by the least node that reads itself. Want of memory says nothing of the nodes.
abbrev pub NamesLeast : List Node → OrderFault → Type 0
NamesLeast nodes (Loop node) = IsLeastLoop nodes node
NamesLeast nodes Memory = ⊤

-- the node of a loop reads itself, though others below it may
abbrev pub NamesLoop : List Node → OrderFault → Type 0
NamesLoop nodes (Loop node) = ReadsItself nodes node
NamesLoop nodes Memory = ⊤
