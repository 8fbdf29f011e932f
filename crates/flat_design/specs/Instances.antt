-- What the instances of a design give, one after another.
use Rattle.std.specs.Prelude.{ℕ, ◌+◌, List, [], ◌∷◌, ◌++◌, length, map}
use Rattle.flat_net.specs.declared.edge.Edge.{Edge}
use Rattle.flat_net.specs.declared.node.Node.{Node}
use Rattle.vlog_tree.specs.Meaning.Instances.{Instance}
use Rattle.vlog_tree.specs.Meaning.Setting.{Setting}
use Rattle.flat_design.specs.Items.{Drive, Given, each, item_given}
use Rattle.numbering.specs.Bits.{register_bits}
use Rattle.numbering.specs.Numbering.{wires_in}
use Rattle.processes.specs.Statements.{Registers}

-- the edges of all registers at last, beside what is given before that
pub record Whole : Type 0 where
  pub nodes : List Node
  pub drives : List Drive
  pub ports : List Drive
  pub next : List Edge

-- at first each register has its own edge
abbrev pub own_edges : Setting → Instance → Registers
own_edges setting instance bit = wires_in setting instance.path bit.name bit.place

abbrev pub instance_given : Setting → Instance → ℕ → Given
instance_given setting instance =
    each (item_given setting instance) instance.definition.items (own_edges setting instance)

-- of instances from a node's number on
abbrev pub whole_from : Setting → ℕ → List Instance → Whole
whole_from setting next [] = record { nodes = []; drives = []; ports = []; next = [] }
whole_from setting next (instance ∷ others) =
    let one : Given = instance_given setting instance next in
    let rest : Whole = whole_from setting (next + length one.nodes) others in
    record {
      nodes = one.nodes ++ rest.nodes;
      drives = one.drives ++ rest.drives;
      ports = one.ports ++ rest.ports;
      next = map one.registers (register_bits instance.definition) ++ rest.next;
    }
