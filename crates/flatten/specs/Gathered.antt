-- What the items of all instances give to the flat netlist.
use Rattle.std.specs.Prelude.{◌≡◌, List, Option, unwrap_or}
use Rattle.drives.specs.Given.{given_so_far}
use Rattle.flat_design.specs.Flat.{whole_of}
use Rattle.flat_net.specs.declared.edge.Edge.{Edge}
use Rattle.flat_net.specs.declared.node.Node.{Node}
use Rattle.flat_net.specs.declared.node.Node.TheVariants.{Buf}
use Rattle.flat_net.specs.Edges.{zero_edge}
use Rattle.lowering.specs.Limits.{Added}
use Rattle.numbering.specs.Numbering.{first_of_expressions}
use Rattle.vlog_tree.specs.Meaning.Setting.{Setting}

-- the nodes of expressions, the first edge of each driven bit, and the next edges of all registers
pub record IsWhole (setting : Setting) (added : Added) (given : List (Option Edge)) (registers : List Edge) : Type 0 where
  pub first : added.first ≡ first_of_expressions setting
  pub nodes : added.nodes ≡ (whole_of setting).nodes
  pub driven : given ≡ given_so_far setting (whole_of setting).drives (whole_of setting).ports
  pub next : registers ≡ (whole_of setting).next

-- the node of a bit by the edge that it was given first, and zero where it was given none
abbrev pub node_given : Option Edge → Node
node_given edge = Buf (unwrap_or edge zero_edge)
