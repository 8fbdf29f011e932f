-- What statements give to registers, as edges.
use Rattle.std.specs.Prelude.{ℕ, ◌+◌, List, [], ◌∷◌, ◌++◌, Option, Some, None, filter, flat_map, length, map, slice_index_or}
use Rattle.std.specs.List.{list_any}
use Rattle.flat_net.specs.declared.edge.Edge.{Edge}
use Rattle.flat_net.specs.declared.node.Node.{Node}
use Rattle.flat_net.specs.Edges.{zero_edge}
use Rattle.lowering.specs.Expressions.{Wires, assigned, condition, only}
use Rattle.lowering.specs.Gates.{chosen_bits}
use Rattle.lowering.specs.Lowered.{Lowered}
use Rattle.vlog_tree.specs.declared.design.Module.{Module}
use Rattle.vlog_tree.specs.declared.expr.Expr.{Expr}
use Rattle.vlog_tree.specs.declared.left.Left.{Left}
use Rattle.vlog_tree.specs.declared.stmt.Stmt.{Stmt}
use Rattle.vlog_tree.specs.declared.stmt.Stmt.TheFolds.{fold-Stmt}
use Rattle.vlog_tree.specs.declared.stmt.Stmt.TheOpen.{Stmt-F}
use Rattle.vlog_tree.specs.Meaning.Lefts.{Bit, left_bits, number_in, same_bit}
use Rattle.numbering.specs.Bits.{register_bits}

-- the edge that each register bit of a module has so far
abbrev pub Registers : Type 0
Registers = Bit → Edge

-- these bits have these edges now
abbrev pub replaced : List Bit → List Edge → Registers → Registers
replaced bits edges before bit = elim (number_in bits bit) as (λ number. Edge) [
  | Some number ↦ slice_index_or edges number zero_edge
  | None ↦ before bit
]

-- nodes that are added, and the edges of the registers then
pub record Changed : Type 0 where
  pub nodes : List Node
  pub registers : Registers

abbrev pub changed : List Node → Registers → Changed
changed nodes registers = record { nodes = nodes; registers = registers }

-- by the edges before, and the number of the node that is added first
abbrev pub Change : Type 0
Change = Registers → ℕ → Changed

-- a statement: the bits that it assigns, and what it changes
pub record Process : Type 0 where
  pub assigns : List Bit
  pub change : Change

abbrev pub process : List Bit → Change → Process
process assigns change = record { assigns = assigns; change = change }

-- one change after another
abbrev pub then_change : Change → Change → Change
then_change first rest before next =
    let one : Changed = first before next in
    let two : Changed = rest one.registers (next + length one.nodes) in
    changed (one.nodes ++ two.nodes) two.registers

abbrev pub no_change : Change
no_change before next = changed [] before

abbrev pub in_order : List Process → Change
in_order [] = no_change
in_order (first ∷ others) = then_change first.change (in_order others)

abbrev pub block : List Process → Process
block body = process (flat_map (λ statement. statement.assigns) body) (in_order body)

-- an assignment: the edges of its left bits are replaced
abbrev pub set : Module → Wires → Left → Expr → Change
set m wires left right before next =
    let done : Lowered = assigned m wires (length (left_bits m left)) right next in
    changed done.nodes (replaced (left_bits m left) done.edges before)

-- the register bits that are among these, in their order
abbrev pub ordered : Module → List Bit → List Bit
ordered m bits = filter (λ bit. list_any (same_bit bit) bits) (register_bits m)

-- After the nodes of both branches: for each bit that either assigns, the edge that the condition chooses.
abbrev pub merged : Module → Edge → List Bit → Registers → Registers → Change
merged m choice bits first second before next =
    let done : Lowered = chosen_bits choice (map first (ordered m bits)) (map second (ordered m bits)) next in
    changed done.nodes (replaced (ordered m bits) done.edges before)

-- A condition, then the first branch, then the second from the same edges as the first.
abbrev pub branched : Module → Lowered → Process → Process → Change
branched m test first second before next =
    let one : Changed = first.change before (next + length test.nodes) in
    let two : Changed = second.change before (next + length test.nodes + length one.nodes) in
    let end : Changed = merged m (only test.edges) (first.assigns ++ second.assigns) one.registers two.registers before
    (next + length test.nodes + length one.nodes + length two.nodes) in
    changed (test.nodes ++ one.nodes ++ two.nodes ++ end.nodes) end.registers

abbrev pub nothing : Process
nothing = process [] no_change

abbrev pub other_process : Option Process → Process
other_process (Some other) = other
other_process None = nothing

abbrev pub process_at : Module → Wires → Stmt-F Process → Process
process_at m wires Stmt-F.Empty = nothing
process_at m wires (Stmt-F.Block body) = block body
process_at m wires (Stmt-F.If test first other) =
    process (first.assigns ++ (other_process other).assigns)
    (λ before next. branched m (condition m wires test next) first (other_process other) before next)
process_at m wires (Stmt-F.Set at left right) = process (left_bits m left) (set m wires left right)

-- a statement of a module in which the edges of names are these
abbrev pub process_of : Module → Wires → Stmt → Process
process_of m wires = fold-Stmt Process (process_at m wires)
