-- What the items of an instance give: nodes, and the edges of the bits that they drive.
use Rattle.std.specs.Prelude.{ℕ, ◌+◌, List, [], ◌∷◌, ◌++◌, cond, flat_map, length, map, unwrap_or}
use Rattle.std.specs.List.{enumerate_from, range_with_len, zip}
use Rattle.std.specs.Option.{option_to_list}
use Rattle.flat_net.specs.declared.edge.Edge.{Edge}
use Rattle.flat_net.specs.declared.node.Node.{Node}
use Rattle.lowering.specs.Expressions.{assigned, expression, only}
use Rattle.lowering.specs.Gates.{gate}
use Rattle.lowering.specs.Lowered.{Lowered, Lowering, extended, in_turn, lowered, nodes_of}
use Rattle.vlog_tree.specs.declared.expr.Expr.{Expr}
use Rattle.vlog_tree.specs.declared.item.GateKind.{GateKind}
use Rattle.vlog_tree.specs.declared.item.Item.{Item}
use Rattle.vlog_tree.specs.declared.item.Item.TheVariants as item
use Rattle.vlog_tree.specs.declared.item.Link.{Link}
use Rattle.vlog_tree.specs.declared.key.Key.{Key}
use Rattle.vlog_tree.specs.declared.left.Left.{Left}
use Rattle.vlog_tree.specs.declared.stmt.Stmt.{Stmt}
use Rattle.vlog_tree.specs.Meaning.Instances.{Child, Connection, Instance, child_of, connection_of, inside}
use Rattle.vlog_tree.specs.Meaning.Keys.{bit_count, key_of}
use Rattle.vlog_tree.specs.Meaning.Lefts.{Bit, left_bits, target_bits}
use Rattle.vlog_tree.specs.Meaning.Names.{is_input, is_output}
use Rattle.vlog_tree.specs.Meaning.Setting.{Setting}
use Rattle.vlog_tree.specs.Meaning.Uses.{Text}
use Rattle.numbering.specs.Numbering.{keyed, wires_in}
use Rattle.processes.specs.Statements.{Changed, Registers, process_of}

-- a bit and the edge that it is given
abbrev pub Drive : Type 0
Drive = Key × Edge

pub record Given : Type 0 where
  -- the nodes that are added
  pub nodes : List Node
  -- the bits of nets that assignments, gates and the outputs of instances drive
  pub drives : List Drive
  -- the bits of input ports, by what is connected to them
  pub ports : List Drive
  -- the edges of the registers of the instance
  pub registers : Registers

-- ---- continuous assignments

abbrev pub assign_given : Setting → Instance → Left → Expr → Registers → ℕ → Given
assign_given setting instance left right before next =
    let bits : List Bit = left_bits instance.definition left in
    let done : Lowered = assigned instance.definition (wires_in setting instance.path) (length bits) right next in
    record { nodes = done.nodes; drives = zip (keyed instance.path bits) done.edges; ports = []; registers = before }

-- ---- gates

abbrev pub gate_inputs : Setting → Instance → List Expr → ℕ → List Lowered
gate_inputs setting instance ins =
    in_turn (map (λ input. expression instance.definition (wires_in setting instance.path) input 1) ins)

abbrev pub gate_lowered : Setting → Instance → GateKind → List Expr → Lowering
gate_lowered setting instance kind ins next =
    let inputs : List Lowered = gate_inputs setting instance ins next in
    let end : Lowered = gate kind (map (λ input. only input.edges) inputs) (next + length (nodes_of inputs)) in
    lowered (nodes_of inputs ++ end.nodes) end.edges

abbrev pub gate_given : Setting → Instance → GateKind → List Left → List Expr → Registers → ℕ → Given
gate_given setting instance kind outs ins before next =
    let done : Lowered = gate_lowered setting instance kind ins next in
    record {
      nodes = done.nodes;
      drives = map (λ key. (key, only done.edges)) (keyed instance.path (flat_map (left_bits instance.definition) outs));
      ports = [];
      registers = before;
    }

-- ---- instances

-- what is connected to an input port, and the bits of the port that are given its edges
abbrev pub input_given : Setting → Instance → Child → Connection → Registers → ℕ → Given
input_given setting instance child connection before next =
    let count : ℕ = bit_count child.definition connection.port in
    let done : Lowered = assigned instance.definition (wires_in setting instance.path) count connection.expression next in
    record {
      nodes = done.nodes;
      drives = [];
      ports = zip (map (key_of (inside instance.path child).path connection.port) (range_with_len 0 count)) done.edges;
      registers = before;
    }

-- the edges of a port of a child
abbrev pub port_edges : Setting → Instance → Child → Text → List Edge
port_edges setting instance child port =
    map (wires_in setting (inside instance.path child).path port) (range_with_len 0 (bit_count child.definition port))

-- What is connected to an output port is given the port's edges, and zeros above them.
abbrev pub output_drives : Setting → Instance → Child → Connection → List Drive
output_drives setting instance child connection =
    let bits : List Bit = unwrap_or (target_bits instance.definition connection.expression) [] in
    zip (keyed instance.path bits) (extended (length bits) (port_edges setting instance child connection.port))

abbrev pub nothing_given : Registers → Given
nothing_given before = record { nodes = []; drives = []; ports = []; registers = before }

abbrev pub connection_given : Setting → Instance → Child → Connection → Registers → ℕ → Given
connection_given setting instance child connection before next =
    let into : Given = cond (is_input child.definition connection.port)
    (input_given setting instance child connection before next) (nothing_given before) in
    record into {
      drives = cond (is_output child.definition connection.port) (output_drives setting instance child connection) [];
    }

-- ---- one after another

abbrev pub Giving : Type 0
Giving = Registers → ℕ → Given

abbrev pub followed_by : Given → Given → Given
followed_by one rest = record {
  nodes = one.nodes ++ rest.nodes;
  drives = one.drives ++ rest.drives;
  ports = one.ports ++ rest.ports;
  registers = rest.registers;
}

abbrev pub each : {X : Type 0} → (X → Giving) → List X → Giving
each giving [] before next = nothing_given before
each giving (x ∷ others) before next =
    let one : Given = giving x before next in
    followed_by one (each giving others one.registers (next + length one.nodes))

abbrev pub link_given : Setting → Instance → Child → ℕ × Link → Giving
link_given setting instance child link =
    each (connection_given setting instance child) (option_to_list (connection_of child.definition link))

abbrev pub child_given : Setting → Instance → Child → Giving
child_given setting instance child = each (link_given setting instance child) (enumerate_from 0 child.links)

-- ---- items

abbrev pub always_given : Setting → Instance → Stmt → Giving
always_given setting instance body before next =
    let done : Changed = (process_of instance.definition (wires_in setting instance.path) body).change before next in
    record { nodes = done.nodes; drives = []; ports = []; registers = done.registers }

abbrev pub item_given : Setting → Instance → Item → Giving
item_given setting instance (item.Assign at left right) = assign_given setting instance left right
item_given setting instance (item.Gate at kind name outs ins) = gate_given setting instance kind outs ins
item_given setting instance (item.Always at clock body) = always_given setting instance body
item_given setting instance other =
    each (child_given setting instance) (option_to_list (child_of setting.design other))
