-- What items give stays within a count of nodes.
use Rattle.std.specs.Prelude.{ℕ, ◌+◌, ◌<◌, List, [], ◌∷◌, Bool, true, false, cond, flat_map, length, map, replicate, unwrap_or}
use Rattle.std.specs.List.{enumerate_from, range_with_len}
use Rattle.std.specs.Option.{option_to_list}
use Rattle.std.proofs.Common.{◌-◌}
use Rattle.flat_net.specs.declared.edge.Edge.{Edge}
use Rattle.flat_net.specs.Edges.{zero_edge}
use Rattle.flat_net.specs.Nets.{IsInner, IsWithin}
use Rattle.lowering.specs.Expressions.{Wires, assigned, expression, only}
use Rattle.lowering.specs.Gates.{gate}
use Rattle.lowering.specs.Lowered.{Lowered, Lowering, extended, nodes_of}
use Rattle.vlog_tree.specs.declared.expr.Expr.{Expr}
use Rattle.vlog_tree.specs.declared.item.GateKind.{GateKind}
use Rattle.vlog_tree.specs.declared.item.Item.{Item}
use Rattle.vlog_tree.specs.declared.item.Item.TheVariants as item
use Rattle.vlog_tree.specs.declared.item.Link.{Link}
use Rattle.vlog_tree.specs.declared.left.Left.{Left}
use Rattle.vlog_tree.specs.declared.stmt.Stmt.{Stmt}
use Rattle.vlog_tree.specs.Meaning.Instances.{Child, Connection, Instance, Path, child_of, connection_of, inside}
use Rattle.vlog_tree.specs.Meaning.Keys.{bit_count, key_of}
use Rattle.vlog_tree.specs.Meaning.Lefts.{Bit, left_bits, target_bits}
use Rattle.vlog_tree.specs.Meaning.Names.{is_input, is_output}
use Rattle.vlog_tree.specs.Meaning.Setting.{Setting}
use Rattle.vlog_tree.specs.Meaning.Uses.{Text}
use Rattle.numbering.specs.Numbering.{keyed, wires_in}
use Rattle.processes.specs.Statements.{Registers, process_of}
use Rattle.flat_design.specs.Items.{Drive, Given, Giving, always_given, assign_given, child_given, connection_given, each, gate_given, gate_inputs, gate_lowered, input_given, item_given, link_given, nothing_given, output_drives, port_edges}
use Rattle.flat_design.proofs.InsideLists.{Each, each-append, each-map, each-replicate, each-through, each-zip}
use Rattle.flat_design.proofs.InsideLowered.{AreInner, AreWithin, HasRoom, IsInside, StaysWithin, inside_assigned, inside_gate, inside_turns, lowered_inside, only_within, room_first, room_rest}
use Rattle.flat_design.proofs.InsideStatements.{AreRegistersWithin, ChangesWithin, statement_inside}

module _ (bound : ℕ) (positive : 0 < bound) where
  abbrev pub AreDrivesWithin : List Drive → Type 0
  AreDrivesWithin = Each (λ (drive : Drive). IsWithin bound drive.1)

  pub record GivesWithin (one : Given) : Type 0 where
    pub nodes : AreInner bound one.nodes
    pub drives : AreDrivesWithin one.drives
    pub ports : AreDrivesWithin one.ports
    pub registers : AreRegistersWithin bound positive one.registers

  -- What is given stays within the count, where its nodes fit and the registers were within it.
  abbrev pub IsGivingInside : Giving → Type 0
  IsGivingInside giving =
      (before : Registers) → AreRegistersWithin bound positive before → (next : ℕ) → HasRoom bound next (giving before next).nodes
      → GivesWithin (giving before next)

  -- ---- one after another

  each_inside : {X : Type 0} (giving : X → Giving) → ((x : X) → IsGivingInside (giving x)) → (xs : List X)
      → IsGivingInside (each giving xs)
  each_inside giving h [] before safe next room = record { nodes = tt; drives = tt; ports = tt; registers = safe }
  each_inside giving h (x ∷ others) before safe next room =
      let one : Given = giving x before next in
      let rest : Given = each giving others one.registers (next + length one.nodes) in
      let here : GivesWithin one = h x before safe next (room_first bound next one.nodes rest.nodes room) in
      let there : GivesWithin rest =
      each_inside giving h others one.registers here.registers (next + length one.nodes)
      (room_rest bound next one.nodes rest.nodes room) in
      record {
        nodes = each-append (IsInner bound) one.nodes rest.nodes here.nodes there.nodes;
        drives = each-append (λ (drive : Drive). IsWithin bound drive.1) one.drives rest.drives here.drives there.drives;
        ports = each-append (λ (drive : Drive). IsWithin bound drive.1) one.ports rest.ports here.ports there.ports;
        registers = there.registers;
      }

  module _ (setting : Setting) (named : (path : Path) (name : Text) (bit : ℕ) → IsWithin bound (wires_in setting path name bit)) where
    assign_inside : (instance : Instance) (left : Left) (right : Expr) → IsGivingInside (assign_given setting instance left right)
    assign_inside instance left right before safe next room =
        let bits : List Bit = left_bits instance.definition left in
        let wires : Wires = wires_in setting instance.path in
        let edges : List Edge = (assigned instance.definition wires (length bits) right next).edges in
        let done : StaysWithin bound (assigned instance.definition wires (length bits) right next) =
        inside_assigned bound positive instance.definition wires (named instance.path) (length bits) right next room in
        record {
          nodes = done.nodes;
          drives = each-zip (IsWithin bound) (keyed instance.path bits) edges done.edges;
          ports = tt;
          registers = safe;
        }

    -- ---- gates

    abbrev input_lowerings : Instance → List Expr → List Lowering
    input_lowerings instance ins = map (λ input. expression instance.definition (wires_in setting instance.path) input 1) ins

    inputs_inside : (instance : Instance) (ins : List Expr) → Each (IsInside bound) (input_lowerings instance ins)
    inputs_inside instance ins =
        each-map (IsInside bound) (λ input. expression instance.definition (wires_in setting instance.path) input 1)
        (λ input. lowered_inside bound positive instance.definition (wires_in setting instance.path) (named instance.path) input 1) ins

    gate_inside : (instance : Instance) (kind : GateKind) (ins : List Expr) → IsInside bound (gate_lowered setting instance kind ins)
    gate_inside instance kind ins next room =
        let inputs : List Lowered = gate_inputs setting instance ins next in
        let edges : List Edge = map (λ input. only input.edges) inputs in
        let then : ℕ = next + length (nodes_of inputs) in
        let end : Lowered = gate kind edges then in
        let first = inside_turns bound positive (input_lowerings instance ins) (inputs_inside instance ins) next
        (room_first bound next (nodes_of inputs) end.nodes room) in
        let within : AreWithin bound edges =
        each-through (λ (part : Lowered). AreWithin bound part.edges) (IsWithin bound) (λ (input : Lowered). only input.edges)
        (λ input h. only_within bound positive input.edges h) inputs first.1 in
        let last : StaysWithin bound end =
        inside_gate bound positive kind edges within then (room_rest bound next (nodes_of inputs) end.nodes room) in
        record { nodes = each-append (IsInner bound) (nodes_of inputs) end.nodes first.0 last.nodes; edges = last.edges }

    gate_item_inside : (instance : Instance) (kind : GateKind) (outs : List Left) (ins : List Expr)
        → IsGivingInside (gate_given setting instance kind outs ins)
    gate_item_inside instance kind outs ins before safe next room =
        let done : StaysWithin bound (gate_lowered setting instance kind ins next) = gate_inside instance kind ins next room in
        let edges : List Edge = (gate_lowered setting instance kind ins next).edges in
        record {
          nodes = done.nodes;
          drives =
              each-map (λ (drive : Drive). IsWithin bound drive.1) (λ key. (key, only edges))
              (λ key. only_within bound positive edges done.edges)
              (keyed instance.path (flat_map (left_bits instance.definition) outs));
          ports = tt;
          registers = safe;
        }

    -- ---- instances

    input_inside : (instance : Instance) (child : Child) (connection : Connection)
        → IsGivingInside (input_given setting instance child connection)
    input_inside instance child connection before safe next room =
        let count : ℕ = bit_count child.definition connection.port in
        let wires : Wires = wires_in setting instance.path in
        let edges : List Edge = (assigned instance.definition wires count connection.expression next).edges in
        let done : StaysWithin bound (assigned instance.definition wires count connection.expression next) =
        inside_assigned bound positive instance.definition wires (named instance.path) count connection.expression next room in
        record {
          nodes = done.nodes;
          drives = tt;
          ports =
              each-zip (IsWithin bound) (map (key_of (inside instance.path child).path connection.port) (range_with_len 0 count))
              edges done.edges;
          registers = safe;
        }

    outputs_within : (instance : Instance) (child : Child) (connection : Connection)
        → AreDrivesWithin (output_drives setting instance child connection)
    outputs_within instance child connection =
        let bits : List Bit = unwrap_or (target_bits instance.definition connection.expression) [] in
        let edges : List Edge = port_edges setting instance child connection.port in
        each-zip (IsWithin bound) (keyed instance.path bits) (extended (length bits) edges)
        (each-append (IsWithin bound) edges (replicate (length bits - length edges) zero_edge)
        (each-map (IsWithin bound) (wires_in setting (inside instance.path child).path connection.port)
        (named (inside instance.path child).path connection.port) (range_with_len 0 (bit_count child.definition connection.port)))
        (each-replicate (IsWithin bound) (length bits - length edges) zero_edge positive))

    into_inside : (instance : Instance) (child : Child) (connection : Connection) (b : Bool) (before : Registers)
        → AreRegistersWithin bound positive before → (next : ℕ)
        → HasRoom bound next (cond b (input_given setting instance child connection before next) (nothing_given before)).nodes
        → GivesWithin (cond b (input_given setting instance child connection before next) (nothing_given before))
    into_inside instance child connection true before safe next room = input_inside instance child connection before safe next room
    into_inside instance child connection false before safe next room =
        record { nodes = tt; drives = tt; ports = tt; registers = safe }

    outputs_or_none : (instance : Instance) (child : Child) (connection : Connection) (b : Bool)
        → AreDrivesWithin (cond b (output_drives setting instance child connection) [])
    outputs_or_none instance child connection true = outputs_within instance child connection
    outputs_or_none instance child connection false = tt

    connection_inside : (instance : Instance) (child : Child) (connection : Connection)
        → IsGivingInside (connection_given setting instance child connection)
    connection_inside instance child connection before safe next room =
        let into = into_inside instance child connection (is_input child.definition connection.port) before safe next room in
        record {
          nodes = into.nodes;
          drives = outputs_or_none instance child connection (is_output child.definition connection.port);
          ports = into.ports;
          registers = into.registers;
        }

    link_inside : (instance : Instance) (child : Child) (link : ℕ × Link) → IsGivingInside (link_given setting instance child link)
    link_inside instance child link =
        each_inside (connection_given setting instance child) (connection_inside instance child)
        (option_to_list (connection_of child.definition link))

    child_inside : (instance : Instance) (child : Child) → IsGivingInside (child_given setting instance child)
    child_inside instance child =
        each_inside (link_given setting instance child) (link_inside instance child) (enumerate_from 0 child.links)

    -- ---- items

    always_inside : (instance : Instance) (body : Stmt) → IsGivingInside (always_given setting instance body)
    always_inside instance body before safe next room =
        let wires : Wires = wires_in setting instance.path in
        let done : ChangesWithin bound positive ((process_of instance.definition wires body).change before next) =
        statement_inside bound positive instance.definition wires (named instance.path) body before safe next room in
        record { nodes = done.nodes; drives = tt; ports = tt; registers = done.registers }

    children_inside : (instance : Instance) (one : Item)
        → IsGivingInside (each (child_given setting instance) (option_to_list (child_of setting.design one)))
    children_inside instance one =
        each_inside (child_given setting instance) (child_inside instance) (option_to_list (child_of setting.design one))

    item_inside : (instance : Instance) (one : Item) → IsGivingInside (item_given setting instance one)
    item_inside instance (item.Assign at left right) = assign_inside instance left right
    item_inside instance (item.Gate at kind name outs ins) = gate_item_inside instance kind outs ins
    item_inside instance (item.Always at clock body) = always_inside instance body
    item_inside instance (item.Decl at dir kind range name) = children_inside instance (item.Decl at dir kind range name)
    item_inside instance (item.Instance at module_name name links) = children_inside instance (item.Instance at module_name name links)
    item_inside instance (item.Initial at name value) = children_inside instance (item.Initial at name value)

    pub items_inside : (instance : Instance) (items : List Item) → IsGivingInside (each (item_given setting instance) items)
    items_inside instance items = each_inside (item_given setting instance) (item_inside instance) items
