-- The nodes that items give read nodes before them, and so do those of all instances.
use Rattle.std.specs.Prelude.{◌≡◌, ℕ, ◌+◌, ◌<◌, ◌≤◌, List, [], ◌∷◌, ◌++◌, Bool, true, false, Option, None, Some, cond, length, map, option_map, position, refl, unwrap_or}
use Rattle.std.specs.List.{enumerate_from}
use Rattle.std.specs.Option.{option_to_list}
use Rattle.std.proofs.Common.{arith, length-append}
use Rattle.std.proofs.lemmas.List.Quantifiers.{position-Some}
use Rattle.flat_net.specs.declared.edge.Edge.{Edge}
use Rattle.flat_net.specs.Edges.{negated, plain, zero_edge}
use Rattle.lowering.specs.Expressions.{assigned, expression, only}
use Rattle.lowering.specs.Gates.{all_bits, any_bit, gate, parity}
use Rattle.lowering.specs.Lowered.{Lowered, after, nodes_of}
use Rattle.vlog_tree.specs.declared.expr.Expr.{Expr}
use Rattle.vlog_tree.specs.declared.item.GateKind.{GateKind}
use Rattle.vlog_tree.specs.declared.item.GateKind.TheVariants as kind
use Rattle.vlog_tree.specs.declared.item.Item.{Item}
use Rattle.vlog_tree.specs.declared.item.Item.TheVariants as item
use Rattle.vlog_tree.specs.declared.key.Key.{Key}
use Rattle.vlog_tree.specs.declared.left.Left.{Left}
use Rattle.vlog_tree.specs.declared.stmt.Stmt.{Stmt}
use Rattle.vlog_tree.specs.Meaning.Instances.{Child, Connection, Instance, child_of, connection_of, instances}
use Rattle.vlog_tree.specs.Meaning.Keys.{bit_count, key_of, same_key}
use Rattle.vlog_tree.specs.Meaning.Lefts.{left_bits}
use Rattle.vlog_tree.specs.Meaning.Names.{is_input}
use Rattle.vlog_tree.specs.Meaning.Setting.{Setting}
use Rattle.vlog_tree.specs.Meaning.Uses.{Text}
use Rattle.numbering.specs.Numbering.{edge_of, first_of_expressions, keys_with_nodes, wires_in}
use Rattle.processes.specs.Statements.{Registers}
use Rattle.flat_design.specs.Flat.{whole_of}
use Rattle.flat_design.specs.Instances.{instance_given, own_edges, whole_from}
use Rattle.flat_design.specs.Items.{Given, Giving, always_given, assign_given, child_given, connection_given, each, gate_given, gate_inputs, input_given, item_given, link_given, nothing_given}
use Rattle.flat_design.specs.Order.{AreOrdered}
use Rattle.flat_design.proofs.OrderLemmas.{AllBelow, IsOrdered, all_ordered, any_ordered, below_more, below_negated, given_ordered, inverted_ordered, ordered_append, parity_ordered}
use Rattle.flat_design.proofs.OrderExprLemmas.{assigned_ordered, in_order, only_below}
use Rattle.flat_design.proofs.OrderStatementLemmas.{RegistersBelow, registers_more, statement_keeps}

gate_ordered : (next : ℕ) → 0 < next → (sort : GateKind) (bits : List Edge) → AllBelow next bits → IsOrdered next (gate sort bits next)
gate_ordered next some kind.And bits below = all_ordered next some bits below
gate_ordered next some kind.Nand bits below = inverted_ordered next (all_bits bits) (all_ordered next some bits below)
gate_ordered next some kind.Or bits below = any_ordered next some bits below
gate_ordered next some kind.Nor bits below = inverted_ordered next (any_bit bits) (any_ordered next some bits below)
gate_ordered next some kind.Xor bits below = parity_ordered next some bits below
gate_ordered next some kind.Xnor bits below = inverted_ordered next (parity bits) (parity_ordered next some bits below)
gate_ordered next some kind.Buf bits below = given_ordered next bits below
gate_ordered next some kind.Not bits below = given_ordered next (map negated bits) (below_negated next bits below)

-- what an item gives: nodes that read nodes before them, and registers with edges of these and of what stands before
record IsGiven (next : ℕ) (done : Given) : Type 0 where
  nodes : AreOrdered next done.nodes
  registers : RegistersBelow (next + length done.nodes) done.registers

module _ (setting : Setting) where
  abbrev first : ℕ
  first = first_of_expressions setting

  some : 0 < first
  some = omega arith

  edge_below : (key : Key) → (edge_of setting key).node < first
  edge_below key = by (position (same_key key) (keys_with_nodes setting)) refl
    where
      by : (found : Option ℕ) → position (same_key key) (keys_with_nodes setting) ≡ found
          → (unwrap_or (option_map (λ place. plain (1 + place)) found) zero_edge).node < first
      by None is = some
      by (Some place) is =
          let within = position-Some (same_key key) (keys_with_nodes setting) place key is in omega (arith, within.0)

  named : (instance : Instance) (name : Text) (bit : ℕ) → (wires_in setting instance.path name bit).node < first
  named instance name bit = edge_below (key_of instance.path name bit)

  -- wherever it begins behind the nodes of bits
  abbrev Keeps : Giving → Type 0
  Keeps giving = (before : Registers) (next : ℕ) → first ≤ next → RegistersBelow next before → IsGiven next (giving before next)

  nothing_keeps : Keeps (λ before next. nothing_given before)
  nothing_keeps before next fits below = record { nodes = tt; registers = registers_more next (next + 0) before (omega arith) below }

  each_keeps : {X : Type 0} (giving : X → Giving) → ((x : X) → Keeps (giving x)) → (xs : List X) → Keeps (each giving xs)
  each_keeps giving one [] before next fits below = nothing_keeps before next fits below
  each_keeps giving one (x ∷ others) before next fits below =
      let done : Given = giving x before next in
      let number : ℕ = next + length done.nodes in
      let more : Given = each giving others done.registers number in
      let here = one x before next fits below in
      let rest = each_keeps giving one others done.registers number (omega (arith, fits)) here.registers in
      record {
        nodes = ordered_append next done.nodes more.nodes here.nodes rest.nodes;
        registers = registers_more (number + length more.nodes) (next + length (done.nodes ++ more.nodes)) more.registers
            (omega (arith, length-append done.nodes more.nodes)) rest.registers;
      }

  -- ---- items

  kept : (next count : ℕ) (before : Registers) → RegistersBelow next before → RegistersBelow (next + count) before
  kept next count before below = registers_more next (next + count) before (omega arith) below

  assign_keeps : (instance : Instance) (left : Left) (right : Expr) → Keeps (assign_given setting instance left right)
  assign_keeps instance left right before next fits below =
      let wide : ℕ = length (left_bits instance.definition left) in
      let is = assigned_ordered instance.definition (wires_in setting instance.path) first some (named instance) wide right next fits in
      record { nodes = is.nodes; registers = kept next (length (assigned instance.definition (wires_in setting instance.path) wide right next).nodes) before below }

  -- the inputs of a gate, one after another, and the lowest edge of each
  record AreInputs (next : ℕ) (parts : List Lowered) : Type 0 where
    nodes : AreOrdered next (nodes_of parts)
    edges : AllBelow (next + length (nodes_of parts)) (map (λ part. only part.edges) parts)

  inputs_ordered : (instance : Instance) (ins : List Expr) (next : ℕ) → first ≤ next → AreInputs next (gate_inputs setting instance ins next)
  inputs_ordered instance [] next fits = record { nodes = tt; edges = tt }
  inputs_ordered instance (input ∷ ins) next fits =
      let one : Lowered = expression instance.definition (wires_in setting instance.path) input 1 next in
      let number : ℕ = after next one in
      let others : List Lowered = gate_inputs setting instance ins number in
      let here = in_order instance.definition (wires_in setting instance.path) first some (named instance) input 1 next fits in
      let rest = inputs_ordered instance ins number (omega (arith, fits)) in
      let total : ℕ = next + length (one.nodes ++ nodes_of others) in
      let long : total ≡ number + length (nodes_of others) = omega (arith, length-append one.nodes (nodes_of others)) in
      record {
        nodes = ordered_append next one.nodes (nodes_of others) here.nodes rest.nodes;
        edges = (
          omega (arith, long, only_below number one.edges (omega (arith, some, fits)) here.edges),
          below_more (number + length (nodes_of others)) total (map (λ part. only part.edges) others) (omega (arith, long)) rest.edges,
        );
      }

  gate_keeps : (instance : Instance) (sort : GateKind) (outs : List Left) (ins : List Expr) → Keeps (gate_given setting instance sort outs ins)
  gate_keeps instance sort outs ins before next fits below =
      let inputs : List Lowered = gate_inputs setting instance ins next in
      let parts = inputs_ordered instance ins next fits in
      let number : ℕ = next + length (nodes_of inputs) in
      let end : Lowered = gate sort (map (λ input. only input.edges) inputs) number in
      let last = gate_ordered number (omega (arith, some, fits)) sort (map (λ input. only input.edges) inputs) parts.edges in
      record {
        nodes = ordered_append next (nodes_of inputs) end.nodes parts.nodes last.nodes;
        registers = kept next (length (nodes_of inputs ++ end.nodes)) before below;
      }

  input_keeps : (instance : Instance) (child : Child) (connection : Connection) → Keeps (input_given setting instance child connection)
  input_keeps instance child connection before next fits below =
      let wide : ℕ = bit_count child.definition connection.port in
      let is = assigned_ordered instance.definition (wires_in setting instance.path) first some (named instance) wide connection.expression next fits in
      record {
        nodes = is.nodes;
        registers = kept next (length (assigned instance.definition (wires_in setting instance.path) wide connection.expression next).nodes) before below;
      }

  connection_keeps : (instance : Instance) (child : Child) (connection : Connection) → Keeps (connection_given setting instance child connection)
  connection_keeps instance child connection before next fits below = by (is_input child.definition connection.port)
    where
      by : (test : Bool) → IsGiven next (record (cond test (input_given setting instance child connection before next) (nothing_given before)) { drives = (connection_given setting instance child connection before next).drives })
      by true = let is = input_keeps instance child connection before next fits below in record { nodes = is.nodes; registers = is.registers }
      by false = let is = nothing_keeps before next fits below in record { nodes = is.nodes; registers = is.registers }

  child_keeps : (instance : Instance) (child : Child) → Keeps (child_given setting instance child)
  child_keeps instance child =
      each_keeps (link_given setting instance child) (λ link. each_keeps (connection_given setting instance child)
      (connection_keeps instance child) (option_to_list (connection_of child.definition link))) (enumerate_from 0 child.links)

  others_keep : (instance : Instance) (found : Option Child) → Keeps (each (child_given setting instance) (option_to_list found))
  others_keep instance found = each_keeps (child_given setting instance) (child_keeps instance) (option_to_list found)

  always_keeps : (instance : Instance) (body : Stmt) → Keeps (always_given setting instance body)
  always_keeps instance body before next fits below =
      let is = statement_keeps instance.definition (wires_in setting instance.path) first some (named instance) body before next fits below in
      record { nodes = is.nodes; registers = is.registers }

  item_keeps : (instance : Instance) (one : Item) → Keeps (item_given setting instance one)
  item_keeps instance (item.Assign at left right) = assign_keeps instance left right
  item_keeps instance (item.Gate at sort name outs ins) = gate_keeps instance sort outs ins
  item_keeps instance (item.Always at clock body) = always_keeps instance body
  item_keeps instance (item.Decl at dir sort range name) = others_keep instance None
  item_keeps instance (item.Instance at inner name links) = others_keep instance (child_of setting.design (item.Instance at inner name links))
  item_keeps instance (item.Initial at name value) = others_keep instance None

  -- ---- instances

  instance_ordered : (instance : Instance) (next : ℕ) → first ≤ next → AreOrdered next (instance_given setting instance next).nodes
  instance_ordered instance next fits =
      (each_keeps (item_given setting instance) (item_keeps instance) instance.definition.items (own_edges setting instance) next fits
      (λ bit. omega (arith, fits, named instance bit.name bit.place))).nodes

  whole_ordered : (list : List Instance) (next : ℕ) → first ≤ next → AreOrdered next (whole_from setting next list).nodes
  whole_ordered [] next fits = tt
  whole_ordered (instance ∷ others) next fits =
      let one : Given = instance_given setting instance next in
      ordered_append next one.nodes (whole_from setting (next + length one.nodes) others).nodes (instance_ordered instance next fits)
      (whole_ordered others (next + length one.nodes) (omega (arith, fits)))

  pub expressions_ordered : AreOrdered first (whole_of setting).nodes
  expressions_ordered = whole_ordered (instances setting) first (omega arith)
