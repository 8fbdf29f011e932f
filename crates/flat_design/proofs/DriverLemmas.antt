-- The first edge that an item gives to a bit has the value of the item's first driver of it.
use Rattle.std.specs.Prelude.{◌≡◌, ℕ, ◌+◌, ◌-◌, ◌<◌, ◌≤◌, List, [], ◌∷◌, ◌++◌, Bool, true, false, Option, None, Some, cond, filter_map, flat_map, length, map, max, nat_lt, option_and_then, option_map, refl, replicate, unwrap_or}
use Rattle.std.specs.List.{enumerate_from, list_all, range_with_len, zip}
use Rattle.std.specs.Option.{option_to_list}
use Rattle.std.proofs.Common.{ap, arith, sym, subst, ◌∙◌}
use Rattle.std.proofs.lemmas.Bool.{and_parts, ltb-false, ltb-true}
use Rattle.std.proofs.lemmas.Bool.Decides.{Decides-eqb}
use Rattle.std.proofs.lemmas.List.{length-append, length-map, length-replicate, map-append}
use Rattle.std.proofs.lemmas.List.FromFn.{length-map-range_with_len}
use Rattle.flat_net.specs.declared.edge.Edge.{Edge}
use Rattle.flat_net.specs.Edges.{zero_edge}
use Rattle.flat_net.specs.Values.{Reading, edge_value}
use Rattle.vlog_tree.specs.declared.expr.Expr.{Expr}
use Rattle.vlog_tree.specs.declared.item.GateKind.{GateKind}
use Rattle.vlog_tree.specs.declared.item.Item.{Item}
use Rattle.vlog_tree.specs.declared.item.Item.TheVariants as item
use Rattle.vlog_tree.specs.declared.key.Key.{Key}
use Rattle.vlog_tree.specs.declared.left.Left.{Left}
use Rattle.vlog_tree.specs.Meaning.Drivers.{Driver, child_drivers, expression as of_expression, gate as of_gate, gate_driver, item_drivers, outputs_of, port, port_driver}
use Rattle.vlog_tree.specs.Meaning.Expressions.{expr_bit}
use Rattle.vlog_tree.specs.Meaning.Instances.{Child, Connection, Instance, child_of, connection_of, connections, inside}
use Rattle.vlog_tree.specs.Meaning.Keys.{bit_count, key_of}
use Rattle.vlog_tree.specs.Meaning.Lefts.{Bit, left_bits, number_in, target_bits}
use Rattle.vlog_tree.specs.Meaning.Names.{is_output}
use Rattle.vlog_tree.specs.Meaning.Setting.{Setting}
use Rattle.vlog_tree.specs.Meaning.Value.{child_bit, driver_bit, names_in}
use Rattle.vlog_tree.specs.Meaning.Value as meaning
use Rattle.vlog_tree.specs.Meaning.Widths.{width}
use Rattle.lowering.specs.Expressions.{Wires, assigned, expression, only, width_of}
use Rattle.lowering.specs.Gates.{gate}
use Rattle.lowering.specs.Lowered.{Lowered, extended, nodes_of}
use Rattle.lowering.specs.Meaning.{Carries, HasNames, HasZero, Holds, Relation, edge_at, is_sound, takes}
use Rattle.lowering.proofs.EdgeLemmas.{length_carries, zero_carries}
use Rattle.lowering.proofs.LawLemmas.{assigned_means, edge_count, expression_means, gate_means}
use Rattle.lowering.proofs.LoweredLemmas.{holds-append}
use Rattle.lowering.proofs.RelationLemmas.{IsKept}
use Rattle.numbering.specs.Numbering.{key_in, keyed, wires_in}
use Rattle.processes.specs.Statements.{Registers}
use Rattle.design_laws.specs.Sound.{input_is_sound, is_one, item_is_sound, left_is_sound, output_is_sound}
use Rattle.design_laws.specs.Grammar.{is_by_grammar}
use Rattle.flat_design.specs.Items.{assign_given, child_given, connection_given, gate_given, gate_inputs, gate_lowered, item_given, link_given, output_drives, port_edges}
use Rattle.flat_design.proofs.DriveLemmas.{Agrees, agrees_append, agrees_bits, agrees_each, first_append, first_edge}
use Rattle.flat_design.proofs.GivenLemmas.{drives_part, each_agrees}
use Rattle.flat_design.proofs.PlacesLemmas.{flat_given, flat_kept, given_flat, left_place, only_place, right_place, run_place, same_place}

-- the only edge of a list is that at place 0
only_at : (read : Reading) (edges : List Edge) → 0 < length edges → edge_at read edges 0 ≡ edge_value read (only edges)
only_at read [] some = absurd (omega arith)
only_at read (edge ∷ edges) some = refl

one_wide : (o : Option ℕ) → is_one o ≡ true → unwrap_or o 0 ≡ 1
one_wide None one = absurd cc
one_wide (Some width) one = (Decides-eqb width 1).0 one

-- ---- edges of ports, and zeros above them

port_place : (read : Reading) (f : ℕ → Edge) (count width n : ℕ) → n < count
    → edge_at read (extended width (map f (range_with_len 0 count))) n ≡ edge_value read (f n)
port_place read f count width n within =
    let edges : List Edge = map f (range_with_len 0 count) in
    let long : length edges ≡ count = length-map-range_with_len f 0 count in
    ap (option_and_then (edge_value read))
    (left_place edges (replicate (width - length edges) zero_edge) n (omega (arith, long)) ∙ run_place f 0 count n within)
    ∙ ap (λ place. edge_value read (f place)) {x = 0 + n} {y = n} (omega arith)

zero_place : (read : Reading) (f : ℕ → Edge) (count width n : ℕ) → count ≤ n → n < width
    → edge_at read (extended width (map f (range_with_len 0 count))) n ≡ edge_value read zero_edge
zero_place read f count width n above within =
    let edges : List Edge = map f (range_with_len 0 count) in
    let long : length edges ≡ count = length-map-range_with_len f 0 count in
    ap (option_and_then (edge_value read))
    (right_place edges (replicate (width - length edges) zero_edge) n (omega (arith, long))
    ∙ same_place (width - length edges) zero_edge (n - length edges) (omega (arith, long)))

long_enough : (width : ℕ) (edges : List Edge) → width ≤ length (extended width edges)
long_enough width edges =
    let all : length (extended width edges) ≡ length edges + length (replicate (width - length edges) zero_edge) =
    length-append edges (replicate (width - length edges) zero_edge) in
    let zeros : length (replicate (width - length edges) zero_edge) ≡ width - length edges =
    length-replicate (width - length edges) zero_edge in
    omega (arith, all, zeros)

module _ (rel : Relation) (kept : IsKept rel) (setting : Setting) (reading : meaning.Reading) (read : Reading) (state row : List Bool)
    (none : HasZero rel read) (instance : Instance)
    (named : HasNames rel read instance.definition (names_in reading instance.path) (wires_in setting instance.path)) (bit : Bit) where
  abbrev value : Driver → Option Bool
  value = driver_bit reading instance.path instance.definition

  abbrev key : Key
  key = key_in instance.path bit

  abbrev AgreeWith : List Driver → Option Edge → Type 0
  AgreeWith = Agrees rel read value

  -- ---- assignments

  assign_agrees : (left : Left) (right : Expr) → is_sound instance.definition right ≡ true → (before : Registers) (next : ℕ)
      → Holds rel read state row next (assign_given setting instance left right before next).nodes
      → AgreeWith
      (option_to_list (option_map (of_expression right (length (left_bits instance.definition left)))
      (number_in (left_bits instance.definition left) bit)))
      (first_edge (assign_given setting instance left right before next).drives key)
  assign_agrees left right sound before next holds =
      let bits : List Bit = left_bits instance.definition left in
      let wires : Wires = wires_in setting instance.path in
      let edges : List Edge = (assigned instance.definition wires (length bits) right next).edges in
      let count : length edges ≡ max (length bits) (width_of instance.definition right) =
      edge_count instance.definition wires right (max (length bits) (width_of instance.definition right)) next sound (omega arith) in
      agrees_bits rel read value (of_expression right (length bits)) instance.path bits edges bit (omega (arith, count))
      (λ n within. assigned_means rel kept instance.definition (names_in reading instance.path) wires state row read (length bits) right
      next sound none named holds n (omega arith))

  -- ---- gates

  inputs_carry : (ins : List Expr) (next : ℕ) → list_all (input_is_sound instance.definition) ins ≡ true
      → Holds rel read state row next (nodes_of (gate_inputs setting instance ins next))
      → Carries rel read (map (λ input. expr_bit instance.definition (names_in reading instance.path) input 1 0) ins)
      (map (λ input. only input.edges) (gate_inputs setting instance ins next))
  inputs_carry [] next sound holds = tt
  inputs_carry (input ∷ ins) next sound holds =
      let m = instance.definition in
      let wires : Wires = wires_in setting instance.path in
      let tests : (input_is_sound m input ≡ true) × (list_all (input_is_sound m) ins ≡ true) =
      and_parts (input_is_sound m input) (list_all (input_is_sound m) ins) sound in
      let one : (is_sound m input ≡ true) × (is_one (width m input) ≡ true) =
      and_parts (is_sound m input) (is_one (width m input)) tests.0 in
      let narrow : width_of m input ≡ 1 = one_wide (width m input) one.1 in
      let first : Lowered = expression m wires input 1 next in
      let both = holds-append rel read state row next first.nodes
      (nodes_of (gate_inputs setting instance ins (next + length first.nodes))) holds in
      let count : length first.edges ≡ 1 = edge_count m wires input 1 next one.0 (omega (arith, narrow)) in (
        subst (rel (expr_bit m (names_in reading instance.path) input 1 0)) (only_at read first.edges (omega (arith, count)))
            (expression_means rel kept m (names_in reading instance.path) wires state row read input 1 next one.0 (omega (arith, narrow))
            none named both.0 0 (omega arith)),
        inputs_carry ins (next + length first.nodes) tests.1 both.1,
      )

  gate_carries : (kind : GateKind) (ins : List Expr) (next : ℕ) → list_all (input_is_sound instance.definition) ins ≡ true
      → takes kind (length ins) ≡ true
      → Holds rel read state row next (gate_lowered setting instance kind ins next).nodes
      → rel (value (of_gate kind ins)) (edge_value read (only (gate_lowered setting instance kind ins next).edges))
  gate_carries kind ins next sound fits holds =
      let inputs : List Lowered = gate_inputs setting instance ins next in
      let edges : List Edge = map (λ (input : Lowered). only input.edges) inputs in
      let values : List (Option Bool) = map (λ input. expr_bit instance.definition (names_in reading instance.path) input 1 0) ins in
      let both = holds-append rel read state row next (nodes_of inputs) (gate kind edges (next + length (nodes_of inputs))).nodes holds in
      let carried : Carries rel read values edges = inputs_carry ins next sound both.0 in
      let count : length ins ≡ length edges =
      sym (length-map ins (λ input. expr_bit instance.definition (names_in reading instance.path) input 1 0))
      ∙ length_carries rel kept read values edges carried in
      gate_means rel kept state row read kind values edges (next + length (nodes_of inputs))
      (subst (λ count. takes kind count ≡ true) count fits) none carried both.1

  outs_agree : (kind : GateKind) (ins : List Expr) (edge : Edge) → rel (value (of_gate kind ins)) (edge_value read edge)
      → (outs : List Left)
      → AgreeWith (flat_map (λ out. option_to_list (gate_driver instance.definition bit kind ins out)) outs)
      (first_edge (map (λ key. (key, edge)) (keyed instance.path (flat_map (left_bits instance.definition) outs))) key)
  outs_agree kind ins edge means [] = refl
  outs_agree kind ins edge means (out ∷ outs) =
      let bits : List Bit = left_bits instance.definition out in
      let rest : List Bit = flat_map (left_bits instance.definition) outs in
      let entries : List Driver = flat_map (λ out. option_to_list (gate_driver instance.definition bit kind ins out)) outs in
      let one : List Driver = option_to_list (gate_driver instance.definition bit kind ins out) in
      subst (AgreeWith (one ++ entries))
      (sym (ap (λ keys. first_edge (map (λ key. (key, edge)) keys) key) (map-append (key_in instance.path) bits rest)
      ∙ ap (λ drives. first_edge drives key) (map-append (λ key. (key, edge)) (keyed instance.path bits) (keyed instance.path rest))
      ∙ first_append (map (λ key. (key, edge)) (keyed instance.path bits)) (map (λ key. (key, edge)) (keyed instance.path rest)) key))
      (agrees_append rel read value one entries
      (first_edge (map (λ key. (key, edge)) (keyed instance.path bits)) key)
      (first_edge (map (λ key. (key, edge)) (keyed instance.path rest)) key)
      (agrees_each rel read value (of_gate kind ins) instance.path bits edge bit means)
      (outs_agree kind ins edge means outs))

  gate_agrees : (kind : GateKind) (outs : List Left) (ins : List Expr) → list_all (input_is_sound instance.definition) ins ≡ true
      → takes kind (length ins) ≡ true → (before : Registers) (next : ℕ)
      → Holds rel read state row next (gate_given setting instance kind outs ins before next).nodes
      → AgreeWith (filter_map (gate_driver instance.definition bit kind ins) outs)
      (first_edge (gate_given setting instance kind outs ins before next).drives key)
  gate_agrees kind outs ins sound fits before next holds =
      let edge : Edge = only (gate_lowered setting instance kind ins next).edges in
      subst (λ entries. AgreeWith entries
      (first_edge (map (λ key. (key, edge)) (keyed instance.path (flat_map (left_bits instance.definition) outs))) key))
      (sym (given_flat (gate_driver instance.definition bit kind ins) outs))
      (outs_agree kind ins edge (gate_carries kind ins next sound fits holds) outs)

  -- ---- outputs of children

  -- The bits of the child's names have edges with their values.
  abbrev pub ChildNamed : Child → Type 0
  ChildNamed child =
      HasNames rel read child.definition (names_in reading (inside instance.path child).path)
      (wires_in setting (inside instance.path child).path)

  abbrev port_count : Child → Connection → ℕ
  port_count child connection = bit_count child.definition connection.port

  abbrev port_wires : Child → Connection → ℕ → Edge
  port_wires child connection = wires_in setting (inside instance.path child).path connection.port

  abbrev port_found : Child → Connection → ℕ → ℕ → Option Bool
  port_found child connection width n =
      edge_at read (extended width (map (port_wires child connection) (range_with_len 0 (port_count child connection)))) n

  port_means : (child : Child) → ChildNamed child → (connection : Connection) (width n : ℕ) → n < width
      → rel (child_bit reading instance.path child connection.port n)
      (edge_at read (extended width (port_edges setting instance child connection.port)) n)
  port_means child inner connection width n within = by (nat_lt n (port_count child connection)) refl
    where
      by : (b : Bool) → nat_lt n (port_count child connection) ≡ b
          → rel (cond b (reading (key_of (instance.path ++ child.name ∷ []) connection.port n)) (Some false))
          (port_found child connection width n)
      by true is =
          let below : n < port_count child connection = ltb-true n (port_count child connection) is in
          subst (rel (reading (key_of (instance.path ++ child.name ∷ []) connection.port n)))
          (sym (port_place read (port_wires child connection) (port_count child connection) width n below)) (inner connection.port n below)
      by false is =
          subst (rel (Some false))
          (sym (zero_place read (port_wires child connection) (port_count child connection) width n
          (ltb-false n (port_count child connection) is) within))
          (zero_carries rel kept read none)

  -- what a connection to an output port drives
  abbrev output_entries : Child → Connection → List Driver
  output_entries child connection =
      cond (is_output child.definition connection.port) (option_to_list (port_driver instance.definition bit child connection)) []

  output_agrees : (child : Child) → ChildNamed child → (connection : Connection)
      → AgreeWith (option_to_list (port_driver instance.definition bit child connection))
      (first_edge (output_drives setting instance child connection) key)
  output_agrees child inner connection = by (target_bits instance.definition connection.expression)
    where
      by : (o : Option (List Bit))
          → AgreeWith (option_to_list (option_and_then (λ bits. option_map (port child connection.port) (number_in bits bit)) o))
          (first_edge (zip (keyed instance.path (unwrap_or o []))
          (extended (length (unwrap_or o [])) (port_edges setting instance child connection.port))) key)
      by None = refl
      by (Some bits) =
          let edges : List Edge = extended (length bits) (port_edges setting instance child connection.port) in
          agrees_bits rel read value (port child connection.port) instance.path bits edges bit
          (long_enough (length bits) (port_edges setting instance child connection.port))
          (λ n within. port_means child inner connection (length bits) n within)

  connection_agrees : (child : Child) → ChildNamed child → (connection : Connection) (before : Registers) (next : ℕ)
      → AgreeWith (output_entries child connection) (first_edge (connection_given setting instance child connection before next).drives key)
  connection_agrees child inner connection before next =
      by (is_output child.definition connection.port) (output_agrees child inner connection)
    where
      by : (b : Bool)
          → AgreeWith (option_to_list (port_driver instance.definition bit child connection))
          (first_edge (output_drives setting instance child connection) key)
          → AgreeWith (cond b (option_to_list (port_driver instance.definition bit child connection)) [])
          (first_edge (cond b (output_drives setting instance child connection) []) key)
      by true h = h
      by false h = refl

  -- the drivers of a child, connection by connection
  child_entries : (child : Child) → child_drivers instance.definition bit child
      ≡ flat_map (λ link. flat_map (output_entries child) (option_to_list (connection_of child.definition link)))
      (enumerate_from 0 child.links)
  child_entries child =
      given_flat (port_driver instance.definition bit child) (outputs_of child)
      ∙ flat_kept (λ connection. option_to_list (port_driver instance.definition bit child connection))
      (λ connection. is_output child.definition connection.port) (connections child)
      ∙ flat_given (output_entries child) (connection_of child.definition) (enumerate_from 0 child.links)

  child_agrees : (child : Child) → ChildNamed child → (before : Registers) (next : ℕ)
      → Holds rel read state row next (child_given setting instance child before next).nodes
      → AgreeWith (child_drivers instance.definition bit child) (first_edge (child_given setting instance child before next).drives key)
  child_agrees child inner before next holds =
      subst (λ entries. AgreeWith entries (first_edge (child_given setting instance child before next).drives key))
      (sym (child_entries child))
      (each_agrees (λ given. given.drives) drives_part key (link_given setting instance child) rel read state row value
      (λ link. flat_map (output_entries child) (option_to_list (connection_of child.definition link))) (enumerate_from 0 child.links)
      (λ j link at before next holds.
      each_agrees (λ given. given.drives) drives_part key (connection_given setting instance child) rel read state row value
      (output_entries child) (option_to_list (connection_of child.definition link))
      (λ i connection there before next holds. connection_agrees child inner connection before next) before next holds)
      before next holds)

  -- ---- items

  pub item_agrees : (one : Item) → item_is_sound setting.design instance.definition one ≡ true → is_by_grammar one ≡ true
      → ((child : Child) → child_of setting.design one ≡ Some child → ChildNamed child) → (before : Registers) (next : ℕ)
      → Holds rel read state row next (item_given setting instance one before next).nodes
      → AgreeWith (item_drivers setting.design instance.definition bit one)
      (first_edge (item_given setting instance one before next).drives key)
  item_agrees (item.Decl at dir kind range name) sound fits inner before next holds = refl
  item_agrees (item.Assign at left right) sound fits inner before next holds =
      assign_agrees left right (and_parts (left_is_sound instance.definition left)
      (is_sound instance.definition right) sound).1 before next holds
  item_agrees (item.Gate at kind name outs ins) sound fits inner before next holds =
      gate_agrees kind outs ins
      (and_parts (list_all (output_is_sound instance.definition) outs) (list_all (input_is_sound instance.definition) ins) sound).1
      fits before next holds
  item_agrees (item.Instance at inner_name name links) sound fits inner before next holds =
      let found : Option Child = child_of setting.design (item.Instance at inner_name name links) in
      each_agrees (λ given. given.drives) drives_part key (child_given setting instance) rel read state row value
      (child_drivers instance.definition bit) (option_to_list found)
      (λ j child there. child_agrees child (inner child (only_place found j child there))) before next holds
  item_agrees (item.Always at clock body) sound fits inner before next holds = refl
  item_agrees (item.Initial at name value) sound fits inner before next holds = refl
