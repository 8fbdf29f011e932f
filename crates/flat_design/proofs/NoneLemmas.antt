-- An instance gives nothing to the bits of other instances, and nothing to the ports of others than its children.
use Rattle.std.specs.Prelude.{◌≡◌, ℕ, List, [], ◌∷◌, ◌++◌, Bool, true, false, None, cond, flat_map, length, refl, unwrap_or}
use Rattle.std.specs.List.{enumerate_from, range_with_len}
use Rattle.std.specs.Option.{option_to_list}
use Rattle.vlog_tree.specs.declared.item.Item.{Item}
use Rattle.vlog_tree.specs.declared.item.Item.TheVariants as item
use Rattle.vlog_tree.specs.declared.key.Key.{Key}
use Rattle.vlog_tree.specs.Meaning.Instances.{Child, Connection, Instance, child_of, connection_of, inside, same_path}
use Rattle.vlog_tree.specs.Meaning.Keys.{bit_count, key_of}
use Rattle.vlog_tree.specs.Meaning.Lefts.{Bit, left_bits, target_bits}
use Rattle.vlog_tree.specs.Meaning.Names.{is_input, is_output}
use Rattle.vlog_tree.specs.Meaning.Setting.{Setting}
use Rattle.vlog_tree.specs.Meaning.Uses.{Text}
use Rattle.lowering.specs.Expressions.{assigned, only}
use Rattle.lowering.specs.Lowered.{extended}
use Rattle.numbering.specs.Numbering.{key_in, wires_in}
use Rattle.processes.specs.Statements.{Registers}
use Rattle.flat_design.specs.Instances.{instance_given, own_edges}
use Rattle.flat_design.specs.Items.{child_given, connection_given, gate_lowered, input_given, item_given, link_given, nothing_given, output_drives, port_edges}
use Rattle.flat_design.proofs.DriveLemmas.{first_edge, none_map, none_zip, other_key}
use Rattle.flat_design.proofs.GivenLemmas.{drives_part, each_none, ports_part}

module _ (setting : Setting) (instance : Instance) (key : Key) where
  -- ---- drives

  module _ (differ : same_path instance.path key.path ≡ false) where
    output_none : (child : Child) (connection : Connection) → first_edge (output_drives setting instance child connection) key ≡ None
    output_none child connection =
        let bits : List Bit = unwrap_or (target_bits instance.definition connection.expression) [] in
        none_zip (key_in instance.path) bits (extended (length bits) (port_edges setting instance child connection.port)) key
        (λ bit. other_key instance.path bit.name bit.place key differ)

    connection_drives : (child : Child) (connection : Connection) (before : Registers) (next : ℕ)
        → first_edge (connection_given setting instance child connection before next).drives key ≡ None
    connection_drives child connection before next = by (is_output child.definition connection.port)
      where
        by : (b : Bool) → first_edge (cond b (output_drives setting instance child connection) []) key ≡ None
        by true = output_none child connection
        by false = refl

    child_drives : (child : Child) (before : Registers) (next : ℕ)
        → first_edge (child_given setting instance child before next).drives key ≡ None
    child_drives child before next =
        each_none (λ given. given.drives) drives_part key (link_given setting instance child) (enumerate_from 0 child.links)
        (λ link before next. each_none (λ given. given.drives) drives_part key (connection_given setting instance child)
        (option_to_list (connection_of child.definition link)) (connection_drives child) before next) before next

    item_drives : (one : Item) (before : Registers) (next : ℕ) → first_edge (item_given setting instance one before next).drives key ≡ None
    item_drives (item.Decl at dir kind range name) before next = refl
    item_drives (item.Assign at left right) before next =
        let bits : List Bit = left_bits instance.definition left in
        none_zip (key_in instance.path) bits
        (assigned instance.definition (wires_in setting instance.path) (length bits) right next).edges key
        (λ bit. other_key instance.path bit.name bit.place key differ)
    item_drives (item.Gate at kind name outs ins) before next =
        none_map (key_in instance.path) (flat_map (left_bits instance.definition) outs)
        (only (gate_lowered setting instance kind ins next).edges) key (λ bit. other_key instance.path bit.name bit.place key differ)
    item_drives (item.Instance at inner name links) before next =
        each_none (λ given. given.drives) drives_part key (child_given setting instance)
        (option_to_list (child_of setting.design (item.Instance at inner name links))) child_drives before next
    item_drives (item.Always at clock body) before next = refl
    item_drives (item.Initial at name value) before next = refl

    pub drives_none : (start : ℕ) → first_edge (instance_given setting instance start).drives key ≡ None
    drives_none start = each_none (λ given. given.drives) drives_part key (item_given setting instance) instance.definition.items
        item_drives (own_edges setting instance) start

  -- ---- ports

  module _ (child : Child) (differ : same_path (instance.path ++ child.name ∷ []) key.path ≡ false) where
    input_none : (connection : Connection) (before : Registers) (next : ℕ)
        → first_edge (input_given setting instance child connection before next).ports key ≡ None
    input_none connection before next =
        let count : ℕ = bit_count child.definition connection.port in
        none_zip (key_of (inside instance.path child).path connection.port) (range_with_len 0 count)
        (assigned instance.definition (wires_in setting instance.path) count connection.expression next).edges key
        (λ place. other_key (inside instance.path child).path connection.port place key differ)

    connection_ports : (connection : Connection) (before : Registers) (next : ℕ)
        → first_edge (connection_given setting instance child connection before next).ports key ≡ None
    connection_ports connection before next = by (is_input child.definition connection.port)
      where
        by : (b : Bool) → first_edge (cond b (input_given setting instance child connection before next)
            (nothing_given before)).ports key ≡ None
        by true = input_none connection before next
        by false = refl

    pub child_ports : (before : Registers) (next : ℕ) → first_edge (child_given setting instance child before next).ports key ≡ None
    child_ports before next =
        each_none (λ given. given.ports) ports_part key (link_given setting instance child) (enumerate_from 0 child.links)
        (λ link before next. each_none (λ given. given.ports) ports_part key (connection_given setting instance child)
        (option_to_list (connection_of child.definition link)) connection_ports before next) before next

  module _ (differ : (name : Text) → same_path (instance.path ++ name ∷ []) key.path ≡ false) where
    item_ports : (one : Item) (before : Registers) (next : ℕ) → first_edge (item_given setting instance one before next).ports key ≡ None
    item_ports (item.Decl at dir kind range name) before next = refl
    item_ports (item.Assign at left right) before next = refl
    item_ports (item.Gate at kind name outs ins) before next = refl
    item_ports (item.Instance at inner name links) before next =
        each_none (λ given. given.ports) ports_part key (child_given setting instance)
        (option_to_list (child_of setting.design (item.Instance at inner name links)))
        (λ child before next. child_ports child (differ child.name) before next) before next
    item_ports (item.Always at clock body) before next = refl
    item_ports (item.Initial at name value) before next = refl

    pub ports_none : (start : ℕ) → first_edge (instance_given setting instance start).ports key ≡ None
    ports_none start = each_none (λ given. given.ports) ports_part key (item_given setting instance) instance.definition.items
        item_ports (own_edges setting instance) start
