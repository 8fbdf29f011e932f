-- The edge that is given to a bit of an input port has the value of what is connected to the port.
use Rattle.std.specs.Prelude.{◌≡◌, ℕ, ◌+◌, ◌<◌, ◌==◌, List, [], ◌∷◌, ◌++◌, Bool, true, false, ◌&&◌, Option, None, Some, bytes_eq, cond, flat_map, length, map, is_some, max, option_and_then, option_map, refl, slice_get}
use Rattle.std.specs.List.{enumerate_from, list_all, range_with_len, zip}
use Rattle.std.specs.Option.{option_to_list}
use Rattle.std.proofs.Common.{ap, arith, sym, subst, ◌∙◌}
use Rattle.std.proofs.lemmas.Bool.{and_parts, both_ways, false_from_ne_true}
use Rattle.std.proofs.lemmas.List.FromFn.{length-range_with_len}
use Rattle.std.proofs.lemmas.Option.{same_Some}
use Rattle.std.proofs.lemmas.Slice.Eq.{bytes_eq-Decides}
use Rattle.flat_net.specs.declared.edge.Edge.{Edge}
use Rattle.flat_net.specs.Values.{Reading}
use Rattle.vlog_tree.specs.declared.design.Module.{Module}
use Rattle.vlog_tree.specs.declared.expr.Expr.{Expr}
use Rattle.vlog_tree.specs.declared.item.Item.{Item}
use Rattle.vlog_tree.specs.declared.item.Item.TheVariants as item
use Rattle.vlog_tree.specs.declared.item.Link.{Link}
use Rattle.vlog_tree.specs.declared.key.Key.{Key}
use Rattle.vlog_tree.specs.Meaning.Expressions.{assigned_bit}
use Rattle.vlog_tree.specs.Meaning.Instances.{Child, Connection, Instance, Path, child_of, connection_of, inside, module_named, port_of, same_path}
use Rattle.vlog_tree.specs.Meaning.Keys.{bit_count, key_of, same_key}
use Rattle.vlog_tree.specs.Meaning.Names.{is_input}
use Rattle.vlog_tree.specs.Meaning.Setting.{Setting}
use Rattle.vlog_tree.specs.Meaning.Uses.{Text}
use Rattle.vlog_tree.specs.Meaning.Value.{given_bit, names_in}
use Rattle.vlog_tree.specs.Meaning.Value as meaning
use Rattle.lowering.specs.Expressions.{assigned, width_of}
use Rattle.lowering.specs.Meaning.{HasNames, HasZero, Holds, Relation, is_sound}
use Rattle.lowering.proofs.LawLemmas.{assigned_means, edge_count}
use Rattle.lowering.proofs.RelationLemmas.{IsKept}
use Rattle.numbering.specs.Numbering.{wires_in}
use Rattle.numbering.proofs.NumberBitLemmas.{path_itself, paths_decide}
use Rattle.numbering.proofs.NumberListLemmas.{range_place}
use Rattle.processes.specs.Statements.{Registers}
use Rattle.design_laws.specs.Sound.{connected_is_sound, item_is_sound, link_is_sound}
use Rattle.flat_design.specs.Items.{child_given, connection_given, input_given, item_given, link_given, nothing_given}
use Rattle.flat_design.proofs.DriveLemmas.{Agrees, agrees_place, first_edge, none_zip, place_from, place_in, places_swap, zip_edge}
use Rattle.flat_design.proofs.GivenLemmas.{each_agrees, ports_part}
use Rattle.flat_design.proofs.NoneLemmas.{child_ports}
use Rattle.flat_design.proofs.PlacesLemmas.{last_is, numbered_at, only_place, passes_at}

-- ---- what is connected is sound

abbrev connect : Text → Expr → Connection
connect port e = record { port = port; expression = e }

abbrev child_with : Text → Module → List Link → Child
child_with name definition links = record { name = name; definition = definition; links = links }

connection_expression : (definition : Module) (link : ℕ × Link) (connection : Connection) → connection_of definition link ≡ Some connection
    → link.1.expr ≡ Some connection.expression
connection_expression definition link connection is = by (port_of definition link) link.1.expr is
  where
    by : (port : Option Text) (e : Option Expr)
        → option_and_then (λ port. option_map (λ e. connect port e) e) port ≡ Some connection
        → e ≡ Some connection.expression
    by None e is = absurd cc
    by (Some port) None is = absurd cc
    by (Some port) (Some e) is = ap (λ (one : Connection). Some one.expression) (same_Some (connect port e) connection is)

sound_at : (m : Module) (definition : Module) (link : ℕ × Link) (connection : Connection) → link_is_sound m link.1 ≡ true
    → connection_of definition link ≡ Some connection → is_sound m connection.expression ≡ true
sound_at m definition link connection sound is =
    ap (connected_is_sound m) (sym (connection_expression definition link connection is)) ∙ sound

own_links : (at : ℕ) (inner name : Text) (links : List Link) (o : Option Module) (child : Child)
    → option_map (λ m. child_with name m links) o ≡ Some child → child.links ≡ links
own_links at inner name links None child is = absurd cc
own_links at inner name links (Some m) child is = sym (ap (λ (one : Child). one.links) (same_Some (child_with name m links) child is))

-- ---- keys of ports

name_itself : (a : Text) → bytes_eq a a ≡ true
name_itself a = (bytes_eq-Decides a a).1 refl

port_key : (path : Path) (port : Text) (place bit : ℕ) → same_key (key_of path port place) (key_of path port bit) ≡ (bit == place)
port_key path port place bit =
    ap (λ b. b && (bytes_eq port port && (place == bit))) (path_itself path)
    ∙ ap (λ b. b && (place == bit)) (name_itself port)
    ∙ places_swap place bit

other_port : (path : Path) (other port : Text) (place bit : ℕ) → bytes_eq other port ≡ false
    → same_key (key_of path other place) (key_of path port bit) ≡ false
other_port path other port place bit differ =
    ap (λ b. b && (bytes_eq other port && (place == bit))) (path_itself path)
    ∙ ap (λ b. b && (place == bit)) differ

pub other_name : (path : Path) (a b : Text) → bytes_eq a b ≡ false → same_path (path ++ a ∷ []) (path ++ b ∷ []) ≡ false
other_name path a b differ = false_from_ne_true (same_path (path ++ a ∷ []) (path ++ b ∷ []))
    (λ e. both_ways (bytes_eq a b) differ
    ((bytes_eq-Decides a b).1 (last_is path path a b ((paths_decide (path ++ a ∷ []) (path ++ b ∷ [])).0 e)).1))

range_found : (count bit : ℕ) → bit < count → place_in (λ k. bit == k) (range_with_len 0 count) ≡ Some bit
range_found count bit within =
    sym (place_from (λ k. bit == k) (range_with_len 0 count))
    ∙ range_place bit 0 count 0 bit (omega arith) within
    ∙ ap Some {x = 0 + bit} {y = bit} (omega arith)

-- a value as it is
abbrev pub itself : Option Bool → Option Bool
itself value = value

module _ (rel : Relation) (kept : IsKept rel) (setting : Setting) (reading : meaning.Reading) (read : Reading) (state row : List Bool)
    (none : HasZero rel read) (instance : Instance)
    (named : HasNames rel read instance.definition (names_in reading instance.path) (wires_in setting instance.path))
    (child : Child) (name : Text) (is_port : is_input child.definition name ≡ true)
    (bit : ℕ) (within : bit < bit_count child.definition name) where
  abbrev key : Key
  key = key_of (inside instance.path child).path name bit

  abbrev AgreeWith : List (Option Bool) → Option Edge → Type 0
  AgreeWith = Agrees rel read itself

  -- ---- one connection

  abbrev given_value : Connection → Option Bool
  given_value connection =
      assigned_bit instance.definition (names_in reading instance.path) (bit_count child.definition name) connection.expression bit

  abbrev entries : Connection → List (Option Bool)
  entries connection = cond (bytes_eq connection.port name) (given_value connection ∷ []) []

  -- what is connected to a port of this name
  abbrev lowered_for : Expr → Text → ℕ → List Edge
  lowered_for e port next = (assigned instance.definition (wires_in setting instance.path) (bit_count child.definition port) e next).edges

  abbrev found_for : Expr → Text → ℕ → Option Edge
  found_for e port next =
      first_edge (zip (map (key_of (inside instance.path child).path port) (range_with_len 0 (bit_count child.definition port)))
      (lowered_for e port next)) key

  own_agrees : (connection : Connection) → is_sound instance.definition connection.expression ≡ true → (next : ℕ)
      → Holds rel read state row next
      (assigned instance.definition (wires_in setting instance.path) (bit_count child.definition name) connection.expression next).nodes
      → AgreeWith (given_value connection ∷ []) (found_for connection.expression name next)
  own_agrees connection sound next holds =
      let m = instance.definition in
      let e = connection.expression in
      let count : ℕ = bit_count child.definition name in
      let edges : List Edge = lowered_for e name next in
      let long : length edges ≡ max count (width_of m e) =
      edge_count m (wires_in setting instance.path) e (max count (width_of m e)) next sound (omega arith) in
      let run : length (range_with_len 0 count) ≡ count = length-range_with_len 0 count in
      subst (AgreeWith (given_value connection ∷ []))
      (sym (zip_edge (key_of (inside instance.path child).path name) (λ k. bit == k) (range_with_len 0 count) edges key
      (λ place. port_key (inside instance.path child).path name place bit) (omega (arith, long, run))
      ∙ ap (option_and_then (slice_get edges)) (range_found count bit within)))
      (agrees_place rel read itself (λ n. assigned_bit m (names_in reading instance.path) count e n) count edges (omega (arith, long))
      (λ n below. assigned_means rel kept m (names_in reading instance.path)
      (wires_in setting instance.path) state row read count e next sound
      none named holds n (omega arith))
      (Some bit) (λ n is. subst (λ n. n < count) (same_Some bit n is) within))

  input_agrees : (connection : Connection) → is_sound instance.definition connection.expression ≡ true → connection.port ≡ name
      → (before : Registers) (next : ℕ) → Holds rel read state row next
      (connection_given setting instance child connection before next).nodes
      → AgreeWith (given_value connection ∷ []) (first_edge (connection_given setting instance child connection before next).ports key)
  input_agrees connection sound same before next =
      subst (λ b. Holds rel read state row next (cond b (input_given setting instance child connection before next)
      (nothing_given before)).nodes
      → AgreeWith (given_value connection ∷ [])
      (first_edge (cond b (input_given setting instance child connection before next) (nothing_given before)).ports key))
      (sym (ap (is_input child.definition) same ∙ is_port))
      (subst (λ port. Holds rel read state row next
      (assigned instance.definition (wires_in setting instance.path) (bit_count child.definition port) connection.expression next).nodes
      → AgreeWith (given_value connection ∷ []) (found_for connection.expression port next))
      (sym same) (own_agrees connection sound next))

  other_agrees : (connection : Connection) → bytes_eq connection.port name ≡ false → (before : Registers) (next : ℕ)
      → first_edge (connection_given setting instance child connection before next).ports key ≡ None
  other_agrees connection differ before next = by (is_input child.definition connection.port)
    where
      by : (b : Bool)
          → first_edge (cond b (input_given setting instance child connection before next) (nothing_given before)).ports key ≡ None
      by true =
          let count : ℕ = bit_count child.definition connection.port in
          none_zip (key_of (inside instance.path child).path connection.port) (range_with_len 0 count)
          (lowered_for connection.expression connection.port next) key
          (λ place. other_port (inside instance.path child).path connection.port name place bit differ)
      by false = refl

  connection_agrees : (connection : Connection) → is_sound instance.definition connection.expression ≡ true
      → (before : Registers) (next : ℕ) → Holds rel read state row next
      (connection_given setting instance child connection before next).nodes
      → AgreeWith (entries connection) (first_edge (connection_given setting instance child connection before next).ports key)
  connection_agrees connection sound before next holds = by (bytes_eq connection.port name) refl
    where
      by : (b : Bool) → bytes_eq connection.port name ≡ b
          → AgreeWith (cond b (given_value connection ∷ []) [])
          (first_edge (connection_given setting instance child connection before next).ports key)
      by true is = input_agrees connection sound ((bytes_eq-Decides connection.port name).0 is) before next holds
      by false is = other_agrees connection is before next

  -- ---- the child

  -- the values of what is connected to the port
  abbrev pub child_values : List (Option Bool)
  child_values =
      flat_map (λ link. flat_map entries (option_to_list (connection_of child.definition link))) (enumerate_from 0 child.links)

  child_agrees : list_all (link_is_sound instance.definition) child.links ≡ true → (before : Registers) (next : ℕ)
      → Holds rel read state row next (child_given setting instance child before next).nodes
      → AgreeWith child_values (first_edge (child_given setting instance child before next).ports key)
  child_agrees sound before next holds =
      each_agrees (λ given. given.ports) ports_part key (link_given setting instance child) rel read state row itself
      (λ link. flat_map entries (option_to_list (connection_of child.definition link))) (enumerate_from 0 child.links)
      (λ j link at before next holds.
      each_agrees (λ given. given.ports) ports_part key (connection_given setting instance child) rel read state row itself
      entries (option_to_list (connection_of child.definition link))
      (λ i connection there before next holds. connection_agrees connection
      (sound_at instance.definition child.definition link connection
      (passes_at (link_is_sound instance.definition) child.links j link.1 sound (numbered_at 0 child.links j link at))
      (only_place (connection_of child.definition link) i connection there)) before next holds)
      before next holds)
      before next holds

  -- ---- items

  -- the values that the children of this name give
  abbrev pub values_of : Child → List (Option Bool)
  values_of other = cond (bytes_eq other.name child.name) child_values []

  abbrev pub item_values : Item → List (Option Bool)
  item_values one = flat_map values_of (option_to_list (child_of setting.design one))

  any_child : (other : Child) → (bytes_eq other.name child.name ≡ true → other ≡ child)
      → list_all (link_is_sound instance.definition) other.links ≡ true → (before : Registers) (next : ℕ)
      → Holds rel read state row next (child_given setting instance other before next).nodes
      → AgreeWith (values_of other) (first_edge (child_given setting instance other before next).ports key)
  any_child other only sound before next = by (bytes_eq other.name child.name) refl
    where
      by : (b : Bool) → bytes_eq other.name child.name ≡ b
          → Holds rel read state row next (child_given setting instance other before next).nodes
          → AgreeWith (cond b child_values []) (first_edge (child_given setting instance other before next).ports key)
      by true is = subst (λ one. list_all (link_is_sound instance.definition) one.links ≡ true
          → Holds rel read state row next (child_given setting instance one before next).nodes
          → AgreeWith child_values (first_edge (child_given setting instance one before next).ports key))
          (sym (only is)) (λ sound. child_agrees sound before next) sound
      by false is = λ holds. child_ports setting instance key other (other_name instance.path other.name child.name is) before next

  pub item_agrees : (one : Item) → item_is_sound setting.design instance.definition one ≡ true
      → ((other : Child) → child_of setting.design one ≡ Some other → bytes_eq other.name child.name ≡ true → other ≡ child)
      → (before : Registers) (next : ℕ) → Holds rel read state row next (item_given setting instance one before next).nodes
      → AgreeWith (item_values one) (first_edge (item_given setting instance one before next).ports key)
  item_agrees (item.Decl at dir kind range name) sound only before next holds = refl
  item_agrees (item.Assign at left right) sound only before next holds = refl
  item_agrees (item.Gate at kind name outs ins) sound only before next holds = refl
  item_agrees (item.Instance at inner name links) sound only before next holds =
      let found : Option Child = child_of setting.design (item.Instance at inner name links) in
      let tests : list_all (link_is_sound instance.definition) links ≡ true =
      (and_parts (is_some (module_named setting.design inner)) (list_all (link_is_sound instance.definition) links) sound).1 in
      each_agrees (λ given. given.ports) ports_part key (child_given setting instance) rel read state row itself
      values_of (option_to_list found)
      (λ j other there.
      let is : found ≡ Some other = only_place found j other there in
      any_child other (only other is)
      (ap (list_all (link_is_sound instance.definition)) (own_links at inner name links
      (module_named setting.design inner) other is) ∙ tests))
      before next holds
  item_agrees (item.Always at clock body) sound only before next holds = refl
  item_agrees (item.Initial at name value) sound only before next holds = refl
