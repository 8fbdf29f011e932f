-- The next edges have no values but the bits of the next state.
use Rattle.std.proofs.Common.{◌≡◌, ℕ, zero, suc, ◌+◌, ◌<◌, Bool, true, false, ◌==◌, List, [], ◌∷◌, ◌++◌, Option, Some, refl, sym, ◌∙◌, ap, subst, arith, bytes_eq, cond, flat_map, fold, get_or, inl, inr, length, map, option_map, slice_get}
use Rattle.std.specs.Prelude.{is_some}
use Rattle.std.specs.List.{enumerate_from, list_all, list_any, zip}
use Rattle.std.specs.Option.{IsSome, option_and_then, option_to_list}
use Rattle.std.proofs.lemmas.Bool.{and_from, and_parts}
use Rattle.std.proofs.lemmas.Bool.Decides.{Decides-eqb}
use Rattle.std.proofs.lemmas.List.{length-append, length-map}
use Rattle.std.proofs.lemmas.Option.{none-some, same_Some, slice_get-get_or, slice_get-map, slice_get_within}
use Rattle.std.proofs.lemmas.Slice.Eq.{bytes_eq-Decides}
use Rattle.flat_net.specs.declared.edge.Edge.{Edge}
use Rattle.flat_net.specs.declared.node.Node.TheVariants.{Reg, Zero}
use Rattle.flat_net.specs.Edges.{plain}
use Rattle.flat_net.specs.Values.{Reading, edge_value}
use Rattle.lowering.specs.Meaning.{HasNames, HasZero, Holds, IsAbove}
use Rattle.lowering.proofs.EdgeLemmas.{plain_value}
use Rattle.lowering.proofs.LoweredLemmas.{holds-append}
use Rattle.vlog_tree.specs.declared.design.Module.{Module}
use Rattle.vlog_tree.specs.declared.item.Item.{Item}
use Rattle.vlog_tree.specs.declared.item.Item.TheVariants as item
use Rattle.vlog_tree.specs.declared.item.Link.{Link}
use Rattle.vlog_tree.specs.declared.key.Key.{Key}
use Rattle.vlog_tree.specs.Meaning.Expressions.{Names}
use Rattle.vlog_tree.specs.Meaning.Instances.{Child, Connection, Instance, child_of, connection_of, instances}
use Rattle.vlog_tree.specs.Meaning.Keys.{bit_count, input_keys, is_key, key_of, register_keys}
use Rattle.vlog_tree.specs.Meaning.Lefts.{Bit, bit_of, same_bit}
use Rattle.vlog_tree.specs.Meaning.Names.{is_input, registers}
use Rattle.vlog_tree.specs.Meaning.Setting.{Setting}
use Rattle.vlog_tree.specs.Meaning.Step.{after_item, known, next, next_bit}
use Rattle.vlog_tree.specs.Meaning.Uses.{Text}
use Rattle.vlog_tree.specs.Meaning.Value.{names_in, value}
use Rattle.numbering.specs.Bits.{register_bits}
use Rattle.numbering.specs.Numbering.{driven_keys, edge_of, first_of_expressions, key_in, keys_with_nodes, wires_in}
use Rattle.numbering.proofs.NumberEdgeLemmas.{numbers_bits}
use Rattle.numbering.proofs.NumberKeyLemmas.{all_keyed, keys_in}
use Rattle.numbering.proofs.NumberListLemmas.{append_cases, map_at}
use Rattle.design_laws.specs.Grammar.{design_is_by_grammar}
use Rattle.design_laws.specs.Sound.{IsSound, item_is_sound}
use Rattle.processes.specs.Statements.{Registers}
use Rattle.processes.proofs.LawLemmas.{statement_means}
use Rattle.flat_design.specs.Flat.{flat, whole_of}
use Rattle.flat_design.specs.Instances.{Whole, instance_given, own_edges, whole_from}
use Rattle.flat_design.specs.Items.{Given, Giving, child_given, connection_given, each, input_given, item_given, link_given, nothing_given}
use Rattle.flat_design.specs.Means.{MeansDrives}
use Rattle.flat_design.specs.Next.{FlatHasNext}
use Rattle.flat_design.proofs.KnownLemmas.{conditions_have}
use Rattle.flat_design.proofs.StandBits.{bit_is_key}
use Rattle.flat_design.proofs.StandLists.{behind, in_front, or_left, or_right}
use Rattle.flat_design.proofs.StandNodes.{expression_node, register_node}
use Rattle.flat_design.proofs.StandValues.{bit_value, holds_each, node_has, node_is}
use Rattle.flat_design.proofs.Stands.{HasEntries, IsClocked}

-- ---- items that leave the registers as they are

abbrev Keeps : Giving → Type 0
Keeps giving = (before : Registers) (next : ℕ) → (giving before next).registers ≡ before

each_keeps : {X : Type 0} (giving : X → Giving) → ((x : X) → Keeps (giving x)) → (xs : List X) → Keeps (each giving xs)
each_keeps giving keeps [] before next = refl
each_keeps giving keeps (x ∷ xs) before next =
    each_keeps giving keeps xs (giving x before next).registers (next + length (giving x before next).nodes) ∙ keeps x before next

module _ (setting : Setting) (instance : Instance) where
  connection_keeps : (child : Child) (connection : Connection) → Keeps (connection_given setting instance child connection)
  connection_keeps child connection before next = by (is_input child.definition connection.port)
    where
      by : (b : Bool)
          → (cond b (input_given setting instance child connection before next) (nothing_given before)).registers ≡ before
      by true = refl
      by false = refl

  link_keeps : (child : Child) (link : ℕ × Link) → Keeps (link_given setting instance child link)
  link_keeps child link =
      each_keeps (connection_given setting instance child) (connection_keeps child) (option_to_list (connection_of child.definition link))

  child_keeps : (child : Child) → Keeps (child_given setting instance child)
  child_keeps child = each_keeps (link_given setting instance child) (link_keeps child) (enumerate_from 0 child.links)

  children_keep : (one : Item) → Keeps (each (child_given setting instance) (option_to_list (child_of setting.design one)))
  children_keep one = each_keeps (child_given setting instance) child_keeps (option_to_list (child_of setting.design one))

-- ---- the items of an instance, one after another

module _ (setting : Setting) (instance : Instance) (names : Names)
    (all : (name : Text) (bit : ℕ) → bit < bit_count instance.definition name → is_some (names name bit) ≡ true)
    (state row : List Bool) (read : Reading) (none : HasZero IsAbove read)
    (named : HasNames IsAbove read instance.definition names (wires_in setting instance.path))
    (bit : Bit) (register : list_any (same_bit bit) (register_bits instance.definition) ≡ true) where
  abbrev m : Module
  m = instance.definition

  -- The edge of the bit has no value but this one.
  abbrev Shows : Option Bool → Registers → Type 0
  Shows old edges = IsAbove old (edge_value read (edges bit))

  kept : (old : Option Bool) (before after : Registers) → after ≡ before → Shows old before → Shows old after
  kept old before after same shows = subst (Shows old) (sym same) shows

  item_shows : (one : Item) → item_is_sound setting.design m one ≡ true → (before : Registers) (next : ℕ) (old : Option Bool)
      → Holds IsAbove read state row next (item_given setting instance one before next).nodes
      → Shows old before → Shows (after_item m names bit old one) (item_given setting instance one before next).registers
  item_shows (item.Decl at dir kind range name) sound before next old holds shows =
      kept old before (item_given setting instance (item.Decl at dir kind range name) before next).registers
      (children_keep setting instance (item.Decl at dir kind range name) before next) shows
  item_shows (item.Assign at left right) sound before next old holds shows = shows
  item_shows (item.Gate at kind name outs ins) sound before next old holds shows = shows
  item_shows (item.Instance at inner name links) sound before next old holds shows =
      kept old before (item_given setting instance (item.Instance at inner name links) before next).registers
      (children_keep setting instance (item.Instance at inner name links) before next) shows
  item_shows (item.Always at clock body) sound before next old holds shows =
      statement_means m names (wires_in setting instance.path) body sound (conditions_have m names all body sound) state row read before
      next none named holds bit old register shows
  item_shows (item.Initial at name value) sound before next old holds shows =
      kept old before (item_given setting instance (item.Initial at name value) before next).registers
      (children_keep setting instance (item.Initial at name value) before next) shows

  pub items_show : (items : List Item) → list_all (item_is_sound setting.design m) items ≡ true
      → (before : Registers) (next : ℕ) (old : Option Bool)
      → Holds IsAbove read state row next (each (item_given setting instance) items before next).nodes
      → Shows old before
      → Shows (fold (after_item m names bit) old items) (each (item_given setting instance) items before next).registers
  items_show [] sound before next old holds shows = shows
  items_show (one ∷ items) sound before next old holds shows =
      let given : Given = item_given setting instance one before next in
      let rest : Given = each (item_given setting instance) items given.registers (next + length given.nodes) in
      let sounds = and_parts (item_is_sound setting.design m one) (list_all (item_is_sound setting.design m) items) sound in
      let both = holds-append IsAbove read state row next given.nodes rest.nodes holds in
      items_show items sounds.1 given.registers (next + length given.nodes) (after_item m names bit old one) both.1
      (item_shows one sounds.0 before next old both.0 shows)

-- ---- the edges of all instances

abbrev bits_of_registers : Instance → List Bit
bits_of_registers instance = register_bits instance.definition

abbrev keys_from : List Instance → List Key
keys_from list = flat_map (keys_in bits_of_registers) list

module _ (setting : Setting) where
  pub next_count : (list : List Instance) (start : ℕ) → length (whole_from setting start list).next ≡ length (keys_from list)
  next_count [] start = refl
  next_count (instance ∷ others) start =
      let one : Given = instance_given setting instance start in
      let after : ℕ = start + length one.nodes in
      let rest : length (whole_from setting after others).next ≡ length (keys_from others) = next_count others after in
      length-append (map one.registers (bits_of_registers instance)) (whole_from setting after others).next
      ∙ (λ j. length-map (bits_of_registers instance) one.registers j + rest j)
      ∙ sym (length-append (keys_in bits_of_registers instance) (keys_from others)
      ∙ ap (λ n. n + length (keys_from others)) (length-map (bits_of_registers instance) (key_in instance.path)))

  module _ (read : Reading) (state row : List Bool) where
    -- The edge at a place is that of a register's bit, whose key stands at the place.
    pub record IsNextOf (list : List Instance) (place : ℕ) (edge : Edge) : Type 0 where
      pub i : ℕ
      pub instance : Instance
      pub there : slice_get list i ≡ Some instance
      pub bit : Bit
      pub rest : ℕ
      pub here : slice_get (bits_of_registers instance) rest ≡ Some bit
      pub start : ℕ
      pub holds : Holds IsAbove read state row start (instance_given setting instance start).nodes
      pub edge_is : edge ≡ (instance_given setting instance start).registers bit
      pub key : slice_get (keys_from list) place ≡ Some (key_in instance.path bit)

    module _ (instance : Instance) (others : List Instance) (start : ℕ) (place : ℕ) (edge : Edge) where
      abbrev one : Given
      one = instance_given setting instance start

      next_here : Holds IsAbove read state row start one.nodes
          → (bit : Bit) × (slice_get (bits_of_registers instance) place ≡ Some bit) × (edge ≡ one.registers bit)
          → IsNextOf (instance ∷ others) place edge
      next_here holds found = record {
        i = 0;
        instance = instance;
        there = refl;
        bit = found.0;
        rest = place;
        here = found.1;
        start = start;
        holds = holds;
        edge_is = found.2;
        key = in_front (keys_in bits_of_registers instance) (keys_from others) place (key_in instance.path found.0)
            (slice_get-map (key_in instance.path) (bits_of_registers instance) place
            ∙ ap (option_map (key_in instance.path)) found.1);
      }

      next_beyond : (k : ℕ) → place ≡ length (map one.registers (bits_of_registers instance)) + k → IsNextOf others k edge
          → IsNextOf (instance ∷ others) place edge
      next_beyond k e found = record {
        i = suc found.i;
        instance = found.instance;
        there = found.there;
        bit = found.bit;
        rest = found.rest;
        here = found.here;
        start = found.start;
        holds = found.holds;
        edge_is = found.edge_is;
        key = behind (keys_in bits_of_registers instance) (keys_from others) place k
            (e ∙ ap (λ n. n + k) (length-map (bits_of_registers instance) one.registers
            ∙ sym (length-map (bits_of_registers instance) (key_in instance.path))))
            ∙ found.key;
      }

    pub next_of : (list : List Instance) (start : ℕ) → Holds IsAbove read state row start (whole_from setting start list).nodes
        → (place : ℕ) (edge : Edge) → slice_get (whole_from setting start list).next place ≡ Some edge → IsNextOf list place edge
    next_of [] start holds place edge at = absurd (none-some edge at)
    next_of (instance ∷ others) start holds place edge at =
        let one : Given = instance_given setting instance start in
        let rest : Whole = whole_from setting (start + length one.nodes) others in
        let both = holds-append IsAbove read state row start one.nodes rest.nodes holds in
        elim (append_cases (map one.registers (bits_of_registers instance)) rest.next place edge at) [
          | inl left ↦
              next_here instance others start place edge both.0
              (map_at one.registers (bits_of_registers instance) place edge left)
          | inr right ↦
              next_beyond instance others start place edge right.0 right.1
              (next_of others (start + length one.nodes) both.1 right.0 edge right.2)
        ]

-- ---- lists

any_at : {X : Type 0} (test : X → Bool) (xs : List X) (place : ℕ) (x : X) → slice_get xs place ≡ Some x → test x ≡ true
    → list_any test xs ≡ true
any_at test [] place x at passes = absurd (none-some x at)
any_at test (y ∷ xs) zero x at passes = or_left (test y) (list_any test xs) (ap test (same_Some y x at) ∙ passes)
any_at test (y ∷ xs) (suc place) x at passes = or_right (test y) (list_any test xs) (any_at test xs place x at passes)

zip_at : {X Y : Type 0} (xs : List X) (ys : List Y) (place : ℕ) (x : X) (y : Y) → slice_get xs place ≡ Some x
    → slice_get ys place ≡ Some y → slice_get (zip xs ys) place ≡ Some (x, y)
zip_at [] ys place x y at there = absurd (none-some x at)
zip_at (z ∷ xs) [] place x y at there = absurd (none-some y there)
zip_at (z ∷ xs) (w ∷ ys) zero x y at there = λ j. Some (same_Some z x at j, same_Some w y there j)
zip_at (z ∷ xs) (w ∷ ys) (suc place) x y at there = zip_at xs ys place x y at there

bit_itself : (bit : Bit) → same_bit bit bit ≡ true
bit_itself bit =
    and_from (bytes_eq bit.name bit.name) (bit.place == bit.place) ((bytes_eq-Decides bit.name bit.name).1 refl)
    ((Decides-eqb bit.place bit.place).1 refl)

-- ---- the next state

module _ (means : MeansDrives) (setting : Setting) (sound : IsSound setting) (gates : design_is_by_grammar setting.design ≡ true)
    (clocked : IsClocked setting) (state row : List Bool) (entries : HasEntries setting state row)
    (all : (key : Key) → is_key setting key ≡ true → IsSome (value setting state row key)) where
  abbrev read : Reading
  read = node_has means setting sound gates clocked state row entries

  none : HasZero IsAbove read
  none = λ value e. sym (node_is means setting sound gates clocked state row entries 0 Zero refl) ∙ e

  holds : Holds IsAbove read state row (first_of_expressions setting) (whole_of setting).nodes
  holds = holds_each IsAbove read state row (first_of_expressions setting) (whole_of setting).nodes
      (λ k n node e at value h.
      sym (node_is means setting sound gates clocked state row entries n node (expression_node setting k n e ∙ at)) ∙ h)

  abbrev Found : ℕ → Edge → Type 0
  Found = IsNextOf setting read state row (instances setting)

  module _ (place : ℕ) (edge : Edge) (found : Found place edge) where
    abbrev own : Key
    own = key_in found.instance.path found.bit

    abbrev definition : Module
    definition = found.instance.definition

    abbrev names : Names
    names = names_in (value setting state row) found.instance.path

    there_key : slice_get (register_keys setting) place ≡ Some own
    there_key = ap (λ keys. slice_get keys place) (all_keyed registers (instances setting)) ∙ found.key

    below : place < length (register_keys setting)
    below = slice_get_within (register_keys setting) place own there_key

    abbrev old : Bool
    old = get_or state place false

    stored : slice_get state place ≡ Some old
    stored = slice_get-get_or state place false (omega (arith, below, entries.state_count))

    named : HasNames IsAbove read definition names (wires_in setting found.instance.path)
    named name bit within value e =
        bit_value means setting sound gates clocked state row entries (key_of found.instance.path name bit) (record {
          i = found.i;
          instance = found.instance;
          there = found.there;
          bit = bit_of name bit;
          within = within;
          named = refl;
        })
        ∙ e

    known_names : (name : Text) (bit : ℕ) → bit < bit_count definition name → is_some (names name bit) ≡ true
    known_names name bit within =
        all (key_of found.instance.path name bit)
        (bit_is_key setting found.i found.instance (record { distinct = sound.distinct; there = found.there }) (bit_of name bit) within)

    register : list_any (same_bit found.bit) (register_bits definition) ≡ true
    register = any_at (same_bit found.bit) (register_bits definition) found.rest found.bit found.here (bit_itself found.bit)

    abbrev number : ℕ
    number = length (input_keys setting) + place

    number_key : slice_get (keys_with_nodes setting) number ≡ Some own
    number_key =
        behind (input_keys setting) (register_keys setting ++ driven_keys setting) number place refl
        ∙ in_front (register_keys setting) (driven_keys setting) place own there_key

    own_edge : edge_of setting own ≡ plain (1 + number)
    own_edge =
        numbers_bits.key_place setting clocked.m clocked.top clocked.apart sound.distinct number own
        (slice_get_within (keys_with_nodes setting) number own number_key) number_key

    own_value : edge_value read (edge_of setting own) ≡ Some old
    own_value =
        ap (edge_value read) own_edge
        ∙ sym (plain_value read (1 + number))
        ∙ ap read {x = 1 + number} {y = 1 + length (input_keys setting) + place} (omega arith)
        ∙ node_is means setting sound gates clocked state row entries (1 + length (input_keys setting) + place) (Reg place)
        (register_node setting place below)
        ∙ stored

    shown : IsAbove (fold (after_item definition names found.bit) (Some old) definition.items)
        (edge_value read ((instance_given setting found.instance found.start).registers found.bit))
    shown =
        items_show setting found.instance names known_names state row read none named found.bit register definition.items
        (sound.items found.i found.instance found.there) (own_edges setting found.instance) found.start (Some old) found.holds
        (λ bit e. sym own_value ∙ e)

    next_is : (bit : Bool) → edge_value read edge ≡ Some bit → next_bit setting (value setting state row) own old ≡ Some bit
    next_is bit e =
        ap (option_and_then (λ m. fold (after_item m names found.bit) (Some old) m.items)) (sound.leads found.i found.instance found.there)
        ∙ shown bit (ap (edge_value read) (sym found.edge_is) ∙ e)

    next_there : (bit : Bool) → edge_value read edge ≡ Some bit → slice_get (next setting state row) place ≡ Some bit
    next_there bit e =
        slice_get-map (λ (register : Key × Bool). known (next_bit setting (value setting state row) register.0 register.1))
        (zip (register_keys setting) state) place
        ∙ ap (option_map (λ (register : Key × Bool). known (next_bit setting (value setting state row) register.0 register.1)))
        (zip_at (register_keys setting) state place own old there_key stored)
        ∙ ap (λ value. Some (known value)) (next_is bit e)

  next_value : (place : ℕ) (edge : Edge) → slice_get (flat setting).next place ≡ Some edge → (bit : Bool)
      → edge_value read edge ≡ Some bit → slice_get (next setting state row) place ≡ Some bit
  next_value place edge at =
      next_there place edge (next_of setting read state row (instances setting) (first_of_expressions setting) holds place edge at)

pub flat_has_next : MeansDrives → FlatHasNext
flat_has_next means setting sound gates m top apart clock = record {
  count = next_count setting (instances setting) (first_of_expressions setting)
      ∙ sym (ap length (all_keyed registers (instances setting)));
  next = λ state row state_count row_count all.
      next_value means setting sound gates (record { m = m; top = top; apart = apart; clock = clock }) state row
      (record { state_count = state_count; row_count = row_count }) all;
}
