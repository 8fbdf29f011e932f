-- A bit is given an edge with the value of what drives it.
use Rattle.std.specs.Prelude.{◌≡◌, ℕ, ◌<◌, List, [], ◌∷◌, ◌++◌, Bool, true, false, Option, None, Some, bytes_eq, cond, find, flat_map, option_and_then, option_map, refl, reverse, slice_get}
use Rattle.std.specs.List.{enumerate_from, list_all}
use Rattle.std.proofs.Common.{ap, inl, inr, sym, subst, ◌∙◌}
use Rattle.std.proofs.lemmas.List.{reverse-append, reverse-reverse}
use Rattle.std.proofs.lemmas.Option.{same_Some}
use Rattle.std.proofs.lemmas.Slice.Eq.{bytes_eq-Decides}
use Rattle.flat_net.specs.Values.{Reading, edge_value}
use Rattle.vlog_tree.specs.declared.design.Design.{Design}
use Rattle.vlog_tree.specs.declared.design.Module.{Module}
use Rattle.vlog_tree.specs.declared.item.Item.{Item}
use Rattle.vlog_tree.specs.declared.item.Item.TheVariants as item
use Rattle.vlog_tree.specs.declared.item.Link.{Link}
use Rattle.vlog_tree.specs.declared.key.Key.{Key}
use Rattle.vlog_tree.specs.Meaning.Drivers.{Driver, drivers, item_drivers}
use Rattle.vlog_tree.specs.Meaning.Expressions.{Names, assigned_bit}
use Rattle.vlog_tree.specs.Meaning.Instances.{Child, Connection, Instance, Path, child_named, child_of, children, connected, connection_of, connections, inside, instances, module_named}
use Rattle.vlog_tree.specs.Meaning.Keys.{bit_count, key_of}
use Rattle.vlog_tree.specs.Meaning.Lefts.{Bit}
use Rattle.vlog_tree.specs.Meaning.Names.{is_input}
use Rattle.vlog_tree.specs.Meaning.Setting.{Setting}
use Rattle.vlog_tree.specs.Meaning.Uses.{Text}
use Rattle.vlog_tree.specs.Meaning.Value.{driven_bit, driver_bit, given_bit, names_in, outer_bit, parent_of, port_bit, port_within}
use Rattle.vlog_tree.specs.Meaning.Value as meaning
use Rattle.lowering.specs.Meaning.{Relation}
use Rattle.lowering.proofs.EdgeLemmas.{as_left}
use Rattle.lowering.proofs.RelationLemmas.{IsKept}
use Rattle.numbering.specs.Numbering.{first_of_expressions, key_in}
use Rattle.numbering.proofs.NumberBitLemmas.{other_path}
use Rattle.design_laws.specs.Sound.{IsInside, item_is_sound}
use Rattle.flat_design.specs.Flat.{given_to, whole_of}
use Rattle.design_laws.specs.Grammar.{design_is_by_grammar, is_by_grammar}
use Rattle.flat_design.specs.Instances.{own_edges}
use Rattle.flat_design.specs.Items.{item_given}
use Rattle.flat_design.specs.Means.{IsRead}
use Rattle.flat_design.proofs.DriveLemmas.{Agrees, agrees_value, first_edge, first_value}
use Rattle.flat_design.proofs.DriverLemmas.{item_agrees as drivers_agree}
use Rattle.flat_design.proofs.GivenLemmas.{drives_part, drives_whole, each_agrees, given_by, ports_part, ports_whole}
use Rattle.flat_design.proofs.NoneLemmas.{drives_none, ports_none}
use Rattle.flat_design.proofs.PlacesLemmas.{flat_given, found_place, given_place, giver_at, last_is, passes_at}
use Rattle.flat_design.proofs.PortLemmas.{child_values, item_agrees as ports_agree, item_values, itself, values_of}

-- ---- the gates of instances

-- The gates of the module have the inputs that they take.
abbrev HasInputs : Module → Type 0
HasInputs m = list_all is_by_grammar m.items ≡ true

named_inputs : (design : Design) (name : Text) (m : Module) → design_is_by_grammar design ≡ true → module_named design name ≡ Some m
    → HasInputs m
named_inputs design name m all found =
    let there = found_place (λ (m : Module). bytes_eq m.name name) design.modules m found in
    passes_at (λ (m : Module). list_all is_by_grammar m.items) design.modules there.0 m all there.1

child_with_inputs : (design : Design) (name : Text) (links : List Link) (o : Option Module) (child : Child)
    → ((m : Module) → o ≡ Some m → HasInputs m)
    → option_map (λ m. record { name = name; definition = m; links = links }) o ≡ Some child → HasInputs child.definition
child_with_inputs design name links None child has is = absurd cc
child_with_inputs design name links (Some m) child has is =
    subst (λ (one : Child). HasInputs one.definition) (same_Some (record { name = name; definition = m; links = links }) child is)
    (has m refl)

child_inputs : (design : Design) (one : Item) (child : Child) → design_is_by_grammar design ≡ true → child_of design one ≡ Some child
    → HasInputs child.definition
child_inputs design (item.Decl at dir kind range name) child all is = absurd cc
child_inputs design (item.Assign at left right) child all is = absurd cc
child_inputs design (item.Gate at kind name outs ins) child all is = absurd cc
child_inputs design (item.Instance at inner name links) child all is =
    child_with_inputs design name links (module_named design inner) child (λ m found. named_inputs design inner m all found) is
child_inputs design (item.Always at clock body) child all is = absurd cc
child_inputs design (item.Initial at name value) child all is = absurd cc

inside_inputs : (design : Design) (m : Module) (name : Text) (child : Child) → design_is_by_grammar design ≡ true
    → child_named design m name ≡ Some child → HasInputs child.definition
inside_inputs design m name child all found =
    let there = found_place (λ (child : Child). bytes_eq child.name name) (children design m) child found in
    let giver = giver_at (child_of design) m.items there.0 child there.1 in
    child_inputs design giver.1 child all giver.3

-- ---- values of the first

abbrev kept_values : {X : Type 0} → (X → Bool) → List (Option Bool) → List X → List (Option Bool)
kept_values test values xs = flat_map (λ x. cond (test x) values []) xs

-- no values, however often, are none
none_kept : {X : Type 0} (test : X → Bool) (xs : List X) → kept_values test [] xs ≡ []
none_kept test [] = refl
none_kept test (x ∷ xs) = by (test x) (none_kept test xs)
  where
    by : (b : Bool) → kept_values test [] xs ≡ [] → cond b [] [] ++ kept_values test [] xs ≡ []
    by true rest = rest
    by false rest = rest

-- Where the test finds one, the first value is the first of these values.
first_kept : {X : Type 0} (test : X → Bool) (values : List (Option Bool)) (xs : List X) (x : X) → find test xs ≡ Some x
    → first_value itself (kept_values test values xs) ≡ first_value itself values
first_kept test values [] x found = absurd cc
first_kept {X = X} test values (y ∷ xs) x found = by (test y) values found (none_kept test xs) (λ values. first_kept test values xs x)
  where
    by : (b : Bool) (values : List (Option Bool)) → cond b (Some y) (find test xs) ≡ Some x → kept_values test [] xs ≡ []
        → ((values : List (Option Bool)) → find test xs ≡ Some x
        → first_value itself (kept_values test values xs) ≡ first_value itself values)
        → first_value itself (cond b values [] ++ kept_values test values xs) ≡ first_value itself values
    by true [] found none rest = ap (first_value itself) none
    by true (value ∷ values) found none rest = refl
    by false values found none rest = rest values found

-- what is connected first gives its value
first_given : (names : Names) (m : Module) (count number : ℕ) (test : Connection → Bool) (list : List Connection)
    → first_value itself (flat_map (λ connection. cond (test connection)
    (assigned_bit m names count connection.expression number ∷ []) []) list)
    ≡ given_bit names m count number (option_map (λ connection. connection.expression) (find test list))
first_given names m count number test [] = refl
first_given names m count number test (connection ∷ list) = by (test connection) (first_given names m count number test list)
  where
    by : (b : Bool)
        → first_value itself (flat_map (λ connection. cond (test connection)
        (assigned_bit m names count connection.expression number ∷ []) []) list)
        ≡ given_bit names m count number (option_map (λ connection. connection.expression) (find test list))
        → first_value itself (cond b (assigned_bit m names count connection.expression number ∷ []) []
        ++ flat_map (λ connection. cond (test connection) (assigned_bit m names count connection.expression number ∷ []) []) list)
        ≡ given_bit names m count number (option_map (λ connection. connection.expression) (cond b (Some connection) (find test list)))
    by true rest = refl
    by false rest = rest

driven_is : (reading : meaning.Reading) (path : Path) (m : Module) (all : List Driver)
    → driven_bit reading path m all ≡ first_value (driver_bit reading path m) all
driven_is reading path m [] = refl
driven_is reading path m (driver ∷ others) = refl

parent_is : (path : Path) (name : Text) → parent_of (reverse (path ++ name ∷ [])) ≡ Some (path, name)
parent_is path name =
    ap parent_of (reverse-append path (name ∷ [])) ∙ ap (λ (path : Path). Some (path, name)) (reverse-reverse path)

module _ (rel : Relation) (kept : IsKept rel) (setting : Setting) (reading : meaning.Reading) (read : Reading) (state row : List Bool)
    (is : IsRead rel setting reading read state row) where
  instance_inputs : (i : ℕ) (instance : Instance) → slice_get (instances setting) i ≡ Some instance → HasInputs instance.definition
  instance_inputs i instance there = elim (is.sound.parent i instance there) [
    | inl top ↦ named_inputs setting.design setting.top instance.definition is.gates top.1
    | inr within ↦ inner within
  ]
    where
      inner : IsInside setting instance → HasInputs instance.definition
      inner within =
          ap (λ (one : Instance). list_all is_by_grammar one.definition.items) within.is
          ∙ inside_inputs setting.design within.outer.definition within.child.name within.child is.gates within.named

  -- the child of an item is found by its name
  child_found : (i : ℕ) (instance : Instance) → slice_get (instances setting) i ≡ Some instance → (j : ℕ) (one : Item)
      → slice_get instance.definition.items j ≡ Some one → (child : Child) → child_of setting.design one ≡ Some child
      → child_named setting.design instance.definition child.name ≡ Some child
  child_found i instance there j one at child given =
      let placed = given_place (child_of setting.design) instance.definition.items j one child at given in
      is.sound.children i instance there placed.0 child placed.1

  -- ---- what drives a bit

  pub drives_mean : (i : ℕ) (instance : Instance) → slice_get (instances setting) i ≡ Some instance → (bit : Bit)
      → rel (driven_bit reading instance.path instance.definition (drivers setting.design instance.definition bit))
      (edge_value read (given_to (whole_of setting).drives (key_in instance.path bit)))
  drives_mean i instance there bit =
      let key : Key = key_in instance.path bit in
      let all : List Driver = drivers setting.design instance.definition bit in
      let found = given_by setting (λ given. given.drives) (λ whole. whole.drives) (drives_whole setting) key rel read state row
      (instances setting) (first_of_expressions setting) i instance there is.holds
      (λ j other at apart start. drives_none setting other key
      (other_path other.path instance.path (λ same. apart (is.sound.distinct j i other instance at there same))) start) in
      let agrees : Agrees rel read (driver_bit reading instance.path instance.definition) all (first_edge (whole_of setting).drives key) =
      subst (Agrees rel read (driver_bit reading instance.path instance.definition) all) found.same
      (each_agrees (λ given. given.drives) drives_part key (item_given setting instance) rel read state row
      (driver_bit reading instance.path instance.definition) (item_drivers setting.design instance.definition bit) instance.definition.items
      (λ j one at before next holds.
      drivers_agree rel kept setting reading read state row is.zero instance (is.names i instance there) bit one
      (passes_at (item_is_sound setting.design instance.definition) instance.definition.items j one (is.sound.items i instance there) at)
      (passes_at is_by_grammar instance.definition.items j one (instance_inputs i instance there) at)
      (λ child given.
      let within = is.sound.inside i instance child there (child_found i instance there j one at child given) in
      is.names within.0 (inside instance.path child) within.1)
      before next holds)
      (own_edges setting instance) found.start found.holds) in
      as_left rel kept (driven_bit reading instance.path instance.definition all)
      (first_value (driver_bit reading instance.path instance.definition) all)
      (edge_value read (given_to (whole_of setting).drives key)) (driven_is reading instance.path instance.definition all)
      (agrees_value rel read (driver_bit reading instance.path instance.definition) kept is.zero all (whole_of setting).drives key agrees)

  -- ---- what is connected to a port

  module _ (place : ℕ) (outer : Instance) (child : Child) (stands : slice_get (instances setting) place ≡ Some outer)
      (found : child_named setting.design outer.definition child.name ≡ Some child) (name : Text)
      (is_port : is_input child.definition name ≡ true) (bit : ℕ) (within : bit < bit_count child.definition name) where
    abbrev key : Key
    key = key_of (inside outer.path child).path name bit

    abbrev values : List (Option Bool)
    values =
        child_values rel kept setting reading read state row is.zero outer (is.names place outer stands) child name is_port bit within

    abbrev of_item : Item → List (Option Bool)
    of_item = item_values rel kept setting reading read state row is.zero outer (is.names place outer stands) child name is_port bit within

    abbrev of_child : Child → List (Option Bool)
    of_child = values_of rel kept setting reading read state row is.zero outer (is.names place outer stands) child name is_port bit within

    outer_is : outer_bit setting reading key
        ≡ given_bit (names_in reading outer.path) outer.definition (bit_count child.definition name) bit (connected child name)
    outer_is =
        ap (option_and_then (port_within setting reading key)) (parent_is outer.path child.name)
        ∙ ap (option_and_then (λ m. option_and_then (port_bit reading outer.path m key) (child_named setting.design m child.name)))
        (is.sound.leads place outer stands)
        ∙ ap (option_and_then (port_bit reading outer.path outer.definition key)) found

    values_are : first_value itself (flat_map of_item outer.definition.items)
        ≡ given_bit (names_in reading outer.path) outer.definition (bit_count child.definition name) bit (connected child name)
    values_are =
        ap (first_value itself) (sym (flat_given of_child (child_of setting.design) outer.definition.items))
        ∙ first_kept (λ (other : Child). bytes_eq other.name child.name) values (children setting.design outer.definition) child found
        ∙ ap (first_value itself) (sym (flat_given
        (λ (connection : Connection). cond (bytes_eq connection.port name)
        (assigned_bit outer.definition (names_in reading outer.path) (bit_count child.definition name) connection.expression bit ∷ []) [])
        (connection_of child.definition) (enumerate_from 0 child.links)))
        ∙ first_given (names_in reading outer.path) outer.definition (bit_count child.definition name) bit
        (λ connection. bytes_eq connection.port name) (connections child)

    port_means : rel (outer_bit setting reading key) (edge_value read (given_to (whole_of setting).ports key))
    port_means =
        let all : List (Option Bool) = flat_map of_item outer.definition.items in
        let by_one = given_by setting (λ given. given.ports) (λ whole. whole.ports) (ports_whole setting) key rel read state row
        (instances setting) (first_of_expressions setting) place outer stands is.holds
        (λ j other at apart start. ports_none setting other key
        (λ name. other_path (other.path ++ name ∷ []) (outer.path ++ child.name ∷ [])
        (λ same. apart (is.sound.distinct j place other outer at stands (last_is other.path outer.path name child.name same).0))) start) in
        let agrees : Agrees rel read itself all (first_edge (whole_of setting).ports key) =
        subst (Agrees rel read itself all) by_one.same
        (each_agrees (λ given. given.ports) ports_part key (item_given setting outer) rel read state row itself of_item outer.definition.items
        (λ j one at before next holds.
        ports_agree rel kept setting reading read state row is.zero outer (is.names place outer stands) child name is_port bit within one
        (passes_at (item_is_sound setting.design outer.definition) outer.definition.items j one (is.sound.items place outer stands) at)
        (λ other given same.
        let here : child_named setting.design outer.definition other.name ≡ Some other =
        child_found place outer stands j one at other given in
        let named : other.name ≡ child.name = (bytes_eq-Decides other.name child.name).0 same in
        same_Some other child (sym here ∙ ap (child_named setting.design outer.definition) named ∙ found))
        before next holds)
        (own_edges setting outer) by_one.start by_one.holds) in
        as_left rel kept (outer_bit setting reading key) (first_value itself all) (edge_value read (given_to (whole_of setting).ports key))
        (outer_is ∙ sym values_are)
        (agrees_value rel read itself kept is.zero all (whole_of setting).ports key agrees)

  pub ports_mean : (i : ℕ) (instance : Instance) → slice_get (instances setting) i ≡ Some instance → (instance.path ≡ [] → ⊥)
      → (name : Text) → is_input instance.definition name ≡ true
      → (bit : ℕ) → bit < bit_count instance.definition name
      → rel (outer_bit setting reading (key_of instance.path name bit))
      (edge_value read (given_to (whole_of setting).ports (key_of instance.path name bit)))
  ports_mean i instance there deeper name is_port bit within = elim (is.sound.parent i instance there) [
    | inl top ↦ absurd (deeper top.0)
    | inr inner ↦ by inner is_port within
  ]
    where
      by : IsInside setting instance → is_input instance.definition name ≡ true → bit < bit_count instance.definition name
          → rel (outer_bit setting reading (key_of instance.path name bit))
          (edge_value read (given_to (whole_of setting).ports (key_of instance.path name bit)))
      by inner = subst (λ (one : Instance). is_input one.definition name ≡ true → bit < bit_count one.definition name
          → rel (outer_bit setting reading (key_of one.path name bit))
          (edge_value read (given_to (whole_of setting).ports (key_of one.path name bit))))
          (sym inner.is)
          (λ is_port within. port_means inner.place inner.outer inner.child inner.stands inner.named name is_port bit within)
