-- What is connected to the ports of a child.
use Rattle.std.proofs.Common.{◌≡◌, ◌++◌, ℕ, Bool, true, false, List, [], Option, append-nil, ap, cond, length, map, refl, reverse, subst, sym, ◌∙◌}
use Rattle.std.specs.List.{range_with_len, zip}
use Rattle.std.proofs.lemmas.List.{length-map}
use Rattle.std.proofs.lemmas.List.FromFn.{length-range_with_len}
use Rattle.std.proofs.lemmas.Simd.{map-map}
use Rattle.drives.specs.Given.{drive_number, given_all, given_so_far, port_number}
use Rattle.drives.proofs.SettingLemmas.{drives_given, ports_given}
use Rattle.flat_design.specs.Items.{Drive, Given, connection_given, input_given, nothing_given, output_drives, port_edges}
use Rattle.flat_items.specs.Carried.{Carried, CarriesTo}
use Rattle.flat_items.specs.Framing.{number_by}
use Rattle.flat_items.specs.Linked.{AreLinked, GivesBack, Links, LinksTo, back_given, connection, into_given}
use Rattle.flat_items.specs.Parts.{name_edges}
use Rattle.flat_items.specs.declared.side.Side.TheVariants.{Inside, Outside}
use Rattle.flat_items.proofs.AssignLemmas.{count_down, reversed_down}
use Rattle.flat_items.proofs.FrameLemmas.{inside_numbers, outside_numbers, wires_are}
use Rattle.flat_net.specs.declared.edge.Edge.{Edge}
use Rattle.flat_net.specs.declared.fault.FlatFault.{FlatFault}
use Rattle.frames.specs.Framed.{Framed, wires_of}
use Rattle.lowering.specs.Expressions.{assigned}
use Rattle.lowering.specs.Limits.{Added, Excuses, next_of, with_more}
use Rattle.lowering.specs.Lowered.{Lowered, after, extended}
use Rattle.numbering.specs.Numbering.{key_in, keyed, wires_in}
use Rattle.processes.specs.Statements.{Registers}
use Rattle.targets.specs.Numbers.{assigned_bits, numbers_down}
use Rattle.vlog_tree.specs.declared.expr.Expr.{Expr}
use Rattle.vlog_tree.specs.Meaning.Instances.{Child, Instance, Path, inside}
use Rattle.vlog_tree.specs.Meaning.Keys.{bit_count, key_of}
use Rattle.vlog_tree.specs.Meaning.Lefts.{Bit, bit_of}
use Rattle.vlog_tree.specs.Meaning.Names.{is_input, is_output}
use Rattle.vlog_tree.specs.Meaning.Setting.{Setting}
use Rattle.vlog_tree.specs.Meaning.Uses.{Text}

-- the bits of a port of so many
abbrev port_bits : Text → ℕ → List Bit
port_bits port count = map (bit_of port) (range_with_len 0 count)

keys_are : (path : Path) (port : Text) (count : ℕ) → keyed path (port_bits port count) ≡ map (key_of path port) (range_with_len 0 count)
keys_are path port count = map-map (key_in path) (bit_of port) (range_with_len 0 count)

-- ---- input ports

module _ (frame inner : Framed) (port : Text) (e : Expr) (start : Added) (numbers : List (Option ℕ)) (numbers_are : numbers ≡ map (number_by Outside inner) (port_bits port (bit_count inner.placing.definition port))) where
  abbrev at_count : ℕ → Lowered
  at_count count = assigned frame.placing.definition (wires_of frame) count e (next_of start)

  module _ (setting : Setting) (instance : Instance) (child : Child) (linked : AreLinked setting instance child frame inner) where
    abbrev count : ℕ
    count = bit_count child.definition port

    abbrev done : Lowered
    done = assigned instance.definition (wires_in setting instance.path) count e (next_of start)

    count_is : length numbers ≡ count
    count_is =
        ap length numbers_are ∙ length-map (port_bits port (bit_count inner.placing.definition port)) (number_by Outside inner)
        ∙ length-map (range_with_len 0 (bit_count inner.placing.definition port)) (bit_of port)
        ∙ length-range_with_len 0 (bit_count inner.placing.definition port)
        ∙ (λ j. bit_count (linked.inner_is.definition j) port)

    done_is : at_count (length numbers) ≡ done
    done_is =
        λ j. assigned (linked.outer.definition j) (wires_are setting linked.place instance frame linked.outer j) (count_is j) e (next_of start)

    numbers_there : numbers ≡ map (port_number setting (inside instance.path child)) (port_bits port count)
    numbers_there =
        numbers_are
        ∙ (λ j. map (outside_numbers setting linked.inner_place (inside instance.path child) inner linked.inner_is j)
        (port_bits port (bit_count (linked.inner_is.definition j) port)))

  pub input_gives : (end : Added) (old new : List (Option Edge)) (edges : List Edge)
      → end ≡ with_more start (at_count (length numbers)) → edges ≡ (at_count (length numbers)).edges
      → new ≡ given_all old (zip numbers edges)
      → Links frame inner (λ setting instance child. input_given setting instance child (connection port e)) start end old new
  input_gives end old new edges nodes_are edges_are new_is setting instance child linked was = record {
    nodes = λ before was_is. nodes_are ∙ ap (with_more start) (done_is setting instance child linked);
    driven =
        λ before was_is drives ports old_is. new_is
        ∙ (λ j. given_all (old_is j) (zip (numbers_there setting instance child linked j)
        ((edges_are ∙ ap (λ (part : Lowered). part.edges) (done_is setting instance child linked)) j)))
        ∙ ports_given setting linked.inner_place (inside instance.path child) linked.inner_is.placed
        (port_bits port (count setting instance child linked)) (done setting instance child linked).edges drives ports
        ∙ (λ j. given_so_far setting (sym (append-nil drives) j)
        (ports ++ zip (keys_are (inside instance.path child).path port (count setting instance child linked) j)
        (done setting instance child linked).edges));
    registers = λ before was_is. was_is;
  }

  pub input_fails : (fault : FlatFault) → Excuses (after (next_of start) (at_count (length numbers))) fault
      → LinksTo frame inner (λ setting instance child. input_given setting instance child (connection port e)) start fault
  input_fails fault excused setting instance child linked was before was_is =
      subst (λ (part : Lowered). Excuses (after (next_of start) part) fault) (done_is setting instance child linked) excused

-- ---- output ports

pub output_gives : (frame inner : Framed) (port : Text) (e : Expr) (numbers : List (Option ℕ)) (old new : List (Option Edge)) (edges : List Edge)
    → numbers ≡ numbers_down (number_by Inside frame) (assigned_bits frame.placing.definition e)
    → edges ≡ extended (length numbers) (name_edges inner.placing.definition (wires_of inner) port)
    → new ≡ given_all old (zip (reverse numbers) edges)
    → GivesBack frame inner (λ setting instance child. output_drives setting instance child (connection port e)) old new
output_gives frame inner port e numbers old new edges numbers_are edges_are new_is setting instance child linked drives ports old_is =
    let bits : List Bit = assigned_bits instance.definition e in
    let count : length numbers ≡ length bits =
    ap length numbers_are ∙ count_down (number_by Inside frame) (assigned_bits frame.placing.definition e)
    ∙ (λ j. length (assigned_bits (linked.outer.definition j) e)) in
    let reversed : reverse numbers ≡ map (drive_number setting instance) bits =
    ap reverse numbers_are ∙ reversed_down (number_by Inside frame) (assigned_bits frame.placing.definition e)
    ∙ (λ j. map (inside_numbers setting linked.place instance frame linked.outer j) (assigned_bits (linked.outer.definition j) e)) in
    let edges_there : edges ≡ extended (length bits) (port_edges setting instance child port) =
    edges_are
    ∙ (λ j. extended (count j) (name_edges (linked.inner_is.definition j)
    (wires_are setting linked.inner_place (inside instance.path child) inner linked.inner_is j) port)) in
    new_is
    ∙ (λ j. given_all (old_is j) (zip (reversed j) (edges_there j)))
    ∙ drives_given setting linked.place instance linked.outer.placed bits (extended (length bits) (port_edges setting instance child port)) drives ports

-- ---- which port it is

module _ (frame inner : Framed) (port : Text) (e : Expr) where
  -- the test of the code is that of the child
  into_test : (setting : Setting) (instance : Instance) (child : Child) → AreLinked setting instance child frame inner
      → is_input inner.placing.definition port ≡ is_input child.definition port
  into_test setting instance child linked = λ j. is_input (linked.inner_is.definition j) port

  back_test : (setting : Setting) (instance : Instance) (child : Child) → AreLinked setting instance child frame inner
      → is_output inner.placing.definition port ≡ is_output child.definition port
  back_test setting instance child linked = λ j. is_output (linked.inner_is.definition j) port

  -- what is given, by the test
  abbrev into_by : Setting → Instance → Child → Bool → Registers → ℕ → Given
  into_by setting instance child b before next =
      cond b (input_given setting instance child (connection port e) before next) (nothing_given before)

  pub into_is : (b : Bool) → is_input inner.placing.definition port ≡ b → (start end : Added) (old new : List (Option Edge))
      → Links frame inner (λ setting instance child before next. into_by setting instance child b before next) start end old new
      → Links frame inner (into_given (connection port e)) start end old new
  into_is b is start end old new links setting instance child linked was =
      subst (λ b. Carried setting instance.definition (into_by setting instance child b) start end old new was was)
      (sym is ∙ into_test setting instance child linked) (links setting instance child linked was)

  pub into_fails : (b : Bool) → is_input inner.placing.definition port ≡ b → (start : Added) (fault : FlatFault)
      → LinksTo frame inner (λ setting instance child before next. into_by setting instance child b before next) start fault
      → LinksTo frame inner (into_given (connection port e)) start fault
  into_fails b is start fault links setting instance child linked was =
      subst (λ b. CarriesTo instance.definition (into_by setting instance child b) start was fault)
      (sym is ∙ into_test setting instance child linked) (links setting instance child linked was)

  abbrev back_by : Setting → Instance → Child → Bool → List Drive
  back_by setting instance child b = cond b (output_drives setting instance child (connection port e)) []

  pub back_is : (b : Bool) → is_output inner.placing.definition port ≡ b → (old new : List (Option Edge))
      → GivesBack frame inner (λ setting instance child. back_by setting instance child b) old new
      → GivesBack frame inner (back_given (connection port e)) old new
  back_is b is old new given setting instance child linked drives ports old_is =
      subst (λ b. new ≡ given_so_far setting (drives ++ back_by setting instance child b) ports)
      (sym is ∙ back_test setting instance child linked) (given setting instance child linked drives ports old_is)

  -- nothing is given by a port that is no output
  pub nothing_back : (old : List (Option Edge)) → GivesBack frame inner (λ setting instance child. []) old old
  nothing_back old setting instance child linked drives ports old_is =
      old_is ∙ (λ j. given_so_far setting (sym (append-nil drives) j) ports)

  -- ---- both

  no_drives : (setting : Setting) (instance : Instance) (child : Child) (b : Bool) (before : Registers) (next : ℕ)
      → (into_by setting instance child b before next).drives ≡ []
  no_drives setting instance child true before next = refl
  no_drives setting instance child false before next = refl

  pub connection_carried : (start end : Added) (old mid new : List (Option Edge))
      → Links frame inner (into_given (connection port e)) start end old mid
      → GivesBack frame inner (back_given (connection port e)) mid new
      → Links frame inner (λ setting instance child. connection_given setting instance child (connection port e)) start end old new
  connection_carried start end old mid new into back setting instance child linked was = record {
    nodes = (into setting instance child linked was).nodes;
    driven =
        λ before was_is drives ports old_is.
        let given : Given = into_given (connection port e) setting instance child before (next_of start) in
        let none : drives ++ given.drives ≡ drives =
        ap (λ more. drives ++ more) (no_drives setting instance child (is_input child.definition port) before (next_of start))
        ∙ append-nil drives in
        back setting instance child linked drives (ports ++ given.ports)
        ((into setting instance child linked was).driven before was_is drives ports old_is
        ∙ (λ j. given_so_far setting (none j) (ports ++ given.ports)));
    registers = (into setting instance child linked was).registers;
  }
