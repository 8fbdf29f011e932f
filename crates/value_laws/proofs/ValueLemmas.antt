-- Values of bits, found in steps.
use Rattle.std.specs.Prelude.{◌≡◌, ℕ, ◌≤◌, List, [], ◌∷◌, ◌++◌, Bool, true, false, ◌&&◌, ◌==◌, Option, None, Some, bytes_eq, cond, length, map, nat_lt, option_and_then, refl, reverse}
use Rattle.std.specs.Cmp.Lexicographic.{pointwise_decides}
use Rattle.std.specs.Option.{option_or}
use Rattle.std.proofs.Common.{ap}
use Rattle.std.proofs.lemmas.Bool.{and_parts}
use Rattle.std.proofs.lemmas.Bool.Decides.{Decides-eqb}
use Rattle.std.proofs.lemmas.Slice.Eq.{bytes_eq-Decides}
use Rattle.flat_net.specs.Orders.{IsBelow}
use Rattle.flat_net.proofs.Rounds.{HasAll, IsRounds, place_by_test}
use Rattle.flat_net.proofs.Rounds as rounds
use Rattle.vlog_tree.specs.declared.design.Module.{Module}
use Rattle.vlog_tree.specs.declared.expr.Expr.{Expr}
use Rattle.vlog_tree.specs.declared.key.Key.{Key}
use Rattle.vlog_tree.specs.Meaning.Drivers.{Driver, drivers, expression, gate, port}
use Rattle.vlog_tree.specs.Meaning.Expressions.{expr_bit}
use Rattle.vlog_tree.specs.Meaning.Instances.{Child, Path, child_named, connected, module_at, same_path}
use Rattle.vlog_tree.specs.Meaning.Keys.{all_keys, bit_count, input_keys, is_key, key_of, register_keys, same_key}
use Rattle.vlog_tree.specs.Meaning.Lefts.{bit_of}
use Rattle.vlog_tree.specs.Meaning.Names.{is_input}
use Rattle.vlog_tree.specs.Meaning.Setting.{Setting}
use Rattle.vlog_tree.specs.Meaning.Uses.{Text}
use Rattle.vlog_tree.specs.Meaning.Value.{Reading, child_bit, driven_bit, driver_bit, entry, gate_value, given_bit, inner_bit, is_clock, names_in, outer_bit, parent_of, port_bit, port_within, read, value, value_by}
use Rattle.vlog_tree.specs.Meaning.Widths.{all_of}
use Rattle.value_laws.proofs.BelowLemmas.{all_below, below_self, cond_below, or_below, then_below, then_each}
use Rattle.value_laws.proofs.ExpressionLemmas.{assigned_below, expression_below}

-- ---- a bit, by what is looked up

module _ (first second : Reading) (below : (key : Key) → IsBelow (first key) (second key)) where
  names_below : (path : Path) (name : Text) (bit : ℕ) → IsBelow (names_in first path name bit) (names_in second path name bit)
  names_below path name bit = below (key_of path name bit)

  child_below : (path : Path) (child : Child) (name : Text) (number : ℕ)
      → IsBelow (child_bit first path child name number) (child_bit second path child name number)
  child_below path child name number =
      let key : Key = key_of (path ++ child.name ∷ []) name number in
      cond_below (nat_lt number (bit_count child.definition name)) (first key) (second key) (Some false) (Some false)
      (below key) (below_self (Some false))

  driver_below : (path : Path) (m : Module) (driver : Driver)
      → IsBelow (driver_bit first path m driver) (driver_bit second path m driver)
  driver_below path m (expression e count number) =
      assigned_below m (names_in first path) (names_in second path) (names_below path) count e number
  driver_below path m (gate kind ins) =
      then_below (gate_value kind) (all_of (map (λ input. expr_bit m (names_in first path) input 1 0) ins))
      (all_of (map (λ input. expr_bit m (names_in second path) input 1 0) ins))
      (all_below (λ input. expr_bit m (names_in first path) input 1 0) (λ input. expr_bit m (names_in second path) input 1 0)
      (λ input. expression_below m (names_in first path) (names_in second path) (names_below path) input 1 0) ins)
  driver_below path m (port child name number) = child_below path child name number

  driven_below : (path : Path) (m : Module) (list : List Driver)
      → IsBelow (driven_bit first path m list) (driven_bit second path m list)
  driven_below path m [] = below_self (Some false)
  driven_below path m (driver ∷ others) = driver_below path m driver

  given_below : (path : Path) (m : Module) (count number : ℕ) (given : Option Expr)
      → IsBelow (given_bit (names_in first path) m count number given) (given_bit (names_in second path) m count number given)
  given_below path m count number None = below_self (Some false)
  given_below path m count number (Some e) =
      assigned_below m (names_in first path) (names_in second path) (names_below path) count e number

  port_below : (path : Path) (m : Module) (key : Key) (child : Child)
      → IsBelow (port_bit first path m key child) (port_bit second path m key child)
  port_below path m key child =
      given_below path m (bit_count child.definition key.name) key.bit (connected child key.name)

  module _ (setting : Setting) where
    within_below : (key : Key) (parent : Path × Text)
        → IsBelow (port_within setting first key parent) (port_within setting second key parent)
    within_below key parent =
        then_each (λ m. option_and_then (port_bit first parent.0 m key) (child_named setting.design m parent.1))
        (λ m. option_and_then (port_bit second parent.0 m key) (child_named setting.design m parent.1))
        (λ m. then_each (port_bit first parent.0 m key) (port_bit second parent.0 m key) (port_below parent.0 m key)
        (child_named setting.design m parent.1)) (module_at setting parent.0)

    outer_below : (key : Key) → IsBelow (outer_bit setting first key) (outer_bit setting second key)
    outer_below key =
        then_each (port_within setting first key) (port_within setting second key) (within_below key) (parent_of (reverse key.path))

    inner_below : (key : Key) (m : Module) → IsBelow (inner_bit setting first key m) (inner_bit setting second key m)
    inner_below key m =
        let list : List Driver = drivers setting.design m (bit_of key.name key.bit) in
        cond_below (is_input m key.name) (outer_bit setting first key) (outer_bit setting second key)
        (driven_bit first key.path m list) (driven_bit second key.path m list) (outer_below key) (driven_below key.path m list)

    module _ (state row : List Bool) where
      -- what a key has that is in neither the state nor the row
      free_below : (key : Key) → IsBelow (option_and_then (inner_bit setting first key) (module_at setting key.path))
          (option_and_then (inner_bit setting second key) (module_at setting key.path))
      free_below key =
          then_each (inner_bit setting first key) (inner_bit setting second key) (inner_below key) (module_at setting key.path)

      pub value_below : (key : Key) → IsBelow (value_by setting state row first key) (value_by setting state row second key)
      value_below key =
          let inner : Option Bool = option_and_then (inner_bit setting first key) (module_at setting key.path) in
          let other : Option Bool = option_and_then (inner_bit setting second key) (module_at setting key.path) in
          let clocked : Option Bool = cond (is_clock setting key) (Some false) inner in
          let other_clocked : Option Bool = cond (is_clock setting key) (Some false) other in
          let given : Option Bool = entry (input_keys setting) row key in
          let stored : Option Bool = entry (register_keys setting) state key in
          cond_below (is_key setting key) (option_or stored (option_or given clocked)) (option_or stored (option_or given other_clocked))
          None None
          (or_below stored (option_or given clocked) (option_or given other_clocked)
          (or_below given clocked other_clocked
          (cond_below (is_clock setting key) (Some false) (Some false) inner other (below_self (Some false)) (free_below key))))
          (below_self None)

-- ---- keys

keys_equal : (a b : Key) → same_key a b ≡ true → a ≡ b
keys_equal a b same =
    let outer = and_parts (same_path a.path b.path) (bytes_eq a.name b.name && (a.bit == b.bit)) same in
    let inner = and_parts (bytes_eq a.name b.name) (a.bit == b.bit) outer.1 in
    let path : a.path ≡ b.path = (pointwise_decides bytes_eq-Decides a.path b.path).0 outer.0 in
    let name : a.name ≡ b.name = (bytes_eq-Decides a.name b.name).0 inner.0 in
    let bit : a.bit ≡ b.bit = (Decides-eqb a.bit b.bit).0 inner.1 in
    λ j. record { path = path j; name = name j; bit = bit j }

-- ---- rounds

module _ (setting : Setting) (state row : List Bool) where
  read_rounds : IsRounds (value_by setting state row) (read setting state row)
  read_rounds = record {
    first = λ key. refl;
    next = λ steps key. refl;
    monotone = λ first second below key. value_below first second below setting state row key;
  }

  outside_none : (reading : Reading) (key : Key) → is_key setting key ≡ false → value_by setting state row reading key ≡ None
  outside_none reading key out =
      ap (λ inside. cond inside
      (option_or (entry (register_keys setting) state key)
      (option_or (entry (input_keys setting) row key)
      (cond (is_clock setting key) (Some false)
      (option_and_then (inner_bit setting reading key) (module_at setting key.path)))))
      None) out

  keys_all : HasAll (value_by setting state row) (is_key setting) (all_keys setting)
  keys_all = record {
    covered = λ key inside. place_by_test same_key keys_equal (all_keys setting) key inside;
    outside = outside_none;
  }

  pub read_grows : (fewer steps : ℕ) (key : Key) → fewer ≤ steps →
      IsBelow (read setting state row fewer key) (read setting state row steps key)
  read_grows fewer steps key fits =
      rounds.grows (value_by setting state row) (read setting state row) read_rounds fewer steps fits key

  pub read_settled : (steps : ℕ) (key : Key) → length (all_keys setting) ≤ steps →
      read setting state row steps key ≡ value setting state row key
  read_settled steps key enough =
      rounds.settled (value_by setting state row) (read setting state row) read_rounds (is_key setting) (all_keys setting)
      keys_all steps enough key

  pub value_fixed : (key : Key) → value setting state row key ≡ value_by setting state row (value setting state row) key
  value_fixed key =
      rounds.fixed (value_by setting state row) (read setting state row) read_rounds (is_key setting) (all_keys setting)
      keys_all key
