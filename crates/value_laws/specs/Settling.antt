-- More steps take no value back, and more steps than there are bits give no more values.
use Rattle.std.specs.Prelude.{◌≡◌, ℕ, ◌≤◌, List, Bool, length}
use Rattle.flat_net.specs.Orders.{IsBelow}
use Rattle.vlog_tree.specs.declared.key.Key.{Key}
use Rattle.vlog_tree.specs.Meaning.Keys.{all_keys}
use Rattle.vlog_tree.specs.Meaning.Setting.{Setting}
use Rattle.vlog_tree.specs.Meaning.Value.{Reading, read, value, value_by}

pub record ValuesSettle : Type 0 where
  -- a value stays with more steps
  pub grows : (setting : Setting) (state row : List Bool) (fewer steps : ℕ) (key : Key) → fewer ≤ steps →
      IsBelow (read setting state row fewer key) (read setting state row steps key)
  -- as many steps as there are keys suffice
  pub settled : (setting : Setting) (state row : List Bool) (steps : ℕ) (key : Key) → length (all_keys setting) ≤ steps →
      read setting state row steps key ≡ value setting state row key
  -- the values then solve the equations of the design
  pub fixed : (setting : Setting) (state row : List Bool) (key : Key) →
      value setting state row key ≡ value_by setting state row (value setting state row) key
  -- from more values that are looked up come more values
  pub monotone : (setting : Setting) (state row : List Bool) (first second : Reading) →
      ((key : Key) → IsBelow (first key) (second key)) → (key : Key) →
      IsBelow (value_by setting state row first key) (value_by setting state row second key)
