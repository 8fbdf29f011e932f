-- The value of a bit in a state under a row, read from the syntax tree by need.
use Rattle.std.specs.Prelude.{◌≡◌, ℕ, zero, suc, List, [], ◌∷◌, ◌++◌, Bool, false, not, ◌&&◌, Option, Some, None, All, IsSome, bytes_eq, cond, length, map, nat_lt, option_and_then, reverse}
use Rattle.std.specs.List.{list_all, list_any}
use Rattle.std.specs.Option.{option_or}
use Rattle.vlog_tree.specs.declared.design.Module.{Module}
use Rattle.vlog_tree.specs.declared.expr.Expr.{Expr}
use Rattle.vlog_tree.specs.declared.item.GateKind.{GateKind}
use Rattle.vlog_tree.specs.declared.item.GateKind.TheVariants as kind
use Rattle.vlog_tree.specs.declared.key.Key.{Key}
use Rattle.vlog_tree.specs.Meaning.Drivers.{Driver, drivers, expression, gate, port}
use Rattle.vlog_tree.specs.Meaning.Expressions.{Names, assigned_bit, expr_bit, parity}
use Rattle.vlog_tree.specs.Meaning.Instances.{Child, Path, child_named, connected, module_at, same_path}
use Rattle.vlog_tree.specs.Meaning.Keys.{all_keys, bit_count, input_keys, is_key, key_of, register_keys, same_key}
use Rattle.vlog_tree.specs.Meaning.Lefts.{bit_of}
use Rattle.vlog_tree.specs.Meaning.Names.{is_input}
use Rattle.vlog_tree.specs.Meaning.Setting.{Setting}
use Rattle.vlog_tree.specs.Meaning.Uses.{Text}
use Rattle.vlog_tree.specs.Meaning.Widths.{all_of}

-- how a bit is looked up
abbrev pub Reading : Type 0
Reading = Key → Option Bool

-- the same of the names of the module at a path
abbrev pub names_in : Reading → Path → Names
names_in read path name place = read (key_of path name place)

-- ---- what drives a bit

-- the function of a gate (clauses 7.2 and 7.3)
abbrev pub gate_value : GateKind → List Bool → Option Bool
gate_value kind.And ins = Some (list_all (λ input. input) ins)
gate_value kind.Nand ins = Some (not (list_all (λ input. input) ins))
gate_value kind.Or ins = Some (list_any (λ input. input) ins)
gate_value kind.Nor ins = Some (not (list_any (λ input. input) ins))
gate_value kind.Xor ins = Some (parity ins)
gate_value kind.Xnor ins = Some (not (parity ins))
gate_value kind.Buf (only ∷ []) = Some only
gate_value kind.Not (only ∷ []) = Some (not only)
gate_value other ins = None

-- a bit of a child's output port, and 0 above them
abbrev pub child_bit : Reading → Path → Child → Text → ℕ → Option Bool
child_bit read path child name number =
    cond (nat_lt number (bit_count child.definition name)) (read (key_of (path ++ child.name ∷ []) name number))
    (Some false)

abbrev pub driver_bit : Reading → Path → Module → Driver → Option Bool
driver_bit read path m (expression e count number) = assigned_bit m (names_in read path) count e number
driver_bit read path m (gate kind ins) =
    option_and_then (gate_value kind) (all_of (map (λ input. expr_bit m (names_in read path) input 1 0) ins))
driver_bit read path m (port child name number) = child_bit read path child name number

-- A bit without a driver is 0.
abbrev pub driven_bit : Reading → Path → Module → List Driver → Option Bool
driven_bit read path m [] = Some false
driven_bit read path m (driver ∷ others) = driver_bit read path m driver

-- ---- input ports

-- the bit that the parent gives to an input port, and 0 where nothing is connected (clause 12.3.9.2)
abbrev pub given_bit : Names → Module → ℕ → ℕ → Option Expr → Option Bool
given_bit names m count number (Some e) = assigned_bit m names count e number
given_bit names m count number None = Some false

-- a bit of an input port of a child
abbrev pub port_bit : Reading → Path → Module → Key → Child → Option Bool
port_bit read path m key child =
    given_bit (names_in read path) m (bit_count child.definition key.name) key.bit (connected child key.name)

-- a path without its last name, and that name, of the names in reverse
abbrev pub parent_of : List Text → Option (Path × Text)
parent_of [] = None
parent_of (name ∷ path) = Some (reverse path, name)

abbrev pub port_within : Setting → Reading → Key → Path × Text → Option Bool
port_within setting read key parent =
    option_and_then (λ m. option_and_then (port_bit read parent.0 m key) (child_named setting.design m parent.1))
    (module_at setting parent.0)

-- a bit of an input port, of an instance inside of another
abbrev pub outer_bit : Setting → Reading → Key → Option Bool
outer_bit setting read key = option_and_then (port_within setting read key) (parent_of (reverse key.path))

-- ---- all bits

-- a bit that is neither in the state nor in the row, in an instance of this module
abbrev pub inner_bit : Setting → Reading → Key → Module → Option Bool
inner_bit setting read key m =
    cond (is_input m key.name) (outer_bit setting read key)
    (driven_bit read key.path m (drivers setting.design m (bit_of key.name key.bit)))

-- The value beside the key, where the key is one of these. There is one value for each key.
abbrev pub entry : List Key → List Bool → Reading
entry [] values key = None
entry (other ∷ keys) [] key = None
entry (other ∷ keys) (value ∷ values) key = cond (same_key other key) (Some value) (entry keys values key)

-- The key is a bit of the top's clock.
abbrev pub is_clock : Setting → Key → Bool
is_clock setting key = same_path key.path [] && bytes_eq key.name setting.clock

-- The value of a bit by what is looked up: a register has its entry of the state, an input its entry of the row, and the
-- clock is 0. What is no key has no value.
abbrev pub value_by : Setting → List Bool → List Bool → Reading → Reading
value_by setting state row read key =
    cond (is_key setting key)
    (option_or (entry (register_keys setting) state key)
    (option_or (entry (input_keys setting) row key)
    (cond (is_clock setting key) (Some false)
    (option_and_then (inner_bit setting read key) (module_at setting key.path)))))
    None

-- The value of a key in a state under a row, within so many steps.
abbrev pub read : Setting → List Bool → List Bool → ℕ → Reading
read setting state row zero key = None
read setting state row (suc steps) key = value_by setting state row (read setting state row steps) key

-- the value, within as many steps as there are keys
abbrev pub value : Setting → List Bool → List Bool → Reading
value setting state row = read setting state row (length (all_keys setting))

-- Each key has a value in every state under every row.
abbrev pub IsLoopFree : Setting → Type 0
IsLoopFree setting =
    (state row : List Bool) → length state ≡ length (register_keys setting) → length row ≡ length (input_keys setting)
    → All (λ key. IsSome (value setting state row key)) (all_keys setting)
