-- The machine of a design: its first state, its next states and its checker (IEEE 1364-2005, clause 9).
use Rattle.std.specs.Prelude.{List, [], ◌∷◌, Bool, false, not, ◌&&◌, Option, Some, None, bytes_eq, cond, filter_map, fold, length, map, option_and_then, replicate, unwrap_or, zip}
use Rattle.trace_rows.specs.Machine.{Machine}
use Rattle.vlog_tree.specs.declared.design.Module.{Module}
use Rattle.vlog_tree.specs.declared.expr.Expr.{Expr}
use Rattle.vlog_tree.specs.declared.item.Item.{Item}
use Rattle.vlog_tree.specs.declared.item.Item.TheVariants.{Always, Initial}
use Rattle.vlog_tree.specs.declared.key.Key.{Key}
use Rattle.vlog_tree.specs.declared.left.Left.{Left}
use Rattle.vlog_tree.specs.declared.stmt.Stmt.{Stmt}
use Rattle.vlog_tree.specs.declared.stmt.Stmt.TheFolds.{fold-Stmt}
use Rattle.vlog_tree.specs.declared.stmt.Stmt.TheOpen.{Stmt-F}
use Rattle.vlog_tree.specs.Meaning.Expressions.{Names, assigned_bit, is_true}
use Rattle.vlog_tree.specs.Meaning.Instances.{module_at}
use Rattle.vlog_tree.specs.Meaning.Keys.{bit_count, input_keys, key_of, register_keys}
use Rattle.vlog_tree.specs.Meaning.Lefts.{Bit, bit_of, left_bits, number_in}
use Rattle.vlog_tree.specs.Meaning.Setting.{Setting}
use Rattle.vlog_tree.specs.Meaning.Uses.{Text}
use Rattle.vlog_tree.specs.Meaning.Value.{Reading, names_in, value}

-- ---- statements

-- a bit after a statement, by the bit before it
abbrev pub Change : Type 0
Change = Option Bool → Option Bool

-- the bit of the right side that an assignment gives, or the bit before it where it gives none
abbrev pub after_set : Module → Names → Bit → Left → Expr → Change
after_set m names bit left right before = elim (number_in (left_bits m left) bit) as (λ number. Option Bool) [
  | Some number ↦ assigned_bit m names (length (left_bits m left)) right number
  | None ↦ before
]

-- without `else` the bit stays
abbrev pub after_other : Option Change → Change
after_other (Some other) before = other before
after_other None before = before

-- A register's bit after a statement (clause 9.2.2): of several assignments to it the last one counts, and a bit that is
-- not assigned stays. All are of values from before the edge.
abbrev pub after_at : Module → Names → Bit → Stmt-F Change → Change
after_at m names bit Stmt-F.Empty before = before
after_at m names bit (Stmt-F.Block body) before = fold (λ value statement. statement value) before body
after_at m names bit (Stmt-F.If condition first other) before =
    option_and_then (λ choice. cond choice (first before) (after_other other before)) (is_true m names condition)
after_at m names bit (Stmt-F.Set at left right) before = after_set m names bit left right before

abbrev pub after_statement : Module → Names → Bit → Stmt → Change
after_statement m names bit = fold-Stmt Change (after_at m names bit)

abbrev pub after_item : Module → Names → Bit → Option Bool → Item → Option Bool
after_item m names bit before (Always at clock body) = after_statement m names bit body before
after_item m names bit before other = before

-- ---- the next state

-- a register's bit after the edge
abbrev pub next_bit : Setting → Reading → Key → Bool → Option Bool
next_bit setting read key before =
    option_and_then (λ m. fold (after_item m (names_in read key.path) (bit_of key.name key.bit)) (Some before) m.items)
    (module_at setting key.path)

-- The value, and 0 where there is none. A bit of a loop-free design that keeps the rules always has one.
abbrev pub known : Option Bool → Bool
known value = unwrap_or value false

-- the state after a cycle with this state and this row
abbrev pub next : Setting → List Bool → List Bool → List Bool
next setting state row =
    map (λ register. known (next_bit setting (value setting state row) register.0 register.1))
    (zip (register_keys setting) state)

-- ---- the checker

abbrev pub check_key : Setting → Key
check_key setting = key_of [] setting.check 0

-- The cycle with this state and this row violates.
abbrev pub bad : Setting → List Bool → List Bool → Bool
bad setting state row = known (value setting state row (check_key setting))

-- ---- the first state

-- no name has a value
abbrev pub no_names : Names
no_names name place = None

-- the bit that an `initial` gives to a register (clause 9.9.1)
abbrev pub initial_of : Module → Bit → Item → Option Bool
initial_of m bit (Initial at name value) =
    cond (bytes_eq name bit.name) (assigned_bit m no_names (bit_count m name) value bit.place) None
initial_of m bit other = None

abbrev pub first_of_bits : List Bool → Bool
first_of_bits bits = elim bits as (λ bits. Bool) [ [] ↦ false | bit ∷ others ↦ bit ]

-- a register's bit at power-up, and 0 where no `initial` gives it one
abbrev pub power_up_bit : Setting → Key → Bool
power_up_bit setting key =
    known (option_and_then (λ m. Some (first_of_bits (filter_map (initial_of m (bit_of key.name key.bit)) m.items)))
    (module_at setting key.path))

abbrev pub power_up : Setting → List Bool
power_up setting = map (power_up_bit setting) (register_keys setting)

-- the row that has one input at a value, and 0 elsewhere
abbrev pub row_with : Setting → Text → Bool → List Bool
row_with setting name value = map (λ key. bytes_eq key.name name && value) (input_keys setting)

-- the rows of the reset cycles, in which the reset input is active
abbrev pub reset_rows : Setting → Option (Text × Bool) → List (List Bool)
reset_rows setting (Some (name, active)) = replicate setting.reset_cycles (row_with setting name active)
reset_rows setting None = []

-- the state that each run starts from
abbrev pub start : Setting → List Bool
start setting = fold (next setting) (power_up setting) (reset_rows setting setting.reset)

-- the row that events are counted from, in which the reset input is not active
abbrev pub base_row : Setting → Option (Text × Bool) → List Bool
base_row setting (Some (name, active)) = row_with setting name (not active)
base_row setting None = map (λ key. false) (input_keys setting)

-- the machine of a design
abbrev pub machine : Setting → Machine
machine setting = record {
  start = start setting;
  next = next setting;
  bad = bad setting;
  base = base_row setting setting.reset;
}
