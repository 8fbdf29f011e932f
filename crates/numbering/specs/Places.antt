-- Where the bits of a name stand among those of its kind.
use Rattle.std.specs.Prelude.{⊤, ℕ, ◌+◌, ◌<◌, ◌≤◌, ◌≡◌, List, [], true, false, Option, Some, None, is_some, length, position}
use Rattle.bm_base.specs.declared.size.Size.TheVariants.{Nodes}
use Rattle.bm_base.specs.Size.{limit_of}
use Rattle.numbering.specs.declared.place.Place.{Place}
use Rattle.numbering.specs.declared.place.Place.TheVariants.{Clock, Driven, Input, Register}
use Rattle.vlog_tree.specs.declared.design.Module.{Module}
use Rattle.vlog_tree.specs.Meaning.Keys.{bit_count}
use Rattle.vlog_tree.specs.Meaning.Lefts.{Bit, bit_of, same_bit}
use Rattle.vlog_tree.specs.Meaning.Names.{is_input, is_register}
use Rattle.vlog_tree.specs.Meaning.Uses.{Text}
use Rattle.numbering.specs.Bits.{driven_bits, input_bits, is_driven, register_bits}

-- a module and, where it is the top, its clock
pub record Placing : Type 0 where
  pub definition : Module
  pub clock : Option Text

abbrev pub placing : Module → Option Text → Placing
placing definition clock = record { definition = definition; clock = clock }

-- No name of the module is both a register and an input.
abbrev pub IsApart : Module → Type 0
IsApart m = (name : Text) → is_register m name ≡ true → is_input m name ≡ false

-- the bits of inputs: a module that is not the top has none
abbrev pub input_bits_by : Option Text → Module → List Bit
input_bits_by None m = []
input_bits_by (Some clock) m = input_bits clock m

abbrev pub placed_inputs : Placing → List Bit
placed_inputs it = input_bits_by it.clock it.definition

abbrev pub placed_registers : Placing → List Bit
placed_registers it = register_bits it.definition

abbrev pub placed_driven : Placing → List Bit
placed_driven it = driven_bits (is_some it.clock) it.definition

-- how many bits all names have, the clock aside
abbrev pub count_of_bits : Placing → ℕ
count_of_bits it = length (placed_inputs it) + length (placed_registers it) + length (placed_driven it)

-- The bits of a name stand in a list from this number on.
pub record StandFrom (bits : List Bit) (m : Module) (name : Text) (first : ℕ) : Type 0 where
  pub each : (bit : ℕ) → bit < bit_count m name → position (same_bit (bit_of name bit)) bits ≡ Some (first + bit)
  pub within : first + bit_count m name ≤ length bits

-- The place of a name says of what kind it is, and where its bits stand among those of this kind.
abbrev pub IsPlace : Placing → Text → Place → Type 0
IsPlace it name Clock = (it.clock ≡ Some name) × (is_input it.definition name ≡ true) × (is_register it.definition name ≡ false)
IsPlace it name (Input first) =
    (is_some it.clock ≡ true)
    × (is_input it.definition name ≡ true)
    × (is_register it.definition name ≡ false)
    × StandFrom (placed_inputs it) it.definition name first
IsPlace it name (Register first) =
    (is_register it.definition name ≡ true) × StandFrom (placed_registers it) it.definition name first
IsPlace it name (Driven first) =
    (is_driven (is_some it.clock) it.definition name ≡ true) × StandFrom (placed_driven it) it.definition name first

-- The bits of a name stand within the limit on nodes. Those of the clock stand nowhere.
abbrev pub IsWithinNodes : Place → ℕ → Type 0
IsWithinNodes Clock count = ⊤
IsWithinNodes (Input first) count = first + count ≤ limit_of Nodes
IsWithinNodes (Register first) count = first + count ≤ limit_of Nodes
IsWithinNodes (Driven first) count = first + count ≤ limit_of Nodes
