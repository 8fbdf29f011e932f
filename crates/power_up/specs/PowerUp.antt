-- What registers have at power-up, instance by instance.
use Rattle.std.specs.Prelude.{ℕ, ◌-◌, ◌≤◌, ◌≡◌, List, ◌++◌, Bool, false, Some, filter_map, flat_map, length, map, replicate, slice_get}
use Rattle.vlog_tree.specs.declared.design.Module.{Module}
use Rattle.vlog_tree.specs.Meaning.Instances.{Instance, instances, module_at}
use Rattle.vlog_tree.specs.Meaning.Lefts.{Bit}
use Rattle.vlog_tree.specs.Meaning.Setting.{Setting}
use Rattle.vlog_tree.specs.Meaning.Step.{first_of_bits, initial_of, power_up}
use Rattle.numbering.specs.Bits.{register_bits}

-- a register's bit at power-up: the first `initial` counts, and there is 0 without one
abbrev pub bit_at_power_up : Module → Bit → Bool
bit_at_power_up m bit = first_of_bits (filter_map (initial_of m bit) m.items)

-- those of all registers of a module, in their order
abbrev pub bits_at_power_up : Module → List Bool
bits_at_power_up m = map (bit_at_power_up m) (register_bits m)

-- Of some bits those from `first` on were false, with room for the module's registers: these are set, and all others stay.
abbrev pub AddsPowerUp : Module → ℕ → List Bool → List Bool → Type 0
AddsPowerUp m first old new = (before : List Bool) (room : ℕ) → old ≡ before ++ replicate room false → first ≡ length before
    → length (register_bits m) ≤ room
    → new ≡ before ++ (bits_at_power_up m ++ replicate (room - length (register_bits m)) false)

-- The path of each instance leads to its module.
abbrev pub PathsLead : Setting → Type 0
PathsLead setting = (i : ℕ) (instance : Instance) → slice_get (instances setting) i ≡ Some instance
    → module_at setting instance.path ≡ Some instance.definition

-- the bits of all instances, in pre-order
abbrev pub power_up_by_instance : Setting → List Bool
power_up_by_instance setting = flat_map (λ instance. bits_at_power_up instance.definition) (instances setting)

abbrev pub PowerUpIsOfInstances : Type 0
PowerUpIsOfInstances = (setting : Setting) → PathsLead setting → power_up setting ≡ power_up_by_instance setting
