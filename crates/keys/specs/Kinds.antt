-- The bits of a kind, by module and by instance.
use Rattle.std.specs.Prelude.{ℕ, List, Bool, not, ◌&&◌, bytes_eq, filter}
use Rattle.vlog_tree.specs.declared.design.Module.{Module}
use Rattle.vlog_tree.specs.declared.key.Key.{Key}
use Rattle.vlog_tree.specs.Meaning.Instances.{Instance}
use Rattle.vlog_tree.specs.Meaning.Keys.{input_keys, register_keys}
use Rattle.vlog_tree.specs.Meaning.Lefts.{Bit}
use Rattle.vlog_tree.specs.Meaning.Names.{is_input, is_register, names}
use Rattle.vlog_tree.specs.Meaning.Setting.{Setting}
use Rattle.vlog_tree.specs.Meaning.Uses.{Text}
use Rattle.numbering.specs.Bits.{bits_of, is_driven}
use Rattle.numbering.specs.Frames.{driven_before, registers_before}
use Rattle.numbering.specs.Numbering.{driven_keys, is_top}
use Rattle.keys.specs.declared.kind.Kind.{Kind}
use Rattle.keys.specs.declared.kind.Kind.TheVariants as kind

-- The bits of the name are of the kind: in a module that is the top or not, where the top has this clock.
abbrev pub is_of : Kind → Bool → Text → Module → Text → Bool
is_of kind.Input is_top clock m name = is_input m name && not (bytes_eq name clock)
is_of kind.Register is_top clock m name = is_register m name
is_of kind.Driven is_top clock m name = is_driven is_top m name

-- the bits of a kind in a module
abbrev pub bits_by : Kind → Bool → Text → Module → List Bit
bits_by one is_top clock m = bits_of m (filter (is_of one is_top clock m) (names m))

-- the bits of a kind in an instance
abbrev pub bits_in : Text → Kind → Instance → List Bit
bits_in clock one instance = bits_by one (is_top instance) clock instance.definition

-- How many bits of the kind the instances before this one have. The inputs are those of the first.
abbrev pub before : Kind → List Instance → ℕ → ℕ
before kind.Input list place = 0
before kind.Register list place = registers_before list place
before kind.Driven list place = driven_before list place

-- the bits of a kind in a design
abbrev pub keys_by : Kind → Setting → List Key
keys_by kind.Input setting = input_keys setting
keys_by kind.Register setting = register_keys setting
keys_by kind.Driven setting = driven_keys setting
