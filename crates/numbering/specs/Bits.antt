-- The bits of a module's names, in the order of the names.
use Rattle.std.specs.Prelude.{List, Bool, not, ◌&&◌, ◌||◌, bytes_eq, filter, flat_map, map}
use Rattle.std.specs.List.{range_with_len}
use Rattle.vlog_tree.specs.declared.design.Module.{Module}
use Rattle.vlog_tree.specs.Meaning.Keys.{bit_count}
use Rattle.vlog_tree.specs.Meaning.Lefts.{Bit, bit_of}
use Rattle.vlog_tree.specs.Meaning.Names.{inputs, is_input, is_register, names, registers}
use Rattle.vlog_tree.specs.Meaning.Uses.{Text}

-- the bits of a name, the lowest first
abbrev pub name_bits : Module → Text → List Bit
name_bits m name = map (bit_of name) (range_with_len 0 (bit_count m name))

abbrev pub bits_of : Module → List Text → List Bit
bits_of m names = flat_map (name_bits m) names

abbrev pub register_bits : Module → List Bit
register_bits m = bits_of m (registers m)

-- The name is neither a register nor an input of the top: what drives its bits gives them their values.
abbrev pub is_driven : Bool → Module → Text → Bool
is_driven is_top m name = not (is_register m name || (is_top && is_input m name))

abbrev pub driven_names : Bool → Module → List Text
driven_names is_top m = filter (is_driven is_top m) (names m)

abbrev pub driven_bits : Bool → Module → List Bit
driven_bits is_top m = bits_of m (driven_names is_top m)

-- the bits of the top's inputs but the clock
abbrev pub input_bits : Text → Module → List Bit
input_bits clock m = bits_of m (filter (λ name. not (bytes_eq name clock)) (inputs m))
