-- The bits of a design, and the orders of its registers and its inputs.
use Rattle.std.specs.Prelude.{ℕ, ◌==◌, List, [], Bool, not, ◌&&◌, bytes_eq, filter, flat_map, map, option_map, unwrap_or}
use Rattle.std.specs.List.{list_any, range_with_len}
use Rattle.std.specs.Option.{option_to_list}
use Rattle.vlog_tree.specs.declared.design.Module.{Module}
use Rattle.vlog_tree.specs.declared.key.Key.{Key}
use Rattle.vlog_tree.specs.Meaning.Instances.{Instance, Path, instances, same_path, top_module}
use Rattle.vlog_tree.specs.Meaning.Names.{inputs, names, registers}
use Rattle.vlog_tree.specs.Meaning.Ranges.{range_of, span}
use Rattle.vlog_tree.specs.Meaning.Setting.{Setting}
use Rattle.vlog_tree.specs.Meaning.Uses.{Text}

abbrev pub key_of : Path → Text → ℕ → Key
key_of path name bit = record { path = path; name = name; bit = bit }

abbrev pub same_key : Key → Key → Bool
same_key key other = same_path key.path other.path && (bytes_eq key.name other.name && (key.bit == other.bit))

-- how many bits a name of a module has
abbrev pub bit_count : Module → Text → ℕ
bit_count m name = unwrap_or (option_map span (range_of m name)) 0

-- the bits of a name, the right end first
abbrev pub name_keys : Instance → Text → List Key
name_keys instance name = map (key_of instance.path name) (range_with_len 0 (bit_count instance.definition name))

-- the bits of some names of each instance
abbrev pub keys_of : (Module → List Text) → List Instance → List Key
keys_of choice each = flat_map (λ instance. flat_map (name_keys instance) (choice instance.definition)) each

-- All keys, by instance in pre-order, then by name in the module's order, then by bit.
abbrev pub all_keys : Setting → List Key
all_keys setting = keys_of names (instances setting)

abbrev pub is_key : Setting → Key → Bool
is_key setting key = list_any (same_key key) (all_keys setting)

-- A state has one truth value for each of these, in this order.
abbrev pub register_keys : Setting → List Key
register_keys setting = keys_of registers (instances setting)

-- the top's inputs but the clock
abbrev pub input_names : Setting → Module → List Text
input_names setting m = filter (λ name. not (bytes_eq name setting.clock)) (inputs m)

-- A row has one truth value for each of these, in this order: the top's inputs but the clock, by the header, then by bit.
abbrev pub input_keys : Setting → List Key
input_keys setting =
    keys_of (input_names setting) (map (λ m. record { path = []; definition = m }) (option_to_list (top_module setting)))
