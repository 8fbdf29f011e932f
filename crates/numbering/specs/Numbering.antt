-- Which bit each node stands for, and the edge of each bit.
use Rattle.std.specs.Prelude.{ℕ, zero, suc, ◌+◌, List, [], ◌++◌, Bool, Option, None, flat_map, length, map, option_map, position, slice_get, unwrap_or}
use Rattle.flat_net.specs.declared.edge.Edge.{Edge}
use Rattle.flat_net.specs.Edges.{plain, zero_edge}
use Rattle.lowering.specs.Expressions.{Wires}
use Rattle.vlog_tree.specs.declared.key.Key.{Key}
use Rattle.vlog_tree.specs.Meaning.Instances.{Instance, Path, instances, same_path}
use Rattle.vlog_tree.specs.Meaning.Keys.{input_keys, key_of, register_keys, same_key}
use Rattle.vlog_tree.specs.Meaning.Lefts.{Bit}
use Rattle.vlog_tree.specs.Meaning.Setting.{Setting}
use Rattle.numbering.specs.Bits.{driven_bits}

abbrev pub is_top : Instance → Bool
is_top instance = same_path instance.path []

-- a bit of the instance with a path
abbrev pub key_in : Path → Bit → Key
key_in path bit = key_of path bit.name bit.place

abbrev pub keyed : Path → List Bit → List Key
keyed path bits = map (key_in path) bits

abbrev pub driven_keys_in : Instance → List Key
driven_keys_in instance = keyed instance.path (driven_bits (is_top instance) instance.definition)

-- the bits that are driven, of all instances
abbrev pub driven_keys : Setting → List Key
driven_keys setting = flat_map driven_keys_in (instances setting)

-- The bits that have nodes, in the order of these: the inputs, the registers, and those that are driven. Before them
-- stands `Zero`, after them what stands for no bit.
abbrev pub keys_with_nodes : Setting → List Key
keys_with_nodes setting = input_keys setting ++ (register_keys setting ++ driven_keys setting)

-- the bit for which a node stands
abbrev pub key_at : Setting → ℕ → Option Key
key_at setting zero = None
key_at setting (suc place) = slice_get (keys_with_nodes setting) place

-- how many nodes stand before those of expressions
abbrev pub first_of_expressions : Setting → ℕ
first_of_expressions setting = 1 + length (keys_with_nodes setting)

-- The edge of a bit. A bit of the top's clock is 0.
abbrev pub edge_of : Setting → Key → Edge
edge_of setting key =
    unwrap_or (option_map (λ place. plain (1 + place)) (position (same_key key) (keys_with_nodes setting))) zero_edge

-- the edges of the names of the instance with a path
abbrev pub wires_in : Setting → Path → Wires
wires_in setting path name bit = edge_of setting (key_of path name bit)
