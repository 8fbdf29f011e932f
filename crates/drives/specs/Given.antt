-- The edge that each driven bit of a design is given first.
use Rattle.std.specs.Prelude.{ℕ, List, [], ◌∷◌, Option, None, Some, cond, flat_map, map, slice_index_or, slice_set}
use Rattle.flat_net.specs.declared.edge.Edge.{Edge}
use Rattle.vlog_tree.specs.declared.key.Key.{Key}
use Rattle.vlog_tree.specs.Meaning.Instances.{Instance, instances}
use Rattle.vlog_tree.specs.Meaning.Keys.{same_key}
use Rattle.vlog_tree.specs.Meaning.Lefts.{Bit}
use Rattle.vlog_tree.specs.Meaning.Names.{is_input}
use Rattle.vlog_tree.specs.Meaning.Setting.{Setting}
use Rattle.flat_design.specs.Items.{Drive}
use Rattle.numbering.specs.Bits.{driven_bits}
use Rattle.numbering.specs.Numbering.{driven_keys, is_top, key_in}
use Rattle.numbering.specs.Numbers.{place_of}

-- the edge that a bit is given first, if it is given one
abbrev pub first_given : List Drive → Key → Option Edge
first_given [] key = None
first_given (drive ∷ others) key = cond (same_key drive.0 key) (Some drive.1) (first_given others key)

-- what gives a bit of the instance its value: what is connected, where it is a bit of an input port, else what drives it
abbrev pub given_bit : List Drive → List Drive → Instance → Bit → Option Edge
given_bit drives ports instance bit =
    first_given (cond (is_input instance.definition bit.name) ports drives) (key_in instance.path bit)

abbrev pub given_in : List Drive → List Drive → Instance → List (Option Edge)
given_in drives ports instance = map (given_bit drives ports instance) (driven_bits (is_top instance) instance.definition)

-- the first edge of each driven bit of the design, by what drives bits and by what is connected to input ports
abbrev pub given_so_far : Setting → List Drive → List Drive → List (Option Edge)
given_so_far setting drives ports = flat_map (given_in drives ports) (instances setting)

-- ---- numbers of bits among the driven ones

-- A bit of an input port has none: what drives it does not count.
abbrev pub drive_number : Setting → Instance → Bit → Option ℕ
drive_number setting instance bit =
    cond (is_input instance.definition bit.name) None (place_of (driven_keys setting) (key_in instance.path bit))

abbrev pub port_number : Setting → Instance → Bit → Option ℕ
port_number setting instance bit =
    cond (is_input instance.definition bit.name) (place_of (driven_keys setting) (key_in instance.path bit)) None

-- ---- edges that are given one after another

-- The first edge stays.
abbrev pub entered : Option Edge → Edge → Option Edge
entered None edge = Some edge
entered (Some first) edge = Some first

-- The bit of a number is given an edge. Where there is no such bit nothing changes.
abbrev pub given_one : List (Option Edge) → Option ℕ → Edge → List (Option Edge)
given_one edges None edge = edges
given_one edges (Some number) edge = slice_set edges number (entered (slice_index_or edges number None) edge)

abbrev pub given_all : List (Option Edge) → List (Option ℕ × Edge) → List (Option Edge)
given_all edges [] = edges
given_all edges (one ∷ others) = given_all (given_one edges one.0 one.1) others
