-- How the bits of a design are printed.
use Rattle.std.specs.Prelude.{ℕ, ◌+◌, ◌-◌, List, [], ◌++◌, Option, None, Some, codes, cond, decimal, flat_map, nat_le, option_and_then}
use Rattle.bm_base.specs.declared.range.Range.{Range}
use Rattle.elab.specs.Plans.{written_range}
use Rattle.vlog_tree.specs.declared.key.Key.{Key}
use Rattle.vlog_tree.specs.Meaning.Instances.{Path, module_at}
use Rattle.vlog_tree.specs.Meaning.Setting.{Setting}

-- The index that a range gives to the bit at a place from its right end. It counts up to the left end, whichever end is
-- the greater one.
abbrev pub index_in : Range → ℕ → ℕ
index_in range place = cond (nat_le range.right range.left) (range.right + place) (range.right - place)

-- the index in brackets where the name of the bit has a written range, and nothing where it has none
abbrev pub index_text : Option Range → ℕ → List ℕ
index_text None place = []
index_text (Some range) place = codes "[" ++ decimal (index_in range place) ++ codes "]"

-- the names of a path from the top down, a dot behind each
abbrev pub path_text : Path → List ℕ
path_text path = flat_map (λ name. name ++ codes ".") path

-- the first range that is written for the name of a bit in its module
abbrev pub range_at : Setting → Key → Option Range
range_at setting key = option_and_then (λ m. written_range m key.name) (module_at setting key.path)

-- the names from the top down, and the index in the range of the last
abbrev pub key_text : Setting → Key → List ℕ
key_text setting key = path_text key.path ++ key.name ++ index_text (range_at setting key) key.bit
