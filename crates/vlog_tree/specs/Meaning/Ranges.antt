-- The bits of names, of their selects and of their parts (IEEE 1364-2005, clauses 4.3 and 5.2.1). A bit is counted from
-- the right end of its name's range.
use Rattle.std.specs.Prelude.{ℕ, ◌+◌, ◌-◌, Option, Some, None, ◌&&◌, cond, find, nat_le, option_and_then, option_map, unwrap_or}
use Rattle.std.specs.Option.{option_or}
use Rattle.bm_base.specs.declared.range.Range.{Range}
use Rattle.vlog_tree.specs.declared.design.Module.{Module}
use Rattle.vlog_tree.specs.declared.item.Item.{Item}
use Rattle.vlog_tree.specs.declared.item.Item.TheVariants.{Decl}
use Rattle.vlog_tree.specs.Meaning.Names.{declares, is_implicit}
use Rattle.vlog_tree.specs.Meaning.Uses.{Text}

-- how many bits a range has, where `-` stops at 0
abbrev pub span : Range → ℕ
span range = (range.left - range.right) + (range.right - range.left) + 1

-- the range of a name of one bit
abbrev pub scalar : Range
scalar = record { left = 0; right = 0 }

abbrev pub declared_range : Item → Range
declared_range (Decl at dir kind range name) = unwrap_or range scalar
declared_range other = scalar

-- The range of a name: that of its first declaration, and of one bit where that has none or the name is implicit. Another
-- name has no range.
abbrev pub range_of : Module → Text → Option Range
range_of m name =
    option_or (option_map declared_range (find (declares name) m.items)) (cond (is_implicit m name) (Some scalar) None)

-- the place of an index, from the right end, where the range has it
abbrev pub place_of : Range → ℕ → Option ℕ
place_of range index =
    cond (nat_le range.right index && nat_le index range.left) (Some (index - range.right))
    (cond (nat_le range.left index && nat_le index range.right) (Some (range.right - index)) None)

-- neighbouring bits of a name, from the lowest up
pub record Bits : Type 0 where
  pub name : Text
  pub low : ℕ
  pub width : ℕ

abbrev pub bits_from : Text → ℕ → ℕ → Bits
bits_from name low width = record { name = name; low = low; width = width }

-- the bits of a whole name
abbrev pub whole_bits : Module → Text → Option Bits
whole_bits m name = option_map (λ range. bits_from name 0 (span range)) (range_of m name)

-- the bit with an index, where the name's range has it
abbrev pub bit_with : Module → Text → ℕ → Option Bits
bit_with m name index =
    option_map (λ place. bits_from name place 1) (option_and_then (λ range. place_of range index) (range_of m name))

-- The bits between two places. A part that runs against the direction of its name's range has none.
abbrev pub bits_between : Text → ℕ → ℕ → Option Bits
bits_between name high low = cond (nat_le low high) (Some (bits_from name low (high - low + 1))) None

-- the bits of a part, where the name's range has both of its ends
abbrev pub part_of : Range → Text → Range → Option Bits
part_of range name part =
    option_and_then (λ high. option_and_then (bits_between name high) (place_of range part.right))
    (place_of range part.left)

abbrev pub part_bits : Module → Text → Range → Option Bits
part_bits m name part = option_and_then (λ range. part_of range name part) (range_of m name)
