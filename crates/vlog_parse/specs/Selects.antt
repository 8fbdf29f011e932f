-- What stands after a name that is read or assigned: one bit of it, a part of it, or nothing.
use Rattle.std.specs.Prelude.{ℕ, codes, if◌then◌else◌}
use Rattle.bm_base.specs.declared.range.Range.{Range}
use Rattle.vlog_tree.specs.Spelling.Selects as spelled
use Rattle.vlog_parse.specs.declared.select.Selection.{Selection}
use Rattle.vlog_parse.specs.declared.select.Selection.TheVariants.{Whole, Bit, Part}
use Rattle.vlog_parse.specs.Reads.{Parser, ◌>>=◌, ◌>>◌, pure, expect, sees}
use Rattle.vlog_parse.specs.Terminals.{decimal}

-- the same in the words of the grammar
abbrev pub select_of : Selection → spelled.Select
select_of Whole = spelled.whole
select_of (Bit index) = spelled.bit index
select_of (Part range) = spelled.part range

-- what follows the left end of a range
unfoldable pub range_after : ℕ → Parser Range
range_after left = do
  expect (codes ":")
  right ← decimal
  expect (codes "]")
  pure (record { left = left; right = right })

unfoldable pub range : Parser Range
range = do
  expect (codes "[")
  left ← decimal
  range_after left

unfoldable pub part_after : ℕ → Parser Selection
part_after left = do
  found ← range_after left
  pure (Part found)

unfoldable pub bit_after : ℕ → Parser Selection
bit_after index = do
  expect (codes "]")
  pure (Bit index)

-- what follows the first number
unfoldable pub select_after : ℕ → Parser Selection
select_after first = λ ts. if sees (codes ":") ts then part_after first ts else bit_after first ts

unfoldable pub bracketed : Parser Selection
bracketed = do
  expect (codes "[")
  first ← decimal
  select_after first

unfoldable pub select : Parser Selection
select = λ ts. if sees (codes "[") ts then bracketed ts else pure Whole ts
