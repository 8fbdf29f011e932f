-- A row of bits that is filled from the least bit on.
use Rattle.std.specs.Prelude.{◌≡◌, ℕ, min, not, Bool, List, length, drop, Option, Some, None, Result, Ok, Err}
use Rattle.std.specs.List.{list_all}
use Rattle.vlog_tree.specs.Spelling.Numbers.{at_width}
use Rattle.vlog_numbers.specs.declared.fault.Fault.{Fault}
use Rattle.vlog_numbers.specs.declared.fault.Fault.TheVariants as fault
use Rattle.vlog_numbers.specs.declared.row.Row.{Row}

-- The row is as wide as this, was given these bits, and knows whether those past its width are all zeros.
pub record Holds (width : ℕ) (row : Row) (given : List Bool) : Type 0 where
  pub wide : length row.bits ≡ width
  pub bits : row.bits ≡ at_width width given
  pub filled : row.filled ≡ min (length given) width
  pub fits : row.fits ≡ list_all not (drop width given)

-- A new row holds these, unless memory fails.
abbrev pub MakesRow : ℕ → Option (List Bool) → Result Row Fault → Type 0
MakesRow width meaning (Ok row) = (given : List Bool) × (meaning ≡ Some given) × Holds width row given
MakesRow width meaning (Err fault.Token) = meaning ≡ None
MakesRow width meaning (Err fault.Memory) = Unit {0}
