-- A trace as a list of rows.
use Rattle.std.specs.Prelude.{ℕ, List, [], ◌∷◌, ◌++◌, Bool, Option, take, slice_get}
use Rattle.std.specs.Option.{option_and_then}

-- the input bits of each cycle, and how many a row has
pub record Rows : Type 0 where
  pub width : ℕ
  pub rows : List (List Bool)

abbrev pub no_rows : ℕ → Rows
no_rows width = record { width = width; rows = [] }

abbrev pub with_row : Rows → List Bool → Rows
with_row trace row = record trace { rows = trace.rows ++ row ∷ [] }

-- the first n rows
abbrev pub first_rows : ℕ → Rows → Rows
first_rows n trace = record trace { rows = take n trace.rows }

-- bit b of row t
abbrev pub bit_of : List (List Bool) → ℕ → ℕ → Option Bool
bit_of rows t b = option_and_then (λ row. slice_get row b) (slice_get rows t)
