-- A trace without one of its cycles.
use Rattle.std.specs.Prelude.{ℕ, List, Bool, remove}
use Rattle.trace_rows.specs.Rows.{Rows}

-- the rows without the one at this place
abbrev pub cut : List (List Bool) → ℕ → List (List Bool)
cut rows i = remove rows i

-- the trace without the row at this place
abbrev pub cut_rows : ℕ → Rows → Rows
cut_rows i trace = record trace { rows = cut trace.rows i }
