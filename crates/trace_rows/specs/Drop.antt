-- A trace without one of its events.
use Rattle.std.specs.Prelude.{ℕ, ◌+◌, ◌-◌, ◌<◌, ◌≤◌, List, [], ◌∷◌, Bool, false, not, ◌&&◌, cond, length, map, nat_le, slice_index_or, slice_set}
use Rattle.std.specs.List.{list_any, range_with_len}
use Rattle.trace_rows.specs.Events.{changes_at}

-- whether the bit has an event in some row after i, up to and with j
abbrev pub changes_within : List Bool → List (List Bool) → ℕ → ℕ → ℕ → Bool
changes_within base rows b i j = list_any (λ k. changes_at base rows (k, b)) (range_with_len (i + 1) (j - i))

-- whether row j stands at or after row i, and before the next event of bit b
abbrev pub is_held : List Bool → List (List Bool) → ℕ → ℕ → ℕ → Bool
is_held base rows i b j = nat_le i j && not (changes_within base rows b i j)

-- the value of bit b before row i
abbrev pub value_before : List Bool → List (List Bool) → ℕ → ℕ → Bool
value_before base rows i b = slice_index_or (slice_index_or (base ∷ rows) i []) b false

-- row j without the event of bit b in row i
abbrev pub dropped_row : List Bool → List (List Bool) → ℕ → ℕ → ℕ → List Bool
dropped_row base rows i b j =
    let row : List Bool = slice_index_or rows j [] in
    cond (is_held base rows i b j) (slice_set row b (value_before base rows i b)) row

-- The rows without the event of bit b in row i: from there up to the next event of the bit, it has the value that it had
-- before. All else stays.
abbrev pub dropped : List Bool → List (List Bool) → ℕ → ℕ → List (List Bool)
dropped base rows i b = map (dropped_row base rows i b) (range_with_len 0 (length rows))
