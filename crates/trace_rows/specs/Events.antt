-- The events of a trace: where a bit changes from one row to the next, the first of which follows a base row.
use Rattle.std.specs.Prelude.{◌≡◌, ◌≢◌, ◌↔◌, ℕ, ◌<◌, List, [], ◌∷◌, Bool, false, not, map, length, slice_index_or}
use Rattle.std.specs.Bool.{beq}
use Rattle.std.specs.List.{All, AllPairs, Contains, count_by, filter, flat_map, range_with_len}
use Rattle.std.specs.declared.cmp.Ordering.{Ordering}
use Rattle.std.specs.declared.cmp.Ordering.TheVariants.{Less}
use Rattle.trace_rows.specs.declared.place.Place.{Place}
use Rattle.trace_rows.specs.Rows.{bit_of}

-- Bit b of row i is there, and differs from bit b of the row before, which is the base row for row 0: with the base row
-- in front of the rows, it stands at place i.
pub record IsEvent (base : List Bool) (rows : List (List Bool)) (i b : ℕ) : Type 0 where
  pub row : i < length rows
  pub bit : b < length base
  pub differs : bit_of rows i b ≢ bit_of (base ∷ rows) i b

-- whether two rows differ in bit b
abbrev pub differs_at : List Bool → List Bool → ℕ → Bool
differs_at before after b = not (beq (slice_index_or before b false) (slice_index_or after b false))

-- how many of the first n bits two rows differ in
abbrev pub change_count : List Bool → List Bool → ℕ → ℕ
change_count before after n = count_by (differs_at before after) (range_with_len 0 n)

-- whether there is an event at a place, a row and a bit
abbrev pub changes_at : List Bool → List (List Bool) → ℕ × ℕ → Bool
changes_at base rows place =
    differs_at (slice_index_or (base ∷ rows) place.0 []) (slice_index_or rows place.0 []) place.1

-- the places of n rows of this width, by row, then by bit
abbrev pub places : ℕ → ℕ → List (ℕ × ℕ)
places n width = flat_map (λ i. map (λ b. (i, b)) (range_with_len 0 width)) (range_with_len 0 n)

-- the places of all events, by row, then by bit
abbrev pub event_places : List Bool → List (List Bool) → List (ℕ × ℕ)
event_places base rows = filter (changes_at base rows) (places (length rows) (length base))

-- how many events there are
abbrev pub event_count : List Bool → List (List Bool) → ℕ
event_count base rows = length (event_places base rows)

-- the place as the code has it
abbrev pub place_of : ℕ × ℕ → Place
place_of place = record { row = place.0; bit = place.1 }

-- For rows of one width, a place is listed exactly where there is an event.
abbrev pub EventsAreListed : Type 0
EventsAreListed =
    (base : List Bool) (rows : List (List Bool)) → All (λ row. length row ≡ length base) rows → (i b : ℕ)
    → Contains (event_places base rows) (i, b) ↔ IsEvent base rows i b

-- Each listed place is below all later ones, so it is listed once.
abbrev pub EventsAreIncreasing : (Place → Place → Ordering) → Type 0
EventsAreIncreasing cmp =
    (base : List Bool) (rows : List (List Bool))
    → AllPairs (λ p q. cmp (place_of p) (place_of q) ≡ Less) (event_places base rows)
