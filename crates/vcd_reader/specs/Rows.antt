-- The rows of a waveform.
use Rattle.std.specs.Prelude.{◌≡◌, ◌<◌, All, ℕ, ◌&&◌, not, Bool, List, [], ◌∷◌, ◌++◌, length, map, if◌then◌else◌}
use Rattle.std.specs.List.{filter, zip}
use Rattle.trace_rows.specs.Rows.{Rows}
use Rattle.vcd_reader.specs.Body.{Item}
use Rattle.vcd_reader.specs.Changes.{Triple, last_time, times, triples}
use Rattle.vcd_header.specs.Matching.{Source}
use Rattle.vcd_reader.specs.Values.{unknown_count, value_at, values_at}

-- each time but the first with the time before it, which stands first
abbrev pub steps : List ℕ → List (ℕ × ℕ)
steps [] = []
steps (time ∷ times) = zip (time ∷ times) times

-- whether the clock is 0 at the end of the time before, and 1 at the end of the time
abbrev pub is_edge : List Triple → Source → ℕ × ℕ → Bool
is_edge changes clock step = not (value_at changes step.0 clock) && value_at changes step.1 clock

-- the times before the edges, in their order
abbrev pub sampled : List Triple → Source → List ℕ → List ℕ
sampled changes clock times = map (λ (step : ℕ × ℕ). step.0) (filter (is_edge changes clock) (steps times))

-- a row for each edge, at the end of the time before it, and one at the end of the file
abbrev pub rows_by : List Triple → Source → List Source → List ℕ → ℕ → List (List Bool)
rows_by changes clock inputs times last =
    map (values_at changes inputs) (sampled changes clock times) ++ values_at changes inputs last ∷ []

-- a waveform's rows, and how many bits were given as `x` or `z`
pub record Reading : Type 0 where
  pub trace : Rows
  pub unknown : ℕ

-- what a body says of the clock, which is the first source, and the inputs
abbrev pub reading : List Item → Source → List Source → Reading
reading items clock inputs = record {
  trace = record { width = length inputs; rows = rows_by (triples items) clock inputs (times items) (last_time items) };
  unknown = unknown_count (triples items) (clock ∷ inputs);
}

-- One more time adds a row's time where the clock rises to it, and nothing else.
abbrev pub EdgesGrow : Type 0
EdgesGrow =
    (changes : List Triple) (clock : Source) (times : List ℕ) (before now : ℕ)
    → sampled changes clock (times ++ before ∷ now ∷ [])
    ≡ sampled changes clock (times ++ before ∷ []) ++ (if is_edge changes clock (before, now) then before ∷ [] else [])

-- A change that comes later than these times does not touch what is sampled at them.
abbrev pub EarlierSampled : Type 0
EarlierSampled =
    (changes : List Triple) (change : Triple) (clock : Source) (times : List ℕ) → All (λ time. time < change.time) times
    → sampled (changes ++ change ∷ []) clock times ≡ sampled changes clock times
