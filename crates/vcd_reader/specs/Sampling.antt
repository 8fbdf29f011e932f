-- What is kept of a body while it is read.
use Rattle.std.specs.Prelude.{◌≡◌, ◌<◌, ◌≤◌, ◌==◌, ◌++◌, ◌∷◌, [], ℕ, All, Bool, true, false, not, List, length, map, nat_lt, Option, None, Some}
use Rattle.std.specs.List.{dedup_from, last_or}
use Rattle.std.specs.Option.{option_map}
use Rattle.trace_rows.specs.Rows.{Rows}
use Rattle.vcd_header.specs.Matching.{Source}
use Rattle.vcd_header.specs.Variables.{Variable}
use Rattle.vcd_reader.specs.Body.{Item}
use Rattle.vcd_reader.specs.Changes.{Triple, all_times, time_behind, triples_from}
use Rattle.vcd_reader.specs.Rows.{Reading, sampled}
use Rattle.vcd_reader.specs.Said.{fault_after}
use Rattle.vcd_reader.specs.Sources.{Clocked}
use Rattle.vcd_reader.specs.Values.{unknown_count, value_at, values_at}
use Rattle.vcd_reader.specs.Waveform.{limit_passed}
use Rattle.vcd_reader.specs.declared.bounded.BoundedRows.{BoundedRows}
use Rattle.vcd_reader.specs.declared.sampler.Sampler.{Sampler}

-- ---- rows within the limits

abbrev pub rows_of : ℕ → List (List Bool) → Rows
rows_of width rows = record { width = width; rows = rows }

-- These rows were pushed: they are counted, and kept where they pass no limit.
pub record HoldsRows (registers width : ℕ) (all : List (List Bool)) (rows : BoundedRows) : Type 0 where
  pub registers_is : rows.registers ≡ registers
  pub width_is : rows.trace.width ≡ width
  pub count_is : rows.count ≡ length all
  pub kept : limit_passed registers (rows_of width all) ≡ None → rows.trace.rows ≡ all

-- ---- changes up to a time

-- a change at a time
abbrev pub change_at : ℕ → List ℕ → List ℕ → Triple
change_at now code digits = record { time = now; code = code; digits = digits }

-- whether the clock is 0 at the end of the time, if there is one
abbrev pub is_low_at : List Triple → Source → Option ℕ → Bool
is_low_at changes clock None = false
is_low_at changes clock (Some time) = not (value_at changes time clock)

-- The sampler has the values of these changes, where the last time is this one, and these came before it.
pub record SampledAt (registers : ℕ) (sources : Clocked) (changes : List Triple) (earlier : List ℕ) (now : ℕ)
    (sampler : Sampler) : Type 0 where
  pub below : All (λ time. time < now) earlier
  pub come : All (λ change. change.time ≤ now) changes
  pub clock_is : sampler.clock ≡ value_at changes now sources.clock
  pub inputs_are : sampler.inputs ≡ values_at changes sources.inputs now
  pub low_is : sampler.is_low ≡ is_low_at changes sources.clock (last_or None earlier)
  pub before_is : sampler.is_low ≡ true
      → Some sampler.before ≡ option_map (values_at changes sources.inputs) (last_or None earlier)
  pub unknown_is : sampler.unknown ≡ unknown_count changes (sources.clock ∷ sources.inputs)
  pub rows_are : HoldsRows registers (length sources.inputs)
      (map (values_at changes sources.inputs) (sampled changes sources.clock earlier)) sampler.rows

-- The rows of the sampler have this width.
pub record IsAligned (width : ℕ) (sampler : Sampler) : Type 0 where
  pub inputs : length sampler.inputs ≡ width
  pub before : length sampler.before ≡ width
  pub rows : sampler.rows.trace.width ≡ width

-- what is read where the last time is this one, and these came before it
abbrev pub reading_at : Clocked → List Triple → List ℕ → ℕ → Reading
reading_at sources changes earlier now = record {
  trace = record {
    width = length sources.inputs;
    rows = map (values_at changes sources.inputs) (sampled changes sources.clock (earlier ++ now ∷ []))
        ++ values_at changes sources.inputs now ∷ [];
  };
  unknown = unknown_count changes (sources.clock ∷ sources.inputs);
}

-- ---- items

-- the times, each once, behind the first one
abbrev pub times_from : ℕ → List Item → List ℕ
times_from first items = dedup_from (λ left right. left == right) first (all_times items)

-- whether a time is later than the last one
abbrev pub is_later : Option ℕ → ℕ → Bool
is_later None time = false
is_later (Some last) time = nat_lt last time

-- This is the first of the times, if there is one.
abbrev pub IsFirst : ℕ → List ℕ → Type 0
IsFirst first [] = Unit {0}
IsFirst first (time ∷ times) = time ≡ first

-- The sampler has the values of these items, whose first time is this one.
pub record Samples (registers : ℕ) (sources : Clocked) (first : ℕ) (items : List Item)
    (sampler : Sampler) : Type 0 where
  pub earlier : List ℕ
  pub times : times_from first items ≡ earlier ++ time_behind first items ∷ []
  pub sampled_at : SampledAt registers sources (triples_from first items) earlier (time_behind first items) sampler

-- What a sampler had of items whose last time is this one, if there is one, the other has of these and one item more,
-- where that is no fault.
abbrev pub TakesItem : Clocked → Option ℕ → Item → Sampler → Sampler → Type 0
TakesItem sources last item old new =
    (declared : List Variable) (registers first : ℕ) (items : List Item) → last ≡ last_or None (all_times items)
    → fault_after declared last item ≡ None → IsFirst first (all_times (items ++ item ∷ []))
    → Samples registers sources first items old → Samples registers sources first (items ++ item ∷ []) new
