-- The values of bits.
use Rattle.std.specs.Prelude.{◌≡◌, ◌<◌, ◌≤◌, ◌++◌, ◌∷◌, [], ℕ, ◌+◌, ◌-◌, ◌==◌, ◌||◌, not, Bool, false, All, List, length, map, nat_le, nat_lt, slice_index, Option, None, Some, if◌then◌else◌}
use Rattle.std.specs.List.{count_by, filter_map, last_or, sum_by}
use Rattle.std.specs.Str.{bytes_eq}
use Rattle.vcd_reader.specs.Changes.{Triple}
use Rattle.vcd_header.specs.Matching.{Source}

-- what stands left of a value's leftmost digit: 0 where that is 0 or 1, else the digit itself
abbrev pub extension : ℕ → ℕ
extension digit = if digit == 48 || digit == 49 then 48 else digit

-- the digit at a position from the right end
abbrev pub digit_at : List ℕ → ℕ → ℕ
digit_at digits position =
    if nat_lt position (length digits) then slice_index digits (length digits - (position + 1))
    else extension (slice_index digits 0)

-- the digit that a change gives to a bit, if it gives one
abbrev pub digit_given : Source → Triple → Option ℕ
digit_given source change =
    if bytes_eq change.code source.code then Some (digit_at change.digits source.digit) else None

-- the same, where the change comes at this time or before it
abbrev pub given_by : ℕ → Source → Triple → Option ℕ
given_by time source change = if nat_le change.time time then digit_given source change else None

-- whether the digit is 1: `x` and `z` are 0, and so is a bit without a digit
abbrev pub is_one : Option ℕ → Bool
is_one None = false
is_one (Some digit) = digit == 49

-- the value of a bit at the end of a time: that of the last change at or before it that gives the bit
abbrev pub value_at : List Triple → ℕ → Source → Bool
value_at changes time source = is_one (last_or None (filter_map (given_by time source) changes))

-- the values of bits at the end of a time
abbrev pub values_at : List Triple → List Source → ℕ → List Bool
values_at changes sources time = map (value_at changes time) sources

-- whether the digit is `x` or `z`, which is to say neither 0 nor 1
abbrev pub is_unknown_digit : ℕ → Bool
is_unknown_digit digit = not (digit == 48 || digit == 49)

abbrev pub is_unknown : Option ℕ → Bool
is_unknown None = false
is_unknown (Some digit) = is_unknown_digit digit

-- to how many of the bits a change gives `x` or `z`
abbrev pub unknown_by : List Source → Triple → ℕ
unknown_by sources change = count_by (λ source. is_unknown (digit_given source change)) sources

-- how many pairs of a change and a bit there are in which it gives `x` or `z`
abbrev pub unknown_count : List Triple → List Source → ℕ
unknown_count changes sources = sum_by (unknown_by sources) changes

-- ---- laws

-- the value of a bit that had this value, behind a change that gives it this digit, if it gives one
abbrev pub value_after : Bool → Option ℕ → Bool
value_after value None = value
value_after value (Some digit) = digit == 49

-- A change that comes later does not touch the value at the end of a time.
abbrev pub EarlierStay : Type 0
EarlierStay =
    (changes : List Triple) (change : Triple) (time : ℕ) (source : Source) → time < change.time
    → value_at (changes ++ change ∷ []) time source ≡ value_at changes time source

-- One that comes by then gives its digit, and a bit that it does not give stays.
abbrev pub ChangeGives : Type 0
ChangeGives =
    (changes : List Triple) (change : Triple) (time : ℕ) (source : Source) → change.time ≤ time
    → value_at (changes ++ change ∷ []) time source
    ≡ value_after (value_at changes time source) (digit_given source change)

-- Where no change comes behind a time, the values at the end of a later one are those at its end.
abbrev pub NothingComes : Type 0
NothingComes =
    (changes : List Triple) (time later : ℕ) (source : Source) → All (λ change. change.time ≤ time) changes
    → time ≤ later
    → value_at changes later source ≡ value_at changes time source
