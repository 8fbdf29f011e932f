-- The bits of one code, and what a change makes of them.
use Rattle.std.specs.Prelude.{ℕ, ◌+◌, ◌==◌, ◌++◌, ◌∷◌, [], List, Bool, if◌then◌else◌, slice_set}
use Rattle.std.specs.HashMap.{get_by}
use Rattle.std.specs.List.{fold}
use Rattle.std.specs.Option.{option_map_or}
use Rattle.std.specs.Str.{bytes_eq}
use Rattle.vcd_header.specs.Matching.{Source}
use Rattle.vcd_reader.specs.declared.digit.Target.{Target}
use Rattle.vcd_reader.specs.declared.targets.Targets.{Targets}
use Rattle.vcd_reader.specs.Values.{digit_at, is_unknown_digit}

-- values with the digit of one bit
abbrev pub with_digit : List ℕ → List Bool → Target → List Bool
with_digit digits values target = slice_set values target.bit (digit_at digits target.digit == 49)

-- values with the digits of these bits
abbrev pub with_digits : List ℕ → List Target → List Bool → List Bool
with_digits digits targets values = fold (with_digit digits) values targets

-- whether the bit gets `x` or `z`
abbrev pub is_unknown_at : List ℕ → Target → Bool
is_unknown_at digits target = is_unknown_digit (digit_at digits target.digit)

abbrev pub target_at : ℕ → ℕ → Target
target_at place digit = record { bit = place; digit = digit }

-- the bits that a code gives among these sources, the first of which has this place
abbrev pub targets_from : ℕ → List ℕ → List Source → List Target
targets_from place code [] = []
targets_from place code (source ∷ sources) =
    (if bytes_eq code source.code then target_at place source.digit ∷ [] else [])
    ++ targets_from (place + 1) code sources

-- the bits of a code, as they are kept
abbrev pub targets_in : Targets → List ℕ → List Target
targets_in targets code =
    option_map_or (λ list. list.items) (get_by (λ key. bytes_eq code key.now) targets.lists) []
