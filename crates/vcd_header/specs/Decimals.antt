-- Numbers: decimal digits and nothing else, zeros in front allowed.
use Rattle.std.specs.Prelude.{ℕ, ◌+◌, ◌*◌, ◌-◌, Bool, false, ◌&&◌, List, [], ◌∷◌, nat_le, Option, None, Some, if◌then◌else◌}
use Rattle.std.specs.Char.{is_ascii_digit}
use Rattle.std.specs.List.{list_all}

-- the number that digits write when they follow those of another
abbrev pub value_after : ℕ → List ℕ → ℕ
value_after value [] = value
value_after value (digit ∷ digits) = value_after (10 * value + (digit - 48)) digits

-- one digit or more, and nothing else
abbrev pub is_numeral : List ℕ → Bool
is_numeral [] = false
is_numeral (digit ∷ digits) = is_ascii_digit digit && list_all is_ascii_digit digits

-- the number that the text writes, if it is one of at most this much
abbrev pub number_up_to : ℕ → List ℕ → Option ℕ
number_up_to most text = if is_numeral text && nat_le (value_after 0 text) most then Some (value_after 0 text) else None

-- what a size or an index of a variable can be
abbrev pub small_number : List ℕ → Option ℕ
small_number text = number_up_to 2147483647 text
