-- The codes of variables.
use Rattle.std.specs.Prelude.{ℕ, ◌+◌, ◌/◌, ◌%◌, List, ◌∷◌, map, reverse}
use Rattle.std.specs.Int.Digits.{digits_of}

-- the byte of a digit
abbrev pub digit_byte : ℕ → ℕ
digit_byte digit = 33 + digit

-- the number in base 94, at least one digit: the least digit, and then the others, again the least first
unfoldable pub code_of : ℕ → List ℕ
code_of number = digit_byte (number % 94) ∷ map digit_byte (reverse (digits_of 94 (number / 94)))

abbrev pub clock_code : List ℕ
clock_code = code_of 0

abbrev pub check_code : List ℕ
check_code = code_of 1

-- the ports' numbers go on from here, in their order
abbrev pub first_port : ℕ
first_port = 2
