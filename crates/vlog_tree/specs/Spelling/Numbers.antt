-- Numbers and their bits (IEEE 1364-2005, clause 3.5.1), the least bit first.
use Rattle.std.specs.Prelude.{◌≡◌, ◌==◌, ◌||◌, ◌&&◌, ◌-◌, ◌^◌, ℕ, not, true, false, nat_lt, Bool, List, [], ◌∷◌, ◌++◌, Option, Some, None, if◌then◌else◌, map, reverse, take, drop, replicate}
use Rattle.std.specs.Char.{is_ascii_digit}
use Rattle.std.specs.Int.{bit_at}
use Rattle.std.specs.List.{filter, flat_map, list_all, prefix_len, range_with_len}
use Rattle.vlog_tokens.specs.Classes.{is_space}
use Rattle.vlog_tokens.specs.Toks.{Tok}
use Rattle.vlog_tokens.specs.declared.token.TokenKind.TheVariants.{Based}
use Rattle.vlog_tree.specs.Spelling.Parts.{IsCount, IsDecimal, decimal_value}

-- the lowest bits of a number
abbrev pub bits_of : ℕ → ℕ → List Bool
bits_of count value = map (λ i. bit_at value i == 1) (range_with_len 0 count)

-- the bits at a width: those above are cut off, and zeros are added where there are fewer
abbrev pub at_width : ℕ → List Bool → List Bool
at_width width bits = take width (bits ++ replicate width false)

-- `x X z Z ?`, which count as 0
abbrev pub is_unknown : ℕ → Bool
is_unknown digit = digit == 120 || digit == 88 || digit == 122 || digit == 90 || digit == 63

-- what a digit counts: `0` to `9`, `A` to `F`, `a` to `f`, and 0 for an unknown one
abbrev pub digit_value : ℕ → ℕ
digit_value digit =
    if is_unknown digit then 0
    else (if nat_lt 96 digit then digit - 87
    else (if nat_lt 64 digit then digit - 55
    else digit - 48))

-- the bits of digits that are this many bits each; a `_` is none
abbrev pub digit_bits : ℕ → List ℕ → List Bool
digit_bits width digits =
    flat_map (λ digit. bits_of width (digit_value digit)) (reverse (filter (λ digit. not (digit == 95)) digits))

-- one unknown digit, with nothing else
abbrev pub is_lone_unknown : List ℕ → Bool
is_lone_unknown (digit ∷ []) = is_unknown digit
is_lone_unknown digits = false

-- digits and `_`, of a value below 2^128
abbrev pub is_decimal_value : List ℕ → Bool
is_decimal_value digits =
    list_all (λ digit. is_ascii_digit digit || digit == 95) digits && nat_lt (decimal_value digits) (2 ^ 128)

-- the bits of digits of base `d`, if they are a value
abbrev pub decimal_bits : List ℕ → Option (List Bool)
decimal_bits digits =
    if is_lone_unknown digits then Some []
    else (if is_decimal_value digits then Some (bits_of 128 (decimal_value digits)) else None)

-- the bits of digits by the letter of their base: `b`, `o`, `h` or `d` in either case
abbrev pub based_bits : ℕ → List ℕ → Option (List Bool)
based_bits letter digits =
    if letter == 98 || letter == 66 then Some (digit_bits 1 digits)
    else (if letter == 111 || letter == 79 then Some (digit_bits 3 digits)
    else (if letter == 104 || letter == 72 then Some (digit_bits 4 digits)
    else (if letter == 100 || letter == 68 then decimal_bits digits
    else None)))

-- the bits of a based token: a quote, the letter of a base, white space if any, and digits; a signed one has none
abbrev pub based_value : List ℕ → Option (List Bool)
based_value (quote ∷ letter ∷ digits) = based_bits letter (drop (prefix_len is_space digits) digits)
based_value text = None

-- The token is based, and these are the bits of its digits.
abbrev pub IsBased : Tok → List Bool → Type 0
IsBased tok bits = (tok.kind ≡ Based) × (based_value tok.text ≡ Some bits)

-- A decimal or a based token by itself has 32 bits, and a based one a value below 2^32. A decimal directly before a
-- based token is its size.
pub data IsNumber : List Tok → List Bool → Type 0 where
  decimal : (digits : Tok) (value : ℕ) → IsDecimal digits value → IsNumber (digits ∷ []) (bits_of 32 value)
  based : (digits : Tok) (bits : List Bool) → IsBased digits bits → list_all not (drop 32 bits) ≡ true
      → IsNumber (digits ∷ []) (at_width 32 bits)
  sized : (size digits : Tok) (width : ℕ) (bits : List Bool) → IsCount size width → IsBased digits bits
      → IsNumber (size ∷ digits ∷ []) (at_width width bits)
