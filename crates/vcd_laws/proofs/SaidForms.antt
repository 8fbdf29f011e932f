-- The forms of the tokens that are written in a body.
use Rattle.std.proofs.Common.{◌≡◌, ℕ, ◌-◌, ◌/◌, ◌%◌, ◌^◌, ◌<◌, ◌≤◌, ◌==◌, not, suc, List, [], ◌∷◌, Bool, true, false, All, Some, decimal, length, map, reverse, arith, le-leb, refl, ap, ◌∙◌, rules}
use Rattle.std.specs.Char.{is_ascii_digit, is_ascii_graphic}
use Rattle.std.specs.Int.Digits.{digits_of}
use Rattle.std.specs.List.{list_all}
use Rattle.std.proofs.lemmas.Bool.{and_from, and_parts}
use Rattle.std.proofs.lemmas.Bool.Decides.{nat_tests}
use Rattle.std.proofs.lemmas.Fmt.{decimal_is_IsNumeral}
use Rattle.std.proofs.lemmas.Int.Digits.{all_below_base_digits_of}
use Rattle.std.proofs.lemmas.List.{length-map, length-reverse}
use Rattle.std.proofs.lemmas.List.Elements.{All-from_recursion, recursion_from_All}
use Rattle.std.proofs.lemmas.List.Sorted.{All-permutation, IsPermutation-reverse}
use Rattle.std.proofs.lemmas.Str.Parse.{IsNumeralModel, numerals_by_fold}
use Rattle.vcd_header.specs.Decimals.{is_numeral, number_up_to, value_after}
use Rattle.vcd_header.specs.Tokens.{is_ink}
use Rattle.vcd_reader.specs.declared.form.Form.TheVariants.{Time, Scalar, Vector}
use Rattle.vcd_reader.specs.Body.{form_of, is_digit, time_form}
use Rattle.vcd_writer.specs.Code.{code_of, digit_byte}
use Rattle.vcd_writer.specs.Value.{bit_digit, bit_digits}

-- ---- tests of all bytes

-- A test that follows from another, byte by byte, follows for all.
pub all_weaker : (p q : ℕ → Bool) → ((byte : ℕ) → p byte ≡ true → q byte ≡ true) → (bytes : List ℕ) → list_all p bytes ≡ true → list_all q bytes ≡ true
all_weaker p q weaker [] h = refl
all_weaker p q weaker (byte ∷ bytes) h =
    let parts = and_parts (p byte) (list_all p bytes) h in
    and_from (q byte) (list_all q bytes) (weaker byte parts.0) (all_weaker p q weaker bytes parts.1)

digit_is_ink : (byte : ℕ) → is_ascii_digit byte ≡ true → is_ink byte ≡ true
digit_is_ink byte h = grind (arith, nat_tests)

pub graphic_is_ink : (byte : ℕ) → is_ascii_graphic byte ≡ true → is_ink byte ≡ true
graphic_is_ink byte h = grind (arith, nat_tests)

-- ---- times

own : IsNumeralModel (λ ds. list_all is_ascii_digit ds ≡ true) (value_after 0)
own = numerals_by_fold _ (search rules) value_after (search rules)

pub decimal_digits : (number : ℕ) → number < 2 ^ 64 → list_all is_ascii_digit (decimal number) ≡ true
decimal_digits number small = own.from (decimal number) (decimal_is_IsNumeral number small).0.1

decimal_value : (number : ℕ) → number < 2 ^ 64 → value_after 0 (decimal number) ≡ number
decimal_value number small =
    own.same (decimal number) (decimal_is_IsNumeral number small).0.1 ∙ (decimal_is_IsNumeral number small).1

numeral_from : (digits : List ℕ) → 0 < length digits → list_all is_ascii_digit digits ≡ true → is_numeral digits ≡ true
numeral_from [] some are = absurd (omega arith)
numeral_from (digit ∷ digits) some are = are

number_from : (most value : ℕ) (text : List ℕ) → is_numeral text ≡ true → value_after 0 text ≡ value → value ≤ most → number_up_to most text ≡ Some value
number_from most value text numeral is below = rw (numeral, is, le-leb value most below) refl

pub time_is : (time : ℕ) → time < 2 ^ 64 → form_of (35 ∷ decimal time) ≡ Time time
time_is time small =
    let numeral = numeral_from (decimal time) (decimal_is_IsNumeral time small).0.0 (decimal_digits time small) in
    ap time_form (number_from (2 ^ 64 - 1) time (decimal time) numeral (decimal_value time small) (omega arith))

pub time_is_ink : (time : ℕ) → time < 2 ^ 64 → list_all is_ink (35 ∷ decimal time) ≡ true
time_is_ink time small = all_weaker is_ascii_digit is_ink digit_is_ink (decimal time) (decimal_digits time small)

-- ---- codes

graphic_digit : (digit : ℕ) → digit < 94 → is_ascii_graphic (digit_byte digit) ≡ true
graphic_digit digit small = grind (arith, nat_tests)

graphic_digits : (digits : List ℕ) → All (λ digit. digit < 94) digits → list_all is_ascii_graphic (map digit_byte digits) ≡ true
graphic_digits [] are = refl
graphic_digits (digit ∷ digits) are =
    let parts = recursion_from_All (λ digit. digit < 94) (digit ∷ digits) are in
    and_from (is_ascii_graphic (digit_byte digit)) (list_all is_ascii_graphic (map digit_byte digits)) (graphic_digit digit parts.0)
    (graphic_digits digits (All-from_recursion (λ digit. digit < 94) digits parts.1))

pub code_is_graphic : (number : ℕ) → list_all is_ascii_graphic (code_of number) ≡ true
unfolding code_of
code_is_graphic number =
    let digits = digits_of 94 (number / 94) in
    let below = All-from_recursion (λ digit. digit < 94) digits (all_below_base_digits_of 94 (number / 94) (omega arith)) in
    let turned = All-permutation (λ digit. digit < 94) digits (reverse digits) (IsPermutation-reverse digits) below in
    and_from (is_ascii_graphic (digit_byte (number % 94))) (list_all is_ascii_graphic (map digit_byte (reverse digits)))
    (graphic_digit (number % 94) (omega arith)) (graphic_digits (reverse digits) turned)

pub code_has_bytes : (number : ℕ) → 0 < length (code_of number)
unfolding code_of
code_has_bytes number = omega arith

-- ---- values

bit_is_digit : (bit : Bool) → is_digit (bit_digit bit) ≡ true
bit_is_digit true = refl
bit_is_digit false = refl

bits_are_digits : (bits : List Bool) → list_all is_digit (map bit_digit bits) ≡ true
bits_are_digits [] = refl
bits_are_digits (bit ∷ bits) = and_from (is_digit (bit_digit bit)) (list_all is_digit (map bit_digit bits)) (bit_is_digit bit) (bits_are_digits bits)

bit_is_ink : (bit : Bool) → is_ink (bit_digit bit) ≡ true
bit_is_ink true = refl
bit_is_ink false = refl

bits_are_ink : (bits : List Bool) → list_all is_ink (map bit_digit bits) ≡ true
bits_are_ink [] = refl
bits_are_ink (bit ∷ bits) = and_from (is_ink (bit_digit bit)) (list_all is_ink (map bit_digit bits)) (bit_is_ink bit) (bits_are_ink bits)

not_empty : (n : ℕ) → not (suc n == 0) ≡ true
not_empty n = grind (arith, nat_tests)

-- a digit with a code directly behind it
pub scalar_is : (bit : Bool) (code : List ℕ) → 0 < length code → form_of (bit_digit bit ∷ code) ≡ Scalar
scalar_is bit [] some = absurd (omega arith)
scalar_is true (byte ∷ code) some = rw (not_empty (length code)) refl
scalar_is false (byte ∷ code) some = rw (not_empty (length code)) refl

vector_from : (digits : List ℕ) → 0 < length digits → list_all is_digit digits ≡ true → form_of (98 ∷ digits) ≡ Vector
vector_from [] some are = absurd (omega arith)
vector_from (digit ∷ digits) some are = rw (not_empty (length digits), are) refl

-- a `b` and the digits of one bit or more
pub vector_is : (bits : List Bool) → 0 < length bits → form_of (98 ∷ bit_digits bits) ≡ Vector
vector_is bits some =
    let long : length (bit_digits bits) ≡ length bits = length-map (reverse bits) bit_digit ∙ length-reverse bits in
    vector_from (bit_digits bits) (omega arith) (bits_are_digits (reverse bits))

pub vector_is_ink : (bits : List Bool) → list_all is_ink (98 ∷ bit_digits bits) ≡ true
vector_is_ink bits = bits_are_ink (reverse bits)

pub scalar_is_ink : (bit : Bool) (code : List ℕ) → list_all is_ascii_graphic code ≡ true → list_all is_ink (bit_digit bit ∷ code) ≡ true
scalar_is_ink bit code graphic =
    and_from (is_ink (bit_digit bit)) (list_all is_ink code) (bit_is_ink bit) (all_weaker is_ascii_graphic is_ink graphic_is_ink code graphic)
