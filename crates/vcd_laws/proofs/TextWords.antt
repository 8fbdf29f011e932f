-- The words that are written: codes, decimals and names.
use Rattle.std.proofs.Common.{◌≡◌, ◌≢◌, ℕ, ◌+◌, ◌-◌, ◌*◌, ◌/◌, ◌%◌, ◌^◌, ◌<◌, ◌≤◌, ◌&&◌, zero, suc, List, [], ◌∷◌, ◌++◌, Bool, true, false, cond, codes, decimal, length, nat_le, nat_lt, Some, None, if◌then◌else◌, arith, refl, sym, ap, ◌∙◌}
use Rattle.std.specs.Char.{is_ascii_digit, is_ascii_graphic}
use Rattle.std.specs.Int.{IsInRange}
use Rattle.std.specs.List.{list_all}
use Rattle.std.specs.Str.{bytes_eq}
use Rattle.std.proofs.lemmas.Fmt.{decimal_is_IsNumeral, digits_decimal, digits_value-decimal}
use Rattle.std.proofs.lemmas.Slice.Eq.{bytes_eq-Decides}
use Rattle.std.proofs.lemmas.Str.Parse.{FoldsDigits, IsDigitsTest, IsNumeralModel, numerals_by_fold}
use Rattle.vcd_header.specs.Decimals.{is_numeral, number_up_to, small_number, value_after}
use Rattle.vcd_header.specs.Tokens.{is_ink}
use Rattle.vcd_writer.specs.Code.{code_of, digit_byte}
use Rattle.vcd_writer.specs.WrittenName.{is_plain, written_name}
use Rattle.vcd_writer.proofs.CodeSteps.{code_of_last, code_of_step}
use Rattle.vcd_laws.proofs.TextTokens.{is_run}

-- ---- printable bytes

and_true : (a b : Bool) → a ≡ true → b ≡ true → (a && b) ≡ true
and_true a b ha hb = rw (ha, hb) refl

pub and_first : (a b : Bool) → (a && b) ≡ true → a ≡ true
and_first true b h = refl
and_first false b h = h

pub and_second : (a b : Bool) → (a && b) ≡ true → b ≡ true
and_second true b h = h
and_second false b h = absurd (cc)

pub all_weaker : (p q : ℕ → Bool) → ((byte : ℕ) → p byte ≡ true → q byte ≡ true) → (bytes : List ℕ) → list_all p bytes ≡ true → list_all q bytes ≡ true
all_weaker p q weaker [] h = refl
all_weaker p q weaker (byte ∷ bytes) h =
    and_true (q byte) (list_all q bytes) (weaker byte (and_first (p byte) (list_all p bytes) h))
    (all_weaker p q weaker bytes (and_second (p byte) (list_all p bytes) h))

pub graphic_ink : (byte : ℕ) → is_ascii_graphic byte ≡ true → is_ink byte ≡ true
graphic_ink byte h = grind arith

pub digit_ink : (byte : ℕ) → is_ascii_digit byte ≡ true → is_ink byte ≡ true
digit_ink byte h = grind arith

-- a printable text of one byte or more is one token
pub printable_run : (text : List ℕ) → 0 < length text → list_all is_ascii_graphic text ≡ true → is_run text ≡ true
printable_run [] some h = absurd (omega arith)
printable_run (byte ∷ bytes) some h = all_weaker is_ascii_graphic is_ink graphic_ink (byte ∷ bytes) h

pub digits_run : (text : List ℕ) → 0 < length text → list_all is_ascii_digit text ≡ true → is_run text ≡ true
digits_run [] some h = absurd (omega arith)
digits_run (byte ∷ bytes) some h = all_weaker is_ascii_digit is_ink digit_ink (byte ∷ bytes) h

-- ---- codes

-- what holds below 94, and of a number where it holds of its 94th part, holds of each
by_code : (P : ℕ → Type 0) → ((n : ℕ) → n < 94 → P n) → ((n : ℕ) → 94 ≤ n → P (n / 94) → P n) → (fuel n : ℕ) → n < fuel → P n
by_code P last step zero n h = absurd (omega arith)
by_code P last step (suc fuel) n h = by (nat_lt n 94) refl (by_code P last step fuel (n / 94))
  where
    by : (b : Bool) → nat_lt n 94 ≡ b → (n / 94 < fuel → P (n / 94)) → P n
    by true e ih = last n (grind arith)
    by false e ih =
        let large : 94 ≤ n = grind arith in
        step n large (ih (omega arith))

digit_printable : (digit : ℕ) → digit < 94 → is_ascii_graphic (digit_byte digit) ≡ true
digit_printable digit h = grind arith

pub code_printable : (number : ℕ) → list_all is_ascii_graphic (code_of number) ≡ true
code_printable number = by_code (λ n. list_all is_ascii_graphic (code_of n) ≡ true) last step (number + 1) number (omega arith)
  where
    last : (n : ℕ) → n < 94 → list_all is_ascii_graphic (code_of n) ≡ true
    last n h = rw (code_of_last n h) (and_true (is_ascii_graphic (digit_byte n)) true (digit_printable n h) refl)

    step : (n : ℕ) → 94 ≤ n → list_all is_ascii_graphic (code_of (n / 94)) ≡ true → list_all is_ascii_graphic (code_of n) ≡ true
    step n h rest = rw (code_of_step n h) (and_true (is_ascii_graphic (digit_byte (n % 94))) (list_all is_ascii_graphic (code_of (n / 94))) (digit_printable (n % 94) (omega arith)) rest)

pub code_some : (number : ℕ) → 0 < length (code_of number)
unfolding code_of
code_some number = omega arith

pub code_run : (number : ℕ) → is_run (code_of number) ≡ true
code_run number = printable_run (code_of number) (code_some number) (code_printable number)

-- the number of a code
abbrev pub code_number : List ℕ → ℕ
code_number [] = 0
code_number (byte ∷ bytes) = byte - 33 + 94 * code_number bytes

pub code_number_of : (number : ℕ) → code_number (code_of number) ≡ number
code_number_of number = by_code (λ n. code_number (code_of n) ≡ n) last step (number + 1) number (omega arith)
  where
    last : (n : ℕ) → n < 94 → code_number (code_of n) ≡ n
    last n h = ap code_number (code_of_last n h) ∙ omega arith

    step : (n : ℕ) → 94 ≤ n → code_number (code_of (n / 94)) ≡ n / 94 → code_number (code_of n) ≡ n
    step n h rest = ap code_number (code_of_step n h) ∙ omega arith

pub code_injective : (left right : ℕ) → code_of left ≡ code_of right → left ≡ right
code_injective left right same = sym (code_number_of left) ∙ ap code_number same ∙ code_number_of right

pub same_bytes : (text : List ℕ) → bytes_eq text text ≡ true
same_bytes text = (bytes_eq-Decides text text).1 refl

pub other_bytes : (left right : List ℕ) → left ≢ right → bytes_eq left right ≡ false
other_bytes left right apart = by (bytes_eq left right) refl
  where
    by : (b : Bool) → bytes_eq left right ≡ b → bytes_eq left right ≡ false
    by true e = absurd (apart ((bytes_eq-Decides left right).0 e))
    by false e = e

pub other_code : (left right : ℕ) → left ≢ right → bytes_eq (code_of left) (code_of right) ≡ false
other_code left right apart = other_bytes (code_of left) (code_of right) (λ same. apart (code_injective left right same))

-- ---- decimals

in_digits : (byte : ℕ) → is_ascii_digit byte ≡ true → IsInRange 48 57 byte
in_digits byte h = grind arith

digit_within : (byte : ℕ) → IsInRange 48 57 byte → is_ascii_digit byte ≡ true
digit_within byte h = grind arith

tells : IsDigitsTest (λ text. list_all is_ascii_digit text ≡ true)
tells = record {
  empty = refl;
  parts = λ byte bytes h. (in_digits byte (and_first (is_ascii_digit byte) (list_all is_ascii_digit bytes) h), and_second (is_ascii_digit byte) (list_all is_ascii_digit bytes) h);
  more = λ byte bytes within h. and_true (is_ascii_digit byte) (list_all is_ascii_digit bytes) (digit_within byte within) h;
}

folds : FoldsDigits value_after
folds = record {
  empty = λ n. refl;
  more = λ n byte bytes within. ap (λ value. value_after value bytes) (times n byte);
}
  where
    times : (n byte : ℕ) → 10 * n + (byte - 48) ≡ n * 10 + (byte - 48)
    times n byte = omega arith

own : IsNumeralModel (λ text. list_all is_ascii_digit text ≡ true) (value_after 0)
own = numerals_by_fold (λ text. list_all is_ascii_digit text ≡ true) tells value_after folds

pub decimal_digits : (n : ℕ) → n < 2 ^ 64 → list_all is_ascii_digit (decimal n) ≡ true
decimal_digits n h = digits_decimal own n h

pub decimal_value : (n : ℕ) → n < 2 ^ 64 → value_after 0 (decimal n) ≡ n
decimal_value n h = digits_value-decimal own n h

pub decimal_some : (n : ℕ) → n < 2 ^ 64 → 0 < length (decimal n)
decimal_some n h = (decimal_is_IsNumeral n h).0.0

pub decimal_run : (n : ℕ) → n < 2 ^ 64 → is_run (decimal n) ≡ true
decimal_run n h = digits_run (decimal n) (decimal_some n h) (decimal_digits n h)

digits_numeral : (text : List ℕ) → 0 < length text → list_all is_ascii_digit text ≡ true → is_numeral text ≡ true
digits_numeral [] some h = absurd (omega arith)
digits_numeral (byte ∷ bytes) some h = h

up_to : (n most : ℕ) → n ≤ most → nat_le n most ≡ true
up_to n most h = grind arith

-- a decimal is read back
pub decimal_read : (n most : ℕ) → n < 2 ^ 64 → n ≤ most → number_up_to most (decimal n) ≡ Some n
decimal_read n most h within =
    ap (λ test. if test && nat_le (value_after 0 (decimal n)) most then Some (value_after 0 (decimal n)) else None)
    (digits_numeral (decimal n) (decimal_some n h) (decimal_digits n h))
    ∙ ap (λ value. if nat_le value most then Some value else None) (decimal_value n h)
    ∙ ap (λ test. if test then Some n else None) (up_to n most within)

pub small_read : (n : ℕ) → n ≤ 2147483647 → small_number (decimal n) ≡ Some n
small_read n h = decimal_read n 2147483647 (omega arith) h

-- ---- names

pub plain_printable : (name : List ℕ) → is_plain name ≡ true → 0 < length name
plain_printable [] h = absurd (cc)
plain_printable (byte ∷ bytes) h = omega arith

-- a printable name is written as one token
pub name_run : (name : List ℕ) → list_all is_ascii_graphic name ≡ true → is_run (written_name name) ≡ true
name_run name printable = by (is_plain name) refl
  where
    by : (b : Bool) → is_plain name ≡ b → is_run (cond b name (codes "\\" ++ name)) ≡ true
    by true plain = printable_run name (plain_printable name plain) printable
    by false other = printable_run (92 ∷ name) (omega arith) printable
