-- Numbers, digit by digit.
use Rattle.std.proofs.Common.{◌≡◌, ℕ, ◌+◌, ◌-◌, ◌*◌, ◌<◌, ◌≤◌, List, [], ◌∷◌, Bool, true, false, ◌&&◌, length, drop, get_or, nat_le, Option, Some, None, if◌then◌else◌, arith, refl, sym, ap, ◌∙◌}
use Rattle.std.specs.Char.{is_ascii_digit}
use Rattle.std.specs.List.{list_all}
use Rattle.std.proofs.lemmas.List.{drop_more}
use Rattle.vcd_header.specs.Decimals.{value_after}

-- the number that digits write behind a number, if it is at most this much
abbrev pub number_after : ℕ → ℕ → List ℕ → Option ℕ
number_after most value text = if list_all is_ascii_digit text && nat_le (value_after value text) most then Some (value_after value text) else None

pub value_grows : (value : ℕ) (text : List ℕ) → value ≤ value_after value text
value_grows value [] = omega arith
value_grows value (digit ∷ digits) = omega (arith, value_grows (10 * value + (digit - 48)) digits)

-- the number with one more digit behind it
abbrev pub with_digit : ℕ → ℕ → ℕ → Option ℕ
with_digit most value digit = if is_ascii_digit digit && nat_le (10 * value + (digit - 48)) most then Some (10 * value + (digit - 48)) else None

pass_most : (most small large : ℕ) → nat_le small most ≡ false → small ≤ large → nat_le large most ≡ false
pass_most most small large past le = grind arith

-- A number that no digit can follow is no front of a number.
pub digit_refused : (most value digit : ℕ) (digits : List ℕ) → None ≡ with_digit most value digit → number_after most value (digit ∷ digits) ≡ None
digit_refused most value digit digits h = by (is_ascii_digit digit) (nat_le (10 * value + (digit - 48)) most) refl h
  where
    next : ℕ
    next = 10 * value + (digit - 48)

    past : (t : Bool) (x : ℕ) → (if t && false then Some x else None) ≡ None
    past true x = refl
    past false x = refl

    by : (b c : Bool) → nat_le (10 * value + (digit - 48)) most ≡ c → None ≡ (if b && c then Some (10 * value + (digit - 48)) else None)
        → (if b && list_all is_ascii_digit digits && nat_le (value_after (10 * value + (digit - 48)) digits) most then Some (value_after (10 * value + (digit - 48)) digits) else None) ≡ None
    by false c e h = refl
    by true true e h = absurd (cc)
    by true false e h =
        rw (pass_most most (10 * value + (digit - 48)) (value_after (10 * value + (digit - 48)) digits) e (value_grows (10 * value + (digit - 48)) digits)) (past (list_all is_ascii_digit digits) (value_after (10 * value + (digit - 48)) digits))

pub digit_refused_at : (most value i : ℕ) (text : List ℕ) → i < length text → None ≡ with_digit most value (get_or text i 0) → None ≡ number_after most value (drop i text)
digit_refused_at most value i text within h =
    sym (ap (number_after most value) (drop_more text i 0 within) ∙ digit_refused most value (get_or text i 0) (drop (i + 1) text) h)
