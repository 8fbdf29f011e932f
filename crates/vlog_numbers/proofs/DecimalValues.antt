-- The value of digits behind those that were read.
use Rattle.std.proofs.Common.{◌≡◌, ◌≤◌, ◌<◌, ◌+◌, ◌-◌, ◌*◌, ℕ, Bool, true, false, List, [], ◌∷◌, nat_le, ◌⊎◌, inl, inr, if◌then◌else◌, Some, None, fold, filter, Option, length, get_or, drop, refl, sym, ◌∙◌, arith, subst}
use Rattle.std.specs.Char.{is_ascii_digit}
use Rattle.std.proofs.lemmas.Bool.{leb-false, lt-leb}
use Rattle.std.proofs.lemmas.List.{drop_more}
use Rattle.std.specs.List.{prefix_len}
use Rattle.vlog_tokens.specs.Classes.{is_space}
use Rattle.vlog_tree.specs.Spelling.Numbers.{based_value, bits_of, decimal_bits, is_decimal_value, is_lone_unknown}
use Rattle.vlog_tree.specs.Spelling.Parts.{decimal_value}

abbrev pub step : ℕ → ℕ → ℕ
step value digit = 10 * value + (digit - 48)

-- the value of digits behind this one
abbrev pub decimal_onto : ℕ → List ℕ → ℕ
decimal_onto value digits = fold step value (filter is_ascii_digit digits)

fold_grows : (value : ℕ) (digits : List ℕ) → value ≤ fold step value digits
fold_grows value [] = omega arith
fold_grows value (digit ∷ digits) = omega (arith, fold_grows (step value digit) digits)

-- More digits make it no smaller.
pub grows : (value : ℕ) (digits : List ℕ) → value ≤ decimal_onto value digits
grows value digits = fold_grows value (filter is_ascii_digit digits)

pub onto_digit : (value : ℕ) (digits : List ℕ) (i d : ℕ) → i < length digits → is_ascii_digit (get_or digits i d) ≡ true → decimal_onto value (drop i digits) ≡ decimal_onto (10 * value + (get_or digits i d - 48)) (drop (i + 1) digits)
onto_digit value digits i d inside h = rw (drop_more digits i d inside, h) refl

pub onto_other : (value : ℕ) (digits : List ℕ) (i d : ℕ) → i < length digits → is_ascii_digit (get_or digits i d) ≡ false → decimal_onto value (drop i digits) ≡ decimal_onto value (drop (i + 1) digits)
onto_other value digits i d inside h = rw (drop_more digits i d inside, h) refl

too_great : (next most : ℕ) → ◌≡◌ {A = Option ℕ} None (if nat_le next most then Some next else None) → most < next
too_great next most e = by (nat_le next most) refl e
  where
    by : (fits : Bool) → nat_le next most ≡ fits → ◌≡◌ {A = Option ℕ} None (if fits then Some next else None) → most < next
    by true h e = cc
    by false h e = leb-false next most h

-- Where one more digit makes the value too great, the whole is too great.
pub refused : (value most whole : ℕ) (digits : List ℕ) (i d : ℕ) → whole ≡ decimal_onto value (drop i digits) → i < length digits → is_ascii_digit (get_or digits i d) ≡ true
    → ◌≡◌ {A = Option ℕ} None (if nat_le (10 * value + (get_or digits i d - 48)) most then Some (10 * value + (get_or digits i d - 48)) else None)
    → ◌≡◌ {A = Option ℕ} None (if nat_le whole most then Some whole else None)
refused value most whole digits i d same inside h e =
    let next = 10 * value + (get_or digits i d - 48) in
    let beyond : most < next = too_great next most e in
    let longer : next ≤ decimal_onto next (drop (i + 1) digits) = grows next (drop (i + 1) digits) in
    let above : most < whole = subst (λ (n : ℕ). most < n) (sym (same ∙ onto_digit value digits i d inside h)) (omega (arith, beyond, longer)) in
    rw (lt-leb whole most above) refl

found_bits : (digits : List ℕ) (value : ℕ) (whole : Bool) → is_decimal_value digits ≡ whole → ◌≡◌ {A = Option ℕ} (Some value) (if whole then Some (decimal_value digits) else None)
    → (if is_decimal_value digits then Some (bits_of 128 (decimal_value digits)) else None) ≡ Some (bits_of 128 value)
found_bits digits value true h e = (let same : value ≡ decimal_value digits = cc in rw (h, same) refl)
found_bits digits value false h e = cc

-- The bits of digits that are a value.
pub decimal_bits_are : (digits : List ℕ) (value : ℕ) → is_lone_unknown digits ≡ false → ◌≡◌ {A = Option ℕ} (Some value) (if is_decimal_value digits then Some (decimal_value digits) else None) → decimal_bits digits ≡ Some (bits_of 128 value)
decimal_bits_are digits value known e = rw known (found_bits digits value (is_decimal_value digits) refl e)

-- The bits of a based token of base `d`.
pub based_decimal : (text part digits : List ℕ) → 2 ≤ length text → part ≡ drop 2 text → digits ≡ drop (prefix_len is_space part) part → (get_or text 1 0 ≡ 68) ⊎ (get_or text 1 0 ≡ 100) → based_value text ≡ decimal_bits digits
based_decimal [] part digits long behind same base = absurd (omega arith)
based_decimal (quote ∷ []) part digits long behind same base = absurd (omega arith)
based_decimal (quote ∷ letter ∷ rest) part digits long behind same (inl base) = rw (base, same, behind) refl
based_decimal (quote ∷ letter ∷ rest) part digits long behind same (inr base) = rw (base, same, behind) refl
