-- A row that is filled bit by bit holds what it was given.
use Rattle.std.proofs.Common.{◌≡◌, ◌≤◌, ◌<◌, ◌+◌, ◌-◌, ◌==◌, ℕ, suc, not, Bool, true, false, List, [], ◌∷◌, ◌++◌, length, take, drop, set, replicate, map, reverse, filter, flat_map, refl, sym, ap, ◌∙◌, subst, arith, append_assoc, length-append, Bor}
use Rattle.std.specs.Int.{bit_at}
use Rattle.std.specs.List.{list_all}
use Rattle.std.proofs.Math.Seq.{take-append-add}
use Rattle.std.proofs.lemmas.Bool.{ne_eqb}
use Rattle.std.proofs.lemmas.List.{append-nil, drop_all, length_push, length-replicate, length-take-le, map-append, reverse-append, set_at, take-replicate}
use Rattle.std.proofs.lemmas.List.Concat.{flat_map-append}
use Rattle.std.proofs.lemmas.List.Elements.{filter-append}
use Rattle.std.proofs.lemmas.List.FromFn.{length-map-range_with_len, map-range_with_len_more}
use Rattle.vlog_tree.specs.Spelling.Numbers.{at_width, bits_of, digit_bits, digit_value}
use Rattle.vlog_numbers.specs.Fill.{Holds}
use Rattle.vlog_numbers.specs.declared.row.Row.{Row}

-- ---- bits at a width

-- Zeros are added where there are fewer bits.
pub padded : (given : List Bool) (width more : ℕ) → length given + more ≡ width → at_width width given ≡ given ++ replicate more false
padded given width more same =
    ap (λ n. take n (given ++ replicate width false)) (sym same)
    ∙ take-append-add given (replicate width false) more
    ∙ ap (λ (xs : List Bool). given ++ xs) (take-replicate more width false (omega arith))

-- As many as the width are left as they are.
same_width : (given : List Bool) (width : ℕ) → length given ≡ width → at_width width given ≡ given
same_width given width same = padded given width 0 (omega (arith, same)) ∙ append-nil given

width_more : (given : List Bool) (bit : Bool) (width : ℕ) → length given < width → at_width width (given ++ bit ∷ []) ≡ set (at_width width given) (length given) bit
width_more given bit width inside =
    let more = width - length given - 1 in
    padded (given ++ bit ∷ []) width more (length_push_more given bit width inside)
    ∙ append_assoc given (bit ∷ []) (replicate more false)
    ∙ sym (set_at given false (replicate more false) bit (length given) refl)
    ∙ ap (λ (xs : List Bool). set xs (length given) bit) (sym (padded given width (suc more) (omega arith)))
  where
    length_push_more : (given : List Bool) (bit : Bool) (width : ℕ) → length given < width → length (given ++ bit ∷ []) + (width - length given - 1) ≡ width
    length_push_more given bit width inside = omega (arith, length_push given bit)

pub width_of : (given : List Bool) (width : ℕ) → length (at_width width given) ≡ width
width_of given width = length-take-le width (given ++ replicate width false) (omega (arith, length-append given (replicate width false), length-replicate width false))

-- ---- one bit more

fits_inside : (given : List Bool) (width : ℕ) → length given ≤ width → list_all not (drop width given) ≡ true
fits_inside given width inside = ap (list_all not) (drop_all width given inside)

pub fills_in : (width : ℕ) (old : Row) (bits : List Bool) (given : List Bool) (bit : Bool) → Holds width old given → old.filled < length old.bits → bits ≡ set old.bits old.filled bit
    → Holds width (record { bits = bits; filled = old.filled + 1; fits = old.fits }) (given ++ bit ∷ [])
fills_in width old bits given bit h inside same =
    let below : length given < width = omega (arith, h.wide, h.filled) in
    let here : old.filled ≡ length given = omega (arith, h.filled) in
    let longer : length (given ++ bit ∷ []) ≡ length given + 1 = length_push given bit in
    let whole : bits ≡ at_width width (given ++ bit ∷ []) = same ∙ rw (h.bits, here) (sym (width_more given bit width below)) in
    record {
      wide = ap length whole ∙ width_of (given ++ bit ∷ []) width;
      bits = whole;
      filled = omega arith;
      fits = h.fits ∙ fits_inside given width (omega arith) ∙ sym (fits_inside (given ++ bit ∷ []) width (omega arith));
    }

-- ---- the bits of a value, and of digits

pub bits_more : (value i : ℕ) → bits_of (i + 1) value ≡ bits_of i value ++ (bit_at value i == 1) ∷ []
bits_more value i = map-range_with_len_more (λ k. bit_at value k == 1) 0 i i (omega arith)

-- One bit more of a value.
pub holds_more : (width : ℕ) (row : Row) (given : List Bool) (value i : ℕ) (bit : Bool) → bit ≡ (bit_at value i == 1) → Holds width row ((given ++ bits_of i value) ++ bit ∷ []) → Holds width row (given ++ bits_of (i + 1) value)
holds_more width row given value i bit same h =
    subst (Holds width row) (append_assoc given (bits_of i value) (bit ∷ []) ∙ ap (λ (xs : List Bool). given ++ xs) (ap (λ b. bits_of i value ++ b ∷ []) same ∙ sym (bits_more value i))) h

-- the bits of digits, the least digit first
abbrev pub digits_up : ℕ → List ℕ → List Bool
digits_up width digits = flat_map (λ digit. bits_of width (digit_value digit)) (filter (λ digit. not (digit == 95)) digits)

filter_reverse : (p : ℕ → Bool) (xs : List ℕ) → filter p (reverse xs) ≡ reverse (filter p xs)
filter_reverse p [] = refl
filter_reverse p (x ∷ xs) =
    ap (filter p) (reverse-append (x ∷ []) xs)
    ∙ filter-append p (reverse xs) (x ∷ [])
    ∙ ap (λ (ys : List ℕ). ys ++ filter p (x ∷ [])) (filter_reverse p xs)
    ∙ by (p x) refl
  where
    by : (passes : Bool) → p x ≡ passes → reverse (filter p xs) ++ filter p (x ∷ []) ≡ reverse (filter p (x ∷ xs))
    by true h = rw (h, reverse-append (x ∷ []) (filter p xs)) refl
    by false h = rw h (append-nil (reverse (filter p xs)))

pub digits_up_is : (width : ℕ) (digits : List ℕ) → digits_up width (reverse digits) ≡ digit_bits width digits
digits_up_is width digits = ap (flat_map (λ digit. bits_of width (digit_value digit))) (filter_reverse (λ digit. not (digit == 95)) digits)

up_more : (width : ℕ) (digits : List ℕ) (digit : ℕ) → digits_up width (digits ++ digit ∷ []) ≡ digits_up width digits ++ digits_up width (digit ∷ [])
up_more width digits digit =
    ap (flat_map (λ (d : ℕ). bits_of width (digit_value d))) (filter-append (λ d. not (d == 95)) digits (digit ∷ []))
    ∙ flat_map-append (λ (d : ℕ). bits_of width (digit_value d)) (filter (λ d. not (d == 95)) digits) (filter (λ d. not (d == 95)) (digit ∷ []))

pub up_digit : (width : ℕ) (digits : List ℕ) (digit : ℕ) → (digit == 95) ≡ false → digits_up width digits ++ bits_of width (digit_value digit) ≡ digits_up width (digits ++ digit ∷ [])
up_digit width digits digit h = sym (up_more width digits digit ∙ ap (λ (xs : List Bool). digits_up width digits ++ xs) (rw h (append-nil (bits_of width (digit_value digit)))))

-- One digit more.
pub digit_more : (width row_width : ℕ) (row : Row) (items : List (Bor ℕ)) (item : Bor ℕ) (value : ℕ) → value ≡ digit_value item.now → (item.now ≡ 95 → ⊥)
    → Holds row_width row (digits_up width (map (λ (digit : Bor ℕ). digit.now) items) ++ bits_of width value)
    → Holds row_width row (digits_up width (map (λ (digit : Bor ℕ). digit.now) (items ++ item ∷ [])))
digit_more width row_width row items item value same other h =
    let before = map (λ (digit : Bor ℕ). digit.now) items in
    let now : digits_up width before ++ bits_of width value ≡ digits_up width (map (λ (digit : Bor ℕ). digit.now) (items ++ item ∷ [])) =
    ap (λ n. digits_up width before ++ bits_of width n) same
    ∙ up_digit width before item.now (ne_eqb item.now 95 other)
    ∙ ap (digits_up width) (sym (map-append (λ (digit : Bor ℕ). digit.now) items (item ∷ []))) in
    subst (Holds row_width row) now h

-- A row of 32 bits that holds those of a value.
pub word_is : (value : ℕ) (row : Row) → Holds 32 row (bits_of 32 value) → row.bits ≡ bits_of 32 value
word_is value row h = h.bits ∙ same_width (bits_of 32 value) 32 (length-map-range_with_len (λ i. bit_at value i == 1) 0 32)
