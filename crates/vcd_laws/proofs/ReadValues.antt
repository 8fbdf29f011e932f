-- The value of a bit, change by change.
use Rattle.std.proofs.Common.{◌≡◌, ℕ, ◌<◌, ◌≤◌, ◌+◌, ◌-◌, ◌==◌, suc, List, [], ◌∷◌, ◌++◌, Bool, true, false, map, reverse, length, get_or, nat_lt, nat_le, Option, Some, None, if◌then◌else◌, refl, ap, ◌∙◌, arith, inl, inr}
use Rattle.std.specs.List.{cons_option, filter_map, last_or, range_with_len}
use Rattle.std.specs.Str.{bytes_eq}
use Rattle.std.proofs.lemmas.Bool.{cases_Bool, ltb-true, lt-ltb}
use Rattle.std.proofs.lemmas.List.{get_or-map, get_or-reverse, length-map, length-reverse}
use Rattle.vcd_header.specs.Matching.{Source, source_at}
use Rattle.vcd_reader.specs.Changes.{Triple}
use Rattle.vcd_reader.specs.Values.{digit_at, digit_given, extension, given_by, is_one, is_unknown_digit, value_after, value_at}
use Rattle.vcd_writer.specs.Value.{bit_digit, bit_digits}

-- ---- values as folds

-- the value behind changes that all come
abbrev pub after : Bool → List Triple → Source → Bool
after value [] source = value
after value (change ∷ changes) source = after (value_after value (digit_given source change)) changes source

-- the value behind those changes that come by then
abbrev upto : ℕ → Bool → List Triple → Source → Bool
upto time value [] source = value
upto time value (change ∷ changes) source = upto time (value_after value (given_by time source change)) changes source

-- no change comes later, or all do
abbrev pub ComeBy : ℕ → List Triple → Type 0
ComeBy time [] = Unit {0}
ComeBy time (change ∷ changes) = (change.time ≤ time) × ComeBy time changes

abbrev pub ComeLater : ℕ → List Triple → Type 0
ComeLater time [] = Unit {0}
ComeLater time (change ∷ changes) = (time < change.time) × ComeLater time changes

module _ (time : ℕ) (source : Source) where
  last_upto : (changes : List Triple) (o : Option ℕ) → is_one (last_or o (filter_map (given_by time source) changes)) ≡ upto time (is_one o) changes source
  last_upto [] o = refl
  last_upto (change ∷ changes) o = by (given_by time source change) (last_upto changes)
    where
      by : (given : Option ℕ) → ((o : Option ℕ) → is_one (last_or o (filter_map (given_by time source) changes)) ≡ upto time (is_one o) changes source)
          → is_one (last_or o (cons_option given (filter_map (given_by time source) changes))) ≡ upto time (value_after (is_one o) given) changes source
      by None ih = ih o
      by (Some digit) ih = ih (Some digit)

  upto_append : (front back : List Triple) (value : Bool) → upto time value (front ++ back) source ≡ upto time (upto time value front source) back source
  upto_append [] back value = refl
  upto_append (change ∷ front) back value = upto_append front back (value_after value (given_by time source change))

  upto_by : (changes : List Triple) (value : Bool) → ComeBy time changes → upto time value changes source ≡ after value changes source
  upto_by [] value all = refl
  upto_by (change ∷ changes) value all =
      ap (λ test. upto time (value_after value (if test then digit_given source change else None)) changes source) (by_then all.0)
      ∙ upto_by changes (value_after value (digit_given source change)) all.1
    where
      by_then : change.time ≤ time → nat_le change.time time ≡ true
      by_then h = grind arith

  upto_later : (changes : List Triple) (value : Bool) → ComeLater time changes → upto time value changes source ≡ value
  upto_later [] value all = refl
  upto_later (change ∷ changes) value all =
      ap (λ test. upto time (value_after value (if test then digit_given source change else None)) changes source) (past all.0)
      ∙ upto_later changes value all.1
    where
      past : time < change.time → nat_le change.time time ≡ false
      past h = grind arith

  -- the value at a time is that behind the changes that come by then
  pub value_split : (front back : List Triple) → ComeBy time front → ComeLater time back → value_at (front ++ back) time source ≡ after false front source
  value_split front back by_then later =
      last_upto (front ++ back) None
      ∙ upto_append front back false
      ∙ upto_later back (upto time false front source) later
      ∙ upto_by front false by_then

pub after_append : (front back : List Triple) (value : Bool) (source : Source) → after value (front ++ back) source ≡ after (after value front source) back source
after_append [] back value source = refl
after_append (change ∷ front) back value source = after_append front back (value_after value (digit_given source change)) source

pub by_append : (time : ℕ) (front back : List Triple) → ComeBy time front → ComeBy time back → ComeBy time (front ++ back)
by_append time [] back left right = right
by_append time (change ∷ front) back left right = (left.0, by_append time front back left.1 right)

pub later_append : (time : ℕ) (front back : List Triple) → ComeLater time front → ComeLater time back → ComeLater time (front ++ back)
later_append time [] back left right = right
later_append time (change ∷ front) back left right = (left.0, later_append time front back left.1 right)

pub by_more : (time now : ℕ) (changes : List Triple) → time ≤ now → ComeBy time changes → ComeBy now changes
by_more time now [] le all = tt
by_more time now (change ∷ changes) le all = (let h : change.time ≤ time = all.0 in omega arith, by_more time now changes le all.1)

-- ---- changes of other codes

abbrev pub Misses : List ℕ → List Triple → Type 0
Misses code [] = Unit {0}
Misses code (change ∷ changes) = (bytes_eq change.code code ≡ false) × Misses code changes

pub missed : (changes : List Triple) (value : Bool) (source : Source) → Misses source.code changes → after value changes source ≡ value
missed [] value source all = refl
missed (change ∷ changes) value source all =
    ap (λ test. after (value_after value (if test then Some (digit_at change.digits source.digit) else None)) changes source) all.0
    ∙ missed changes value source all.1

pub misses_append : (code : List ℕ) (front back : List Triple) → Misses code front → Misses code back → Misses code (front ++ back)
misses_append code [] back left right = right
misses_append code (change ∷ front) back left right = (left.0, misses_append code front back left.1 right)

-- ---- the digits of bits

pub length_digits : (bits : List Bool) → length (bit_digits bits) ≡ length bits
length_digits bits = length-map (reverse bits) bit_digit ∙ length-reverse bits

digit_from_left : (bits : List Bool) (k : ℕ) → k < length bits → get_or (bit_digits bits) k 0 ≡ bit_digit (get_or (reverse bits) k false)
digit_from_left bits k h = get_or-map bit_digit (reverse bits) k false 0 (omega (arith, length-reverse bits))

is_bit : (bit : Bool) → (bit_digit bit == 49) ≡ bit
is_bit true = refl
is_bit false = refl

digit_within : (bits : List Bool) (position : ℕ) → position < length bits → digit_at (bit_digits bits) position ≡ get_or (bit_digits bits) (length bits - (position + 1)) 0
digit_within bits position h =
    ap (λ n. if nat_lt position n then get_or (bit_digits bits) (n - (position + 1)) 0 else extension (get_or (bit_digits bits) 0 0)) (length_digits bits)
    ∙ ap (λ test. if test then get_or (bit_digits bits) (length bits - (position + 1)) 0 else extension (get_or (bit_digits bits) 0 0)) (lt-ltb position (length bits) h)

-- the digit at a bit's position is the bit
pub digit_is : (bits : List Bool) (position : ℕ) → position < length bits → (digit_at (bit_digits bits) position == 49) ≡ get_or bits position false
digit_is bits position h =
    let back : length bits - 1 - (length bits - (position + 1)) ≡ position = omega arith in
    ap (λ digit. digit == 49) (digit_within bits position h ∙ digit_from_left bits (length bits - (position + 1)) (omega arith))
    ∙ is_bit (get_or (reverse bits) (length bits - (position + 1)) false)
    ∙ get_or-reverse bits (length bits - (position + 1)) false (omega arith)
    ∙ ap (λ k. get_or bits k false) back

known_bit : (bit : Bool) → is_unknown_digit (bit_digit bit) ≡ false
known_bit true = refl
known_bit false = refl

extended_bit : (bit : Bool) → is_unknown_digit (extension (bit_digit bit)) ≡ false
extended_bit true = refl
extended_bit false = refl

-- no digit of bits is unknown, and none that they are extended by
pub digit_known : (bits : List Bool) (position : ℕ) → 0 < length bits → is_unknown_digit (digit_at (bit_digits bits) position) ≡ false
digit_known bits position some = elim (cases_Bool (nat_lt position (length bits))) [
  | inl within ↦
      let h : position < length bits = ltb-true position (length bits) within in
      ap is_unknown_digit (digit_within bits position h ∙ digit_from_left bits (length bits - (position + 1)) (omega arith))
      ∙ known_bit (get_or (reverse bits) (length bits - (position + 1)) false)
  | inr past ↦
      ap (λ n. is_unknown_digit (if nat_lt position n then get_or (bit_digits bits) (n - (position + 1)) 0 else extension (get_or (bit_digits bits) 0 0))) (length_digits bits)
      ∙ ap (λ test. is_unknown_digit (if test then get_or (bit_digits bits) (length bits - (position + 1)) 0 else extension (get_or (bit_digits bits) 0 0))) past
      ∙ ap (λ digit. is_unknown_digit (extension digit)) (digit_from_left bits 0 some)
      ∙ extended_bit (get_or (reverse bits) 0 false)
]

-- a test of the bits of a code, position by position, gives the bits
pub sources_give : (test : Source → Bool) (code : List ℕ) (bits : List Bool) (start : ℕ)
    → ((position at : ℕ) → start + position ≡ at → position < length bits → test (source_at code at) ≡ get_or bits position false)
    → map test (map (source_at code) (range_with_len start (length bits))) ≡ bits
sources_give test code [] start each = refl
sources_give test code (bit ∷ bits) start each =
    ap (λ first. first ∷ map test (map (source_at code) (range_with_len (start + 1) (length bits)))) (each 0 start (omega arith) (omega arith))
    ∙ ap (λ rest. bit ∷ rest) (sources_give test code bits (start + 1) (λ position at is h. each (suc position) at (omega arith) (omega arith)))
