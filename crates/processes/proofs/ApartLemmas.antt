-- No register bit of a module stands twice.
use Rattle.std.proofs.Common.{◌≡◌, ◌<◌, ◌+◌, ◌==◌, ℕ, zero, suc, List, [], ◌∷◌, ◌++◌, Bool, true, false, not, ◌&&◌, cond, refl, ap, sym, ◌∙◌, arith, filter, map}
use Rattle.std.proofs.lemmas.Bool.{eq-eqb, eqb-true}
use Rattle.std.proofs.lemmas.List.Folds.{list_any-append}
use Rattle.std.proofs.lemmas.Slice.Eq.{bytes_eq-Decides}
use Rattle.std.specs.List.{list_any, range_with_len}
use Rattle.std.specs.Str.{bytes_eq}
use Rattle.numbering.specs.Bits.{bits_of, register_bits}
use Rattle.numbering.proofs.BitLemmas.{and_false, names_differ, or_false, or_left_false, or_right_false}
use Rattle.vlog_tree.specs.declared.design.Module.{Module}
use Rattle.vlog_tree.specs.Meaning.Keys.{bit_count}
use Rattle.vlog_tree.specs.Meaning.Lefts.{Bit, bit_of, same_bit}
use Rattle.vlog_tree.specs.Meaning.Names.{firsts, is_register, names}
use Rattle.vlog_tree.specs.Meaning.Uses.{Text}

-- ---- names

abbrev NamesApart : List Text → Type 0
NamesApart [] = Unit {0}
NamesApart (name ∷ others) = (list_any (bytes_eq name) others ≡ false) × NamesApart others

still_none : (name : Text) (kept : Text → Bool) (others : List Text) → list_any (bytes_eq name) others ≡ false
    → list_any (bytes_eq name) (filter kept others) ≡ false
still_none name kept [] none = refl
still_none name kept (other ∷ others) none =
    by (kept other) (still_none name kept others (or_right_false (bytes_eq name other) (list_any (bytes_eq name) others) none))
  where
    by : (b : Bool) → list_any (bytes_eq name) (filter kept others) ≡ false
        → list_any (bytes_eq name) (cond b (other ∷ filter kept others) (filter kept others)) ≡ false
    by true ih =
        or_false (bytes_eq name other) (list_any (bytes_eq name) (filter kept others))
        (or_left_false (bytes_eq name other) (list_any (bytes_eq name) others) none) ih
    by false ih = ih

kept_apart : (kept : Text → Bool) (others : List Text) → NamesApart others → NamesApart (filter kept others)
kept_apart kept [] apart = tt
kept_apart kept (other ∷ others) (none, apart) = by (kept other) (kept_apart kept others apart)
  where
    by : (b : Bool) → NamesApart (filter kept others) → NamesApart (cond b (other ∷ filter kept others) (filter kept others))
    by true rest = (still_none other kept others none, rest)
    by false rest = rest

itself_out : (name : Text) (others : List Text) → list_any (bytes_eq name) (filter (λ other. not (bytes_eq other name)) others) ≡ false
itself_out name [] = refl
itself_out name (other ∷ others) = by (bytes_eq other name) refl (itself_out name others)
  where
    kept : List Text
    kept = filter (λ other. not (bytes_eq other name)) others

    differs : (b : Bool) → bytes_eq name other ≡ b → bytes_eq other name ≡ false → b ≡ false
    differs true is other_is = absurd (let back = (bytes_eq-Decides other name).1 (sym ((bytes_eq-Decides name other).0 is)) in cc)
    differs false is other_is = refl

    by : (b : Bool) → bytes_eq other name ≡ b → list_any (bytes_eq name) (filter (λ other. not (bytes_eq other name)) others) ≡ false
        → list_any (bytes_eq name) (cond (not b) (other ∷ filter (λ other. not (bytes_eq other name)) others) (filter (λ other. not (bytes_eq other name)) others)) ≡ false
    by true is ih = ih
    by false is ih =
        or_false (bytes_eq name other) (list_any (bytes_eq name) (filter (λ other. not (bytes_eq other name)) others))
        (differs (bytes_eq name other) refl is) ih

firsts_apart : (others : List Text) → NamesApart (firsts others)
firsts_apart [] = tt
firsts_apart (name ∷ others) = (itself_out name (firsts others), kept_apart (λ other. not (bytes_eq other name)) (firsts others) (firsts_apart others))

-- ---- bits

abbrev pub Apart : List Bit → Type 0
Apart [] = Unit {0}
Apart (bit ∷ bits) = (list_any (same_bit bit) bits ≡ false) × Apart bits

below_differs : (n k : ℕ) → n < k → (n == k) ≡ false
below_differs n k below = by (n == k) refl
  where
    by : (b : Bool) → (n == k) ≡ b → b ≡ false
    by true is = absurd (omega (arith, below, eqb-true n k is))
    by false is = refl

higher_differ : (name : Text) (bit low count : ℕ) → bit < low
    → list_any (same_bit (bit_of name bit)) (map (bit_of name) (range_with_len low count)) ≡ false
higher_differ name bit low zero below = refl
higher_differ name bit low (suc count) below =
    or_false (bytes_eq name name && (bit == low)) (list_any (same_bit (bit_of name bit)) (map (bit_of name) (range_with_len (low + 1) count)))
    (and_false (bytes_eq name name) (bit == low) (below_differs bit low below))
    (higher_differ name bit (low + 1) count (omega (arith, below)))

own_apart : (name : Text) (rest : List Bit) → Apart rest → ((bit : ℕ) → list_any (same_bit (bit_of name bit)) rest ≡ false)
    → (low count : ℕ) → Apart (map (bit_of name) (range_with_len low count) ++ rest)
own_apart name rest apart none low zero = apart
own_apart name rest apart none low (suc count) = (
  list_any-append (same_bit (bit_of name low)) (map (bit_of name) (range_with_len (low + 1) count)) rest
      ∙ or_false (list_any (same_bit (bit_of name low)) (map (bit_of name) (range_with_len (low + 1) count))) (list_any (same_bit (bit_of name low)) rest)
      (higher_differ name low (low + 1) count (omega arith)) (none low),
  own_apart name rest apart none (low + 1) count,
)

bits_apart : (m : Module) (kept : Text → Bool) (others : List Text) → NamesApart others → Apart (bits_of m (filter kept others))
bits_apart m kept [] apart = tt
bits_apart m kept (other ∷ others) (none, apart) = by (kept other) (bits_apart m kept others apart)
  where
    by : (b : Bool) → Apart (bits_of m (filter kept others)) → Apart (bits_of m (cond b (other ∷ filter kept others) (filter kept others)))
    by true rest =
        own_apart other (bits_of m (filter kept others)) rest (λ bit. names_differ m kept other bit others none) 0 (bit_count m other)
    by false rest = rest

pub registers_apart : (m : Module) → Apart (register_bits m)
registers_apart m = bits_apart m (is_register m) (names m) (firsts_apart _)

-- ---- equal bits

pub bits_same : (bit other : Bit) → same_bit bit other ≡ true → bit ≡ other
bits_same bit other is = by (bytes_eq bit.name other.name) refl (bit.place == other.place) refl is
  where
    by : (b : Bool) → bytes_eq bit.name other.name ≡ b → (c : Bool) → (bit.place == other.place) ≡ c → (b && c) ≡ true → bit ≡ other
    by true name_is true place_is is =
        let name : bit.name ≡ other.name = (bytes_eq-Decides bit.name other.name).0 name_is in
        let place : bit.place ≡ other.place = eqb-true bit.place other.place place_is in
        λ j. record { name = name j; place = place j }
    by true name_is false place_is is = absurd (cc)
    by false name_is c place_is is = absurd (cc)

pub bit_itself : (bit : Bit) → same_bit bit bit ≡ true
bit_itself bit = by (bytes_eq bit.name bit.name) ((bytes_eq-Decides bit.name bit.name).1 refl) (bit.place == bit.place) (eq-eqb bit.place bit.place refl)
  where
    by : (b : Bool) → b ≡ true → (c : Bool) → c ≡ true → (b && c) ≡ true
    by true b_is c c_is = c_is
    by false b_is c c_is = b_is

pub same_back : (bit other : Bit) → same_bit bit other ≡ same_bit other bit
same_back bit other = by (same_bit bit other) refl (same_bit other bit) refl
  where
    by : (b : Bool) → same_bit bit other ≡ b → (c : Bool) → same_bit other bit ≡ c → b ≡ c
    by true is true back = refl
    by false is false back = refl
    by true is false back = absurd (let it = ap (λ other. same_bit other bit) (sym (bits_same bit other is)) ∙ bit_itself bit in cc)
    by false is true back = absurd (let it = ap (λ bit. same_bit bit other) (sym (bits_same other bit back)) ∙ bit_itself other in cc)

-- A bit does not stand before itself.
pub none_before : (before : List Bit) (bit : Bit) (behind : List Bit) → Apart (before ++ bit ∷ behind) → list_any (same_bit bit) before ≡ false
none_before [] bit behind apart = refl
none_before (other ∷ before) bit behind (none, apart) =
    or_false (same_bit bit other) (list_any (same_bit bit) before)
    (same_back bit other
    ∙ or_left_false (same_bit other bit) (list_any (same_bit other) behind)
    (or_right_false (list_any (same_bit other) before) (list_any (same_bit other) (bit ∷ behind))
    (sym (list_any-append (same_bit other) before (bit ∷ behind)) ∙ none)))
    (none_before before bit behind apart)
