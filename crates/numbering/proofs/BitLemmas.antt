-- Where the bits of a name stand in the bits of some names.
use Rattle.std.proofs.Common.{◌≡◌, ◌≤◌, ◌<◌, ◌+◌, ◌-◌, ◌==◌, ℕ, zero, suc, List, [], ◌∷◌, ◌++◌, Bool, true, false, ◌||◌, ◌&&◌, cond, Some, refl, ap, sym, ◌∙◌, arith, append_assoc, filter, length, length-append, map}
use Rattle.std.proofs.lemmas.Bool.{eq-eqb, eqb-true}
use Rattle.std.proofs.lemmas.Grind.{flat_map-append}
use Rattle.std.proofs.lemmas.Iterator.Adapters.{position_from-zero}
use Rattle.std.proofs.lemmas.List.{map-append}
use Rattle.std.proofs.lemmas.List.Elements.{filter-append}
use Rattle.std.proofs.lemmas.List.Folds.{list_any-append}
use Rattle.std.proofs.lemmas.List.FromFn.{length-map-range_with_len}
use Rattle.std.specs.List.{list_any, position, position_from, range_with_len}
use Rattle.std.specs.Str.{bytes_eq}
use Rattle.vlog_tree.specs.declared.design.Module.{Module}
use Rattle.vlog_tree.specs.Meaning.Keys.{bit_count}
use Rattle.vlog_tree.specs.Meaning.Lefts.{Bit, bit_of, same_bit}
use Rattle.vlog_tree.specs.Meaning.Uses.{Text}
use Rattle.std.proofs.lemmas.Slice.Eq.{bytes_eq-Decides}
use Rattle.numbering.specs.Bits.{bits_of, name_bits}
use Rattle.numbering.specs.Places.{StandFrom}

-- ---- the first element that passes a test

first_from : {X : Type 0} (p : X → Bool) (start : ℕ) (xs : List X) (y : X) (ys : List X) → list_any p xs ≡ false → p y ≡ true
    → position_from p start (xs ++ y ∷ ys) ≡ Some (start + length xs)
first_from p start [] y ys none is = ap (λ b. cond b (Some start) (position_from p (start + 1) ys)) is ∙ ap (λ n. Some n) (omega arith)
first_from {X = X} p start (x ∷ xs) y ys none is = by (p x) none (first_from p (start + 1) xs y ys)
  where
    by : (b : Bool) → (b || list_any p xs) ≡ false
        → (list_any p xs ≡ false → p y ≡ true → position_from p (start + 1) (xs ++ y ∷ ys) ≡ Some (start + 1 + length xs))
        → cond b (Some start) (position_from p (start + 1) (xs ++ y ∷ ys)) ≡ Some (start + length (x ∷ xs))
    by true none ih = absurd (cc)
    by false none ih = ih none is ∙ ap (λ n. Some n) (omega arith)

pub first_at : {X : Type 0} (p : X → Bool) (xs : List X) (y : X) (ys : List X) → list_any p xs ≡ false → p y ≡ true
    → position p (xs ++ y ∷ ys) ≡ Some (length xs)
first_at p xs y ys none is = position_from-zero p (xs ++ y ∷ ys) ∙ first_from p 0 xs y ys none is ∙ ap (λ n. Some n) (omega arith)

-- ---- the bits of one name

range_split : (a b c n : ℕ) → n ≡ b + c + 1 → range_with_len a n ≡ range_with_len a b ++ (a + b) ∷ range_with_len (a + b + 1) c
range_split a b c zero is = absurd (omega (arith, is))
range_split a zero c (suc n) is =
    let first : a ≡ a + 0 = omega arith in
    let second : a + 1 ≡ a + 0 + 1 = omega arith in
    let count : n ≡ c = omega (arith, is) in
    λ j. first j ∷ range_with_len (second j) (count j)
range_split a (suc b) c (suc n) is =
    let place : a + 1 + b ≡ a + suc b = omega arith in
    ap (λ rest. a ∷ rest) (range_split (a + 1) b c n (omega (arith, is)))
    ∙ ap (λ n. a ∷ (range_with_len (a + 1) b ++ n ∷ range_with_len (n + 1) c)) place

-- the bits below one, the bit, and those above it
name_split : (m : Module) (name : Text) (bit : ℕ) → bit < bit_count m name
    → name_bits m name ≡ map (bit_of name) (range_with_len 0 bit) ++ bit_of name bit ∷ map (bit_of name) (range_with_len (bit + 1) (bit_count m name - bit - 1))
name_split m name bit below =
    let place : 0 + bit ≡ bit = omega arith in
    ap (map (bit_of name)) (range_split 0 bit (bit_count m name - bit - 1) (bit_count m name) (omega (arith, below)))
    ∙ map-append (bit_of name) (range_with_len 0 bit) ((0 + bit) ∷ range_with_len (0 + bit + 1) (bit_count m name - bit - 1))
    ∙ ap (λ n. map (bit_of name) (range_with_len 0 bit) ++ bit_of name n ∷ map (bit_of name) (range_with_len (n + 1) (bit_count m name - bit - 1))) place

pub and_false : (b c : Bool) → c ≡ false → (b && c) ≡ false
and_false true c is = is
and_false false c is = refl

pub or_false : (b c : Bool) → b ≡ false → c ≡ false → (b || c) ≡ false
or_false true c b_is c_is = b_is
or_false false c b_is c_is = c_is

pub differ : (n k : ℕ) → k < n → (n == k) ≡ false
differ n k below = by (n == k) refl
  where
    by : (b : Bool) → (n == k) ≡ b → b ≡ false
    by true is = absurd (omega (arith, below, eqb-true n k is))
    by false is = refl

-- A bit is none of those below it.
lower_differ : (name : Text) (bit low count : ℕ) → low + count ≤ bit
    → list_any (same_bit (bit_of name bit)) (map (bit_of name) (range_with_len low count)) ≡ false
lower_differ name bit low zero within = refl
lower_differ name bit low (suc count) within =
    or_false (bytes_eq name name && (bit == low)) (list_any (same_bit (bit_of name bit)) (map (bit_of name) (range_with_len (low + 1) count)))
    (and_false (bytes_eq name name) (bit == low) (differ bit low (omega (arith, within))))
    (lower_differ name bit (low + 1) count (omega (arith, within)))

-- nor one of another name
pub name_differs : (name other : Text) (bit low count : ℕ) → bytes_eq name other ≡ false
    → list_any (same_bit (bit_of name bit)) (map (bit_of other) (range_with_len low count)) ≡ false
name_differs name other bit low zero is = refl
name_differs name other bit low (suc count) is =
    or_false (bytes_eq name other && (bit == low)) (list_any (same_bit (bit_of name bit)) (map (bit_of other) (range_with_len (low + 1) count)))
    (ap (λ b. b && (bit == low)) is)
    (name_differs name other bit (low + 1) count is)

pub or_left_false : (b c : Bool) → (b || c) ≡ false → b ≡ false
or_left_false true c is = is
or_left_false false c is = refl

pub or_right_false : (b c : Bool) → (b || c) ≡ false → c ≡ false
or_right_false true c is = absurd (cc)
or_right_false false c is = is

-- nor one of other names
pub names_differ : (m : Module) (kept : Text → Bool) (name : Text) (bit : ℕ) (others : List Text) → list_any (bytes_eq name) others ≡ false
    → list_any (same_bit (bit_of name bit)) (bits_of m (filter kept others)) ≡ false
names_differ m kept name bit [] none = refl
names_differ m kept name bit (other ∷ others) none =
    by (kept other) (names_differ m kept name bit others (or_right_false (bytes_eq name other) (list_any (bytes_eq name) others) none))
  where
    by : (b : Bool) → list_any (same_bit (bit_of name bit)) (bits_of m (filter kept others)) ≡ false
        → list_any (same_bit (bit_of name bit)) (bits_of m (cond b (other ∷ filter kept others) (filter kept others))) ≡ false
    by true ih =
        list_any-append (same_bit (bit_of name bit)) (name_bits m other) (bits_of m (filter kept others))
        ∙ or_false (list_any (same_bit (bit_of name bit)) (name_bits m other)) (list_any (same_bit (bit_of name bit)) (bits_of m (filter kept others)))
        (name_differs name other bit 0 (bit_count m other) (or_left_false (bytes_eq name other) (list_any (bytes_eq name) others) none)) ih
    by false ih = ih

-- ---- the bits of some names, in which one stands

module _ (m : Module) (kept : Text → Bool) where
  -- the bits of the names that are kept, one after another
  pub kept_append : (before behind : List Text)
      → bits_of m (filter kept (before ++ behind)) ≡ bits_of m (filter kept before) ++ bits_of m (filter kept behind)
  kept_append before behind =
      ap (bits_of m) (filter-append kept before behind) ∙ flat_map-append (name_bits m) (filter kept before) (filter kept behind)

  pub kept_here : (name : Text) (behind : List Text) → kept name ≡ true
      → bits_of m (filter kept (name ∷ behind)) ≡ name_bits m name ++ bits_of m (filter kept behind)
  kept_here name behind is = ap (λ b. bits_of m (cond b (name ∷ filter kept behind) (filter kept behind))) is

  module _ (name : Text) (before behind : List Text) (is : kept name ≡ true) (none : list_any (bytes_eq name) before ≡ false) where
    around : bits_of m (filter kept (before ++ name ∷ behind)) ≡ bits_of m (filter kept before) ++ (name_bits m name ++ bits_of m (filter kept behind))
    around = kept_append before (name ∷ behind) ∙ ap (λ rest. bits_of m (filter kept before) ++ rest) (kept_here name behind is)

    same_itself : (bit : ℕ) → same_bit (bit_of name bit) (bit_of name bit) ≡ true
    same_itself bit = by (bytes_eq name name) (bit == bit) ((bytes_eq-Decides name name).1 refl) refl
      where
        by : (b c : Bool) → b ≡ true → (bit == bit) ≡ c → (b && c) ≡ true
        by b true b_is c_is = ap (λ b. b && true) b_is
        by b false b_is c_is = absurd (let same = eq-eqb bit bit refl in cc)

    stands_at : (bit : ℕ) → bit < bit_count m name
        → position (same_bit (bit_of name bit)) (bits_of m (filter kept (before ++ name ∷ behind))) ≡ Some (length (bits_of m (filter kept before)) + bit)
    stands_at bit below =
        let lower : List Bit = map (bit_of name) (range_with_len 0 bit) in
        let upper : List Bit = map (bit_of name) (range_with_len (bit + 1) (bit_count m name - bit - 1)) in
        let first : List Bit = bits_of m (filter kept before) in
        let rest : List Bit = bits_of m (filter kept behind) in
        ap (position (same_bit (bit_of name bit)))
        (around
        ∙ ap (λ bits. first ++ (bits ++ rest)) (name_split m name bit below)
        ∙ ap (λ bits. first ++ bits) (append_assoc lower (bit_of name bit ∷ upper) rest)
        ∙ sym (append_assoc first lower (bit_of name bit ∷ (upper ++ rest))))
        ∙ first_at (same_bit (bit_of name bit)) (first ++ lower) (bit_of name bit) (upper ++ rest)
        (list_any-append (same_bit (bit_of name bit)) first lower
        ∙ or_false (list_any (same_bit (bit_of name bit)) first) (list_any (same_bit (bit_of name bit)) lower)
        (names_differ m kept name bit before none) (lower_differ name bit 0 bit (omega arith)))
        (same_itself bit)
        ∙ ap (λ n. Some n) (length-append first lower ∙ ap (λ n. length first + n) (length-map-range_with_len (bit_of name) 0 bit))

    -- The bits of a name that is kept stand behind those of the names before it.
    pub stands : StandFrom (bits_of m (filter kept (before ++ name ∷ behind))) m name (length (bits_of m (filter kept before)))
    stands = record {
      each = stands_at;
      within =
          let first : List Bit = bits_of m (filter kept before) in
          let rest : List Bit = bits_of m (filter kept behind) in
          omega (
            arith,
            ap length around,
            length-append first (name_bits m name ++ rest),
            length-append (name_bits m name) rest,
            length-map-range_with_len (bit_of name) 0 (bit_count m name),
          );
    }
