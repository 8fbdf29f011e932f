-- The bits of one register among those of all.
use Rattle.std.proofs.Common.{◌≡◌, ◌<◌, ◌+◌, ◌==◌, ℕ, zero, suc, List, [], ◌∷◌, ◌++◌, Bool, true, false, ◌||◌, ◌&&◌, cond, not, Option, None, Some, is_some, refl, ap, sym, ◌∙◌, arith, append_assoc, bytes_eq, filter, length, length-append, map}
use Rattle.std.proofs.lemmas.List.Folds.{list_any-append}
use Rattle.std.proofs.lemmas.Slice.Eq.{bytes_eq-Decides}
use Rattle.std.specs.List.{list_any, position, position_from, range_with_len}
use Rattle.std.specs.Option.{option_map, option_or, unwrap_or}
use Rattle.bm_base.specs.declared.range.Range.{Range}
use Rattle.vlog_tree.specs.declared.design.Module.{Module}
use Rattle.vlog_tree.specs.Meaning.Keys.{bit_count}
use Rattle.vlog_tree.specs.Meaning.Lefts.{Bit, bit_of, same_bit}
use Rattle.vlog_tree.specs.Meaning.Names.{is_register, names, registers}
use Rattle.vlog_tree.specs.Meaning.Ranges.{range_of, span}
use Rattle.vlog_tree.specs.Meaning.Uses.{Text}
use Rattle.numbering.specs.Bits.{bits_of, name_bits, register_bits}
use Rattle.numbering.specs.Places.{IsPlace, Placing}
use Rattle.numbering.specs.declared.place.Place.{Place}
use Rattle.numbering.specs.declared.place.Place.TheVariants as place
use Rattle.numbering.proofs.NumberBitLemmas.{AreOnce, firsts_once, once_kept}
use Rattle.numbering.proofs.NumberListLemmas.{from_append, from_start}
use Rattle.power_up.specs.Changes.{is_of}

or_false : (a b : Bool) → a ≡ false → b ≡ false → (a || b) ≡ false
or_false true b a_is b_is = a_is
or_false false b a_is b_is = b_is

-- ---- the bits of other names

-- a name has no bit of another name
other_none : (name other : Text) → bytes_eq name other ≡ false → (low count : ℕ)
    → list_any (is_of name) (map (bit_of other) (range_with_len low count)) ≡ false
other_none name other differ low zero = refl
other_none name other differ low (suc count) =
    or_false (bytes_eq name other) (list_any (is_of name) (map (bit_of other) (range_with_len (low + 1) count)))
    differ (other_none name other differ (low + 1) count)

abbrev HasNone : Module → Text → Text → Type 0
HasNone m name other = list_any (is_of name) (name_bits m other) ≡ false

-- Names that have no bit of a name have none together.
all_none : (m : Module) (name : Text) (kept : Text → Bool) → ((other : Text) → kept other ≡ true → HasNone m name other)
    → (others : List Text) → list_any (is_of name) (bits_of m (filter kept others)) ≡ false
all_none m name kept each [] = refl
all_none m name kept each (other ∷ others) = by (kept other) (each other) (all_none m name kept each others)
  where
    by : (b : Bool) → (b ≡ true → HasNone m name other) → list_any (is_of name) (bits_of m (filter kept others)) ≡ false
        → list_any (is_of name) (bits_of m (cond b (other ∷ filter kept others) (filter kept others))) ≡ false
    by true here rest =
        list_any-append (is_of name) (name_bits m other) (bits_of m (filter kept others))
        ∙ or_false (list_any (is_of name) (name_bits m other)) (list_any (is_of name) (bits_of m (filter kept others))) (here refl) rest
    by false here rest = rest

-- A name has none of another one's bits, and its own only if this holds.
none_unless : (m : Module) (name other : Text) → (name ≡ other → HasNone m name other) → HasNone m name other
none_unless m name other own = by (bytes_eq name other) refl
  where
    by : (b : Bool) → bytes_eq name other ≡ b → HasNone m name other
    by true is = own ((bytes_eq-Decides name other).0 is)
    by false is = other_none name other is 0 (bit_count m other)

no_register : (m : Module) (name : Text) → is_register m name ≡ false → list_any (is_of name) (register_bits m) ≡ false
no_register m name is =
    all_none m name (is_register m) (λ other kept. none_unless m name other (λ e. absurd (contrary other kept e))) (names m)
  where
    contrary : (other : Text) → is_register m other ≡ true → name ≡ other → ⊥
    contrary other kept e = let same : is_register m name ≡ true = ap (is_register m) e ∙ kept in absurd (cc)

no_range : (m : Module) (name : Text) → range_of m name ≡ None → list_any (is_of name) (register_bits m) ≡ false
no_range m name is =
    all_none m name (is_register m) (λ other kept. none_unless m name other (λ e. empty other e)) (names m)
  where
    empty : (other : Text) → name ≡ other → HasNone m name other
    empty other e =
        ap (λ n. list_any (is_of name) (map (bit_of other) (range_with_len 0 n)))
        (ap (bit_count m) (sym e) ∙ ap (λ range. unwrap_or (option_map span range) 0) is)

-- ---- the place of a name

module _ (it : Placing) (name : Text) where
  pub no_place : (result : Option Place) → result ≡ None → is_some result ≡ is_some (range_of it.definition name)
      → list_any (is_of name) (register_bits it.definition) ≡ false
  no_place result is found = by (range_of it.definition name) refl (sym found ∙ ap is_some is)
    where
      by : (range : Option Range) → range_of it.definition name ≡ range → is_some range ≡ false
          → list_any (is_of name) (register_bits it.definition) ≡ false
      by None is none = no_range it.definition name is
      by (Some range) is none = absurd (cc)

  neither : (b c : Bool) → not (b || c) ≡ true → b ≡ false
  neither true c is = absurd (cc)
  neither false c is = refl

  pub clock_none : IsPlace it name place.Clock → list_any (is_of name) (register_bits it.definition) ≡ false
  clock_none is = no_register it.definition name is.2

  pub input_none : (first : ℕ) → IsPlace it name (place.Input first) → list_any (is_of name) (register_bits it.definition) ≡ false
  input_none first is = no_register it.definition name is.2

  pub driven_none : (first : ℕ) → IsPlace it name (place.Driven first) → list_any (is_of name) (register_bits it.definition) ≡ false
  driven_none first is = no_register it.definition name (neither (is_register it.definition name) _ is.0)

-- ---- where a name's bits stand

-- The bits of a name stand behind so many, and no other bit is of this name.
pub record Around (m : Module) (name : Text) (first : ℕ) (bits : List Bit) : Type 0 where
  pub before : List Bit
  pub behind : List Bit
  pub whole : bits ≡ before ++ (name_bits m name ++ behind)
  pub place : first ≡ length before
  pub none_before : list_any (is_of name) before ≡ false
  pub none_behind : list_any (is_of name) behind ≡ false

module _ (m : Module) (name : Text) (some : 0 < bit_count m name) where
  abbrev first_bit : Bit → Bool
  first_bit = same_bit (bit_of name 0)

  other_first : (other : Text) → bytes_eq name other ≡ false → (s low count : ℕ)
      → position_from first_bit s (map (bit_of other) (range_with_len low count)) ≡ None
  other_first other differ s low zero = refl
  other_first other differ s low (suc count) =
      ap (λ b. cond (b && (0 == low)) (Some s) (position_from first_bit (s + 1) (map (bit_of other) (range_with_len (low + 1) count))))
      differ
      ∙ other_first other differ (s + 1) (low + 1) count

  own_first : (s count : ℕ) (rest : List Bit) → 0 < count
      → position_from first_bit s (map (bit_of name) (range_with_len 0 count) ++ rest) ≡ Some s
  own_first s zero rest few = absurd (omega (arith, few))
  own_first s (suc count) rest few =
      ap (λ b. cond (b && (0 == 0)) (Some s) (position_from first_bit (s + 1) (map (bit_of name) (range_with_len 1 count) ++ rest)))
      ((bytes_eq-Decides name name).1 refl)

  none_in : (others : List Text) → list_any (λ other. bytes_eq other name) others ≡ false → list_any (is_of name) (bits_of m others) ≡ false
  none_in [] none = refl
  none_in (other ∷ others) none = by (bytes_eq other name) refl none (none_in others)
    where
      by : (b : Bool) → bytes_eq other name ≡ b → (b || list_any (λ other. bytes_eq other name) others) ≡ false
          → (list_any (λ other. bytes_eq other name) others ≡ false → list_any (is_of name) (bits_of m others) ≡ false)
          → list_any (is_of name) (name_bits m other ++ bits_of m others) ≡ false
      by true is none rest = absurd (cc)
      by false is none rest =
          list_any-append (is_of name) (name_bits m other) (bits_of m others)
          ∙ or_false (list_any (is_of name) (name_bits m other)) (list_any (is_of name) (bits_of m others))
          (none_unless m name other
          (λ e. absurd (let same : bytes_eq other name ≡ true = (bytes_eq-Decides other name).1 (sym e) in cc)))
          (rest none)

  some_is : (a b : ℕ) → ◌≡◌ {A = Option ℕ} (Some a) (Some b) → a ≡ b
  some_is a b is = cc

  record AroundFrom (s place : ℕ) (bits : List Bit) : Type 0 where
    before : List Bit
    behind : List Bit
    whole : bits ≡ before ++ (name_bits m name ++ behind)
    index : place ≡ s + length before
    none_before : list_any (is_of name) before ≡ false
    none_behind : list_any (is_of name) behind ≡ false

  around_from : (others : List Text) → AreOnce others → (s place : ℕ) → position_from first_bit s (bits_of m others) ≡ Some place
      → AroundFrom s place (bits_of m others)
  around_from [] once s place found = absurd (cc)
  around_from (other ∷ others) (new, once) s place found =
      by (bytes_eq name other) refl (around_from others once (s + length (name_bits m other)) place)
    where
      by : (b : Bool) → bytes_eq name other ≡ b
          → (position_from first_bit (s + length (name_bits m other)) (bits_of m others) ≡ Some place
          → AroundFrom (s + length (name_bits m other)) place (bits_of m others))
          → AroundFrom s place (name_bits m other ++ bits_of m others)
      by true is rest =
          let same : name ≡ other = (bytes_eq-Decides name other).0 is in
          record {
            before = [];
            behind = bits_of m others;
            whole = ap (λ other. name_bits m other ++ bits_of m others) (sym same);
            index =
                let here : Some s ≡ Some place =
                sym (own_first s (bit_count m name) (bits_of m others) some)
                ∙ ap (λ other. position_from first_bit s (name_bits m other ++ bits_of m others)) same
                ∙ found in
                omega (arith, some_is s place here);
            none_before = refl;
            none_behind = none_in others (ap (λ one. list_any (λ other. bytes_eq other one) others) same ∙ new);
          }
      by false is rest =
          let later : AroundFrom (s + length (name_bits m other)) place (bits_of m others) =
          rest
          (sym (from_append first_bit s (name_bits m other) (bits_of m others)
          ∙ ap (λ o. option_or o (position_from first_bit (s + length (name_bits m other)) (bits_of m others)))
          (other_first other is s 0 (bit_count m other)))
          ∙ found) in
          record {
            before = name_bits m other ++ later.before;
            behind = later.behind;
            whole =
                ap (λ rest. name_bits m other ++ rest) later.whole
                ∙ sym (append_assoc (name_bits m other) later.before (name_bits m name ++ later.behind));
            index = omega (arith, later.index, length-append (name_bits m other) later.before);
            none_before =
                list_any-append (is_of name) (name_bits m other) later.before
                ∙ or_false (list_any (is_of name) (name_bits m other)) (list_any (is_of name) later.before)
                (other_none name other is 0 (bit_count m other)) later.none_before;
            none_behind = later.none_behind;
          }

  pub around : (first : ℕ) → position (same_bit (bit_of name 0)) (register_bits m) ≡ Some first → Around m name first (register_bits m)
  around first found =
      let from : AroundFrom 0 first (register_bits m) =
      around_from (registers m) (once_kept (is_register m) (names m) (firsts_once _)) 0 first
      (sym (from_start first_bit (register_bits m)) ∙ found) in
      record {
        before = from.before;
        behind = from.behind;
        whole = from.whole;
        place = omega (arith, from.index);
        none_before = from.none_before;
        none_behind = from.none_behind;
      }
