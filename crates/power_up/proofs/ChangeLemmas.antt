-- What is changed of the bits of registers.
use Rattle.std.proofs.Common.{◌≡◌, ◌<◌, ◌+◌, ℕ, zero, suc, List, [], ◌∷◌, ◌++◌, Bool, true, false, ◌||◌, cond, Some, refl, ap, sym, ◌∙◌, arith, append_assoc, bytes_eq, drop, get_or, length, length-append, map, set}
use Rattle.std.proofs.lemmas.List.{at_drop_all, at_drop_more, length-map, map-append, set_at}
use Rattle.std.proofs.lemmas.List.FromFn.{length-map-range_with_len, map-range_with_len_more}
use Rattle.std.proofs.lemmas.Slice.Eq.{bytes_eq-Decides}
use Rattle.std.specs.List.{list_any, range_with_len, slice_index_or, slice_set}
use Rattle.vlog_tree.specs.declared.design.Module.{Module}
use Rattle.vlog_tree.specs.Meaning.Keys.{bit_count}
use Rattle.vlog_tree.specs.Meaning.Lefts.{Bit, bit_of}
use Rattle.vlog_tree.specs.Meaning.Uses.{Text}
use Rattle.numbering.specs.Bits.{name_bits, register_bits}
use Rattle.numbering.specs.Places.{StandFrom}
use Rattle.power_up.specs.Changes.{Changes, SetsBits, Values, after_number, is_of, number_bits}
use Rattle.power_up.proofs.BitLemmas.{Around, around}

-- ---- bits that are set one after another

-- so many of them are set
pub record AreSet (start count : ℕ) (number : List Bool) (i : ℕ) (old new : List Bool) : Type 0 where
  pub counted : length new ≡ length old
  pub values : (before here behind : List Bool) → old ≡ before ++ (here ++ behind) → start ≡ length before → count ≡ length here
      → new ≡ before ++ (number_bits i number ++ (drop i here ++ behind))

pub none_set : (start count : ℕ) (number old : List Bool) → AreSet start count number 0 old old
none_set start count number old = record { counted = refl; values = λ before here behind is at many. is }

length-set : (xs : List Bool) (i : ℕ) (x : Bool) → length (set xs i x) ≡ length xs
length-set [] i x = refl
length-set (y ∷ xs) zero x = refl
length-set (y ∷ xs) (suc i) x = ap suc (length-set xs i x)

pub more_set : (start count : ℕ) (number : List Bool) (i : ℕ) (bit : Bool) (old new more : List Bool) → i < count
    → bit ≡ slice_index_or number i false → more ≡ slice_set new (start + i) bit
    → AreSet start count number i old new → AreSet start count number (i + 1) old more
more_set start count number i bit old new more few bit_is more_is so_far = record {
  counted = ap length more_is ∙ length-set new (start + i) bit ∙ so_far.counted;
  values = λ before here behind is at many.
      let done : List Bool = number_bits i number in
      let next : Bool = slice_index_or number i false in
      more_is
      ∙ (λ j. slice_set (so_far.values before here behind is at many j) (start + i) (bit_is j))
      ∙ ap (λ bits. slice_set (before ++ (done ++ bits)) (start + i) next)
      (at_drop_more (λ rest. rest ++ behind) here i false (omega (arith, few, many)))
      ∙ ap (λ bits. slice_set bits (start + i) next) (sym (append_assoc before done (get_or here i false ∷ (drop (i + 1) here ++ behind))))
      ∙ set_at (before ++ done) (get_or here i false) (drop (i + 1) here ++ behind) next (start + i)
      (length-append before done ∙ omega (arith, at, length-map-range_with_len (λ place. slice_index_or number place false) 0 i))
      ∙ append_assoc before done (next ∷ (drop (i + 1) here ++ behind))
      ∙ ap (λ bits. before ++ bits)
      (sym (append_assoc done (next ∷ []) (drop (i + 1) here ++ behind))
      ∙ ap (λ bits. bits ++ (drop (i + 1) here ++ behind))
      (sym (map-range_with_len_more (λ place. slice_index_or number place false) 0 i i (omega arith))));
}

pub all_set : (start count : ℕ) (number : List Bool) (i : ℕ) (old new : List Bool) → i ≡ count
    → AreSet start count number i old new → SetsBits start count number old new
all_set start count number i old new all so_far = λ before here behind is at many.
    so_far.values before here behind is at many
    ∙ ap (λ bits. before ++ (number_bits i number ++ bits)) (at_drop_all (λ rest. rest ++ behind) here i (omega (arith, all, many)))
    ∙ ap (λ n. before ++ (number_bits n number ++ behind)) all

-- ---- nothing is changed

pub unchanged : (m : Module) (first : ℕ) (change : Values → Values) (bits : List Bool)
    → ((value : Values) → map (change value) (register_bits m) ≡ map value (register_bits m))
    → Changes m first change bits bits
unchanged m first change bits same before behind value is at = is ∙ ap (λ values. before ++ (values ++ behind)) (sym (same value))

-- The bits of other names stay.
pub others_stay : (name : Text) (number : List Bool) (value : Values) (bits : List Bit) → list_any (is_of name) bits ≡ false
    → map (after_number name number value) bits ≡ map value bits
others_stay name number value [] none = refl
others_stay name number value (bit ∷ bits) none = by (bytes_eq name bit.name) none (others_stay name number value bits)
  where
    by : (b : Bool) → (b || list_any (is_of name) bits) ≡ false
        → (list_any (is_of name) bits ≡ false → map (after_number name number value) bits ≡ map value bits)
        → cond b (slice_index_or number bit.place false) (value bit) ∷ map (after_number name number value) bits
        ≡ value bit ∷ map value bits
    by true none rest = absurd (cc)
    by false none rest = ap (λ bits. value bit ∷ bits) (rest none)

pub others_unchanged : (m : Module) (first : ℕ) (name : Text) (number bits : List Bool) → list_any (is_of name) (register_bits m) ≡ false
    → Changes m first (after_number name number) bits bits
others_unchanged m first name number bits none =
    unchanged m first (after_number name number) bits (λ value. others_stay name number value (register_bits m) none)

-- ---- one name is set

own_set : (name : Text) (number : List Bool) (value : Values) (places : List ℕ)
    → map (after_number name number value) (map (bit_of name) places) ≡ map (λ place. slice_index_or number place false) places
own_set name number value [] = refl
own_set name number value (place ∷ places) = λ j.
    cond ((bytes_eq-Decides name name).1 refl j) (slice_index_or number place false) (value (bit_of name place))
    ∷ own_set name number value places j

module _ (m : Module) (name : Text) (number : List Bool) (first start : ℕ) (stand : StandFrom (register_bits m) m name start)
    (some : 0 < bit_count m name) where
  there : Around m name start (register_bits m)
  there = around m name some start (stand.each 0 some ∙ ap Some {x = start + 0} {y = start} (omega arith))

  -- the bits of all registers, in three parts
  parted : (change value : Values) → map change there.before ≡ map value there.before
      → map change there.behind ≡ map value there.behind
      → map change (register_bits m) ≡ map value there.before ++ (map change (name_bits m name) ++ map value there.behind)
  parted change value left right =
      ap (map change) there.whole
      ∙ map-append change there.before (name_bits m name ++ there.behind)
      ∙ (λ j. left j ++ map-append change (name_bits m name) there.behind j)
      ∙ ap (λ bits. map value there.before ++ (map change (name_bits m name) ++ bits)) right

  pub name_set : (count at : ℕ) (old new : List Bool) → count ≡ bit_count m name → at ≡ first + start
      → SetsBits at count number old new → Changes m first (after_number name number) old new
  name_set count at old new many at_is sets before behind value is first_is =
      let left : List Bool = map value there.before in
      let own : List Bool = map value (name_bits m name) in
      let right : List Bool = map value there.behind in
      let set_bits : List Bool = number_bits count number in
      sets (before ++ left) own (right ++ behind)
      (is
      ∙ ap (λ bits. before ++ (bits ++ behind)) (parted value value refl refl)
      ∙ inside before left own right behind)
      (omega (arith, at_is, first_is, there.place, length-append before left, length-map there.before value))
      (many ∙ sym (length-map (name_bits m name) value ∙ length-map-range_with_len (bit_of name) 0 (bit_count m name)))
      ∙ sym (inside before left set_bits right behind)
      ∙ ap (λ bits. before ++ (bits ++ behind))
      (ap (λ bits. left ++ (bits ++ right))
      (ap (λ n. number_bits n number) many ∙ sym (own_set name number value (range_with_len 0 (bit_count m name))))
      ∙ sym (parted (after_number name number value) value (others_stay name number value there.before there.none_before)
      (others_stay name number value there.behind there.none_behind)))
    where
      inside : (a b c d e : List Bool) → a ++ ((b ++ (c ++ d)) ++ e) ≡ (a ++ b) ++ (c ++ (d ++ e))
      inside a b c d e =
          ap (λ bits. a ++ bits) (append_assoc b (c ++ d) e ∙ ap (λ bits. b ++ bits) (append_assoc c d e))
          ∙ sym (append_assoc a b (c ++ (d ++ e)))
