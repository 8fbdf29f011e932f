-- The places of a module's bits: each stands once, and only those of names that are kept.
use Rattle.std.proofs.Common.{◌≡◌, ℕ, zero, suc, ◌+◌, ◌<◌, Bool, true, false, not, ◌&&◌, ◌||◌, ◌==◌, List, [], ◌∷◌, Some, None, Decides, refl, sym, ◌∙◌, ap, arith, bytes_eq, cond, filter, option_map, slice_get}
use Rattle.std.specs.Cmp.Lexicographic.{pointwise_decides}
use Rattle.std.specs.List.{list_all, list_any, position, position_from, range_with_len}
use Rattle.std.proofs.lemmas.Bool.{and_from, and_parts, both_ways, false_from_ne_true, false≢true}
use Rattle.std.proofs.lemmas.Option.{same_Some}
use Rattle.std.proofs.lemmas.Slice.Eq.{bytes_eq-Decides}
use Rattle.vlog_tree.specs.declared.design.Module.{Module}
use Rattle.vlog_tree.specs.Meaning.Instances.{Path, same_path}
use Rattle.vlog_tree.specs.Meaning.Keys.{bit_count}
use Rattle.vlog_tree.specs.Meaning.Lefts.{Bit, bit_of, same_bit}
use Rattle.vlog_tree.specs.Meaning.Names.{firsts, names}
use Rattle.vlog_tree.specs.Meaning.Uses.{Text}
use Rattle.numbering.specs.Bits.{bits_of, name_bits}
use Rattle.numbering.proofs.NumberListLemmas.{IsIn, before, flat_member, flat_none, flat_place, from_map, from_never, from_start, map_at, range_at, range_place}

-- ---- tests of equal things

pub paths_decide : (a b : Path) → Decides (same_path a b) (a ≡ b)
paths_decide a b = pointwise_decides bytes_eq-Decides a b

pub path_itself : (a : Path) → same_path a a ≡ true
path_itself a = (paths_decide a a).1 refl

pub other_path : (a b : Path) → (a ≡ b → ⊥) → same_path a b ≡ false
other_path a b apart = false_from_ne_true (same_path a b) (λ e. apart ((paths_decide a b).0 e))

name_itself : (a : Text) → bytes_eq a a ≡ true
name_itself a = (bytes_eq-Decides a a).1 refl

other_way : (a b : Text) → bytes_eq a b ≡ false → bytes_eq b a ≡ false
other_way a b differ =
    false_from_ne_true (bytes_eq b a) (λ e. both_ways (bytes_eq a b) differ ((bytes_eq-Decides a b).1 (sym ((bytes_eq-Decides b a).0 e))))

-- ---- names that stand once

abbrev pub AreOnce : List Text → Type 0
AreOnce [] = Unit {0}
AreOnce (name ∷ names) = (list_any (λ other. bytes_eq other name) names ≡ false) × AreOnce names

or_false : (a b : Bool) → (a || b) ≡ false → (a ≡ false) × (b ≡ false)
or_false true b h = absurd (false≢true (sym h))
or_false false b h = (refl, h)

none_kept : (test keep : Text → Bool) (names : List Text) → list_any test names ≡ false → list_any test (filter keep names) ≡ false
none_kept test keep [] none = refl
none_kept test keep (name ∷ names) none =
    let parts : (test name ≡ false) × (list_any test names ≡ false) = or_false (test name) (list_any test names) none in
    by (keep name) parts.0 (none_kept test keep names parts.1)
  where
    by : (b : Bool) → test name ≡ false → list_any test (filter keep names) ≡ false
        → list_any test (cond b (name ∷ filter keep names) (filter keep names)) ≡ false
    by true here rest = ap (λ t. t || list_any test (filter keep names)) here ∙ rest
    by false here rest = rest

pub once_kept : (keep : Text → Bool) (names : List Text) → AreOnce names → AreOnce (filter keep names)
once_kept keep [] once = tt
once_kept keep (name ∷ names) (new, once) = by (keep name) (once_kept keep names once)
  where
    by : (b : Bool) → AreOnce (filter keep names) → AreOnce (cond b (name ∷ filter keep names) (filter keep names))
    by true rest = (none_kept (λ other. bytes_eq other name) keep names new, rest)
    by false rest = rest

abbrev others : Text → List Text → List Text
others name names = filter (λ other. not (bytes_eq other name)) names

without_it : (name : Text) (names : List Text) → list_any (λ other. bytes_eq other name) (others name names) ≡ false
without_it name [] = refl
without_it name (other ∷ names) = by (bytes_eq other name) refl (without_it name names)
  where
    by : (b : Bool) → bytes_eq other name ≡ b → list_any (λ other. bytes_eq other name) (others name names) ≡ false
        → list_any (λ other. bytes_eq other name) (cond (not b) (other ∷ others name names) (others name names)) ≡ false
    by true is none = none
    by false is none = ap (λ t. t || list_any (λ other. bytes_eq other name) (others name names)) is ∙ none

pub firsts_once : (names : List Text) → AreOnce (firsts names)
firsts_once [] = tt
firsts_once (name ∷ names) =
    (without_it name (firsts names), once_kept (λ other. not (bytes_eq other name)) (firsts names) (firsts_once names))

any_at : (test : Text → Bool) (names : List Text) (i : ℕ) (name : Text) → slice_get names i ≡ Some name → list_any test names ≡ false
    → test name ≡ false
any_at test [] i name at none = absurd (cc)
any_at test (first ∷ names) zero name at none =
    ap test (sym (same_Some first name at)) ∙ (or_false (test first) (list_any test names) none).0
any_at test (first ∷ names) (suc i) name at none = any_at test names i name at (or_false (test first) (list_any test names) none).1

-- two places of such a list have two names
pub other_names : (names : List Text) → AreOnce names → (i j : ℕ) (a b : Text) → slice_get names i ≡ Some a → slice_get names j ≡ Some b
    → (j ≡ i → ⊥) → bytes_eq a b ≡ false
other_names [] once i j a b here there apart = absurd (cc)
other_names (first ∷ names) once zero zero a b here there apart = absurd (apart refl)
other_names (first ∷ names) once zero (suc j) a b here there apart =
    other_way b a (ap (bytes_eq b) (sym (same_Some first a here)) ∙ any_at (λ other. bytes_eq other first) names j b there once.0)
other_names (first ∷ names) once (suc i) zero a b here there apart =
    ap (bytes_eq a) (sym (same_Some first b there)) ∙ any_at (λ other. bytes_eq other first) names i a here once.0
other_names (first ∷ names) once (suc i) (suc j) a b here there apart =
    other_names names once.1 i j a b here there (λ e. apart (ap suc e))

all_at : (test : Text → Bool) (names : List Text) (i : ℕ) (name : Text) → slice_get names i ≡ Some name → list_all test names ≡ true
    → test name ≡ true
all_at test [] i name at all = absurd (cc)
all_at test (first ∷ names) zero name at all =
    ap test (sym (same_Some first name at)) ∙ (and_parts (test first) (list_all test names) all).0
all_at test (first ∷ names) (suc i) name at all = all_at test names i name at (and_parts (test first) (list_all test names) all).1

-- ---- the bits of names

module _ (m : Module) (bit : Bit) where
  by_name : (name : Text) (b : Bool) → bytes_eq bit.name name ≡ b
      → position_from (same_bit bit) 0 (name_bits m name)
      ≡ position_from (λ k. b && (bit.place == k)) 0 (range_with_len 0 (bit_count m name))
  by_name name b is =
      from_map (same_bit bit) (bit_of name) 0 (range_with_len 0 (bit_count m name))
      ∙ ap (λ c. position_from (λ k. c && (bit.place == k)) 0 (range_with_len 0 (bit_count m name))) is

  -- another name doesn't have the bit
  other_bits : (name : Text) → bytes_eq bit.name name ≡ false → position_from (same_bit bit) 0 (name_bits m name) ≡ None
  other_bits name differ = by_name name false differ ∙ from_never 0 (range_with_len 0 (bit_count m name))

  own_bits : (name : Text) (place : ℕ) → slice_get (name_bits m name) place ≡ Some bit
      → (bit.name ≡ name) × (position_from (same_bit bit) 0 (name_bits m name) ≡ Some place)
  own_bits name place at =
      let found : (k : ℕ) × (slice_get (range_with_len 0 (bit_count m name)) place ≡ Some k) × (bit ≡ bit_of name k) =
      map_at (bit_of name) (range_with_len 0 (bit_count m name)) place bit at in
      let is : (found.0 ≡ 0 + place) × (place < bit_count m name) = range_at 0 (bit_count m name) place found.0 found.1 in
      let named : bit.name ≡ name = ap (λ (one : Bit). one.name) found.2 in (
        named,
        by_name name true ((bytes_eq-Decides bit.name name).1 named)
            ∙ range_place bit.place 0 (bit_count m name) 0 place (ap (λ (one : Bit). one.place) found.2 ∙ is.0) is.1
            ∙ ap Some {x = 0 + place} {y = place} (omega arith),
      )

  -- Each bit of names that stand once has the place at which it stands.
  pub bit_place : (names : List Text) → AreOnce names → (place : ℕ) → slice_get (bits_of m names) place ≡ Some bit
      → position (same_bit bit) (bits_of m names) ≡ Some place
  bit_place names once place at =
      let found : IsIn (name_bits m) names place bit = flat_member (name_bits m) names place bit at in
      let own : (bit.name ≡ found.member) × (position_from (same_bit bit) 0 (name_bits m found.member) ≡ Some found.rest) =
      own_bits found.member found.rest found.here in
      from_start (same_bit bit) (bits_of m names)
      ∙ flat_place (name_bits m) (same_bit bit) names found.i found.member 0 found.there
      (λ j other there apart. other_bits other
      (ap (λ name. bytes_eq name other) own.0 ∙ other_names names once found.i j found.member other found.there there apart))
      ∙ ap (option_map (λ o. 0 + (before (name_bits m) names found.i + o))) own.1
      ∙ ap Some (let e : place ≡ before (name_bits m) names found.i + found.rest = found.is in omega arith)

  -- Names that pass a test have no bit whose name fails it.
  pub failed_place : (test : Text → Bool) (names : List Text) → list_all test names ≡ true → test bit.name ≡ false
      → position (same_bit bit) (bits_of m names) ≡ None
  failed_place test names all fails =
      from_start (same_bit bit) (bits_of m names)
      ∙ flat_none (name_bits m) (same_bit bit) names 0 (λ j name at. other_bits name (differs name (all_at test names j name at all)))
    where
      differs : (name : Text) → test name ≡ true → bytes_eq bit.name name ≡ false
      differs name passes = false_from_ne_true (bytes_eq bit.name name)
          (λ e. both_ways (test bit.name) fails (ap test ((bytes_eq-Decides bit.name name).0 e) ∙ passes))

pub passes_kept : (test : Text → Bool) (names : List Text) → list_all test (filter test names) ≡ true
passes_kept test [] = refl
passes_kept test (name ∷ names) = by (test name) refl (passes_kept test names)
  where
    by : (b : Bool) → test name ≡ b → list_all test (filter test names) ≡ true
        → list_all test (cond b (name ∷ filter test names) (filter test names)) ≡ true
    by true is rest = and_from (test name) (list_all test (filter test names)) is rest
    by false is rest = rest

pub all_kept : (test keep : Text → Bool) (names : List Text) → list_all test names ≡ true → list_all test (filter keep names) ≡ true
all_kept test keep [] all = refl
all_kept test keep (name ∷ names) all =
    let parts : (test name ≡ true) × (list_all test names ≡ true) = and_parts (test name) (list_all test names) all in
    by (keep name) parts.0 (all_kept test keep names parts.1)
  where
    by : (b : Bool) → test name ≡ true → list_all test (filter keep names) ≡ true
        → list_all test (cond b (name ∷ filter keep names) (filter keep names)) ≡ true
    by true here rest = and_from (test name) (list_all test (filter keep names)) here rest
    by false here rest = rest
