-- Bits in lists, and the edges that they are given.
use Rattle.std.proofs.Common.{◌≡◌, ℕ, suc, ◌+◌, Bool, true, false, ◌&&◌, ◌||◌, ◌==◌, List, [], ◌∷◌, ◌++◌, Some, None, refl, sym, ◌∙◌, ap, arith, cond, slice_get}
use Rattle.std.specs.List.{list_any, position_from}
use Rattle.std.proofs.lemmas.Bool.{and_parts, false≢true}
use Rattle.std.proofs.lemmas.Bool.Decides.{Decides-eqb}
use Rattle.std.proofs.lemmas.List.Folds.{list_any-append}
use Rattle.std.proofs.lemmas.Map.Views.{any-filter_same}
use Rattle.std.proofs.lemmas.Option.{none-some, same_Some}
use Rattle.std.proofs.lemmas.Slice.Eq.{bytes_eq-Decides}
use Rattle.std.specs.Prelude.{bytes_eq}
use Rattle.vlog_tree.specs.declared.design.Module.{Module}
use Rattle.vlog_tree.specs.Meaning.Lefts.{Bit, bit_of, number_in, same_bit}
use Rattle.numbering.specs.Bits.{register_bits}
use Rattle.numbering.proofs.NumberListLemmas.{from_start}
use Rattle.processes.specs.Statements.{ordered}

-- ---- tests

pub same_is : (bit other : Bit) → same_bit bit other ≡ true → bit ≡ other
same_is bit other h =
    let parts : (bytes_eq bit.name other.name ≡ true) × ((bit.place == other.place) ≡ true) =
    and_parts (bytes_eq bit.name other.name) (bit.place == other.place) h in
    let name : bit.name ≡ other.name = (bytes_eq-Decides bit.name other.name).0 parts.0 in
    let place : bit.place ≡ other.place = (Decides-eqb bit.place other.place).0 parts.1 in
    λ j. bit_of (name j) (place j)

or_false : (a b : Bool) → (a || b) ≡ false → (a ≡ false) × (b ≡ false)
or_false true b h = absurd (false≢true (sym h))
or_false false b h = (refl, h)

-- A bit that is in neither list is in none of them.
pub in_neither : (test : Bit → Bool) (bits more : List Bit) → list_any test (bits ++ more) ≡ false
    → (list_any test bits ≡ false) × (list_any test more ≡ false)
in_neither test bits more none =
    or_false (list_any test bits) (list_any test more) (sym (list_any-append test bits more) ∙ none)

-- ---- places

pub record IsFound (test : Bit → Bool) (start : ℕ) (bits : List Bit) (number : ℕ) : Type 0 where
  pub place : ℕ
  pub one : Bit
  pub is : number ≡ start + place
  pub there : slice_get bits place ≡ Some one
  pub passes : test one ≡ true

found_from : (test : Bit → Bool) (start : ℕ) (bits : List Bit) (number : ℕ) → position_from test start bits ≡ Some number
    → IsFound test start bits number
found_from test start [] number at = absurd (none-some number at)
found_from test start (bit ∷ bits) number at = by (test bit) refl at (found_from test (start + 1) bits number)
  where
    by : (b : Bool) → test bit ≡ b → cond b (Some start) (position_from test (start + 1) bits) ≡ Some number
        → (position_from test (start + 1) bits ≡ Some number → IsFound test (start + 1) bits number)
        → IsFound test start (bit ∷ bits) number
    by true passes here rest = record {
      place = 0;
      one = bit;
      is = (let e : start ≡ number = same_Some start number here in omega arith);
      there = refl;
      passes = passes;
    }
    by false fails here rest =
        let found : IsFound test (start + 1) bits number = rest here in
        record {
          place = suc found.place;
          one = found.one;
          is = (let e : number ≡ start + 1 + found.place = found.is in omega arith);
          there = found.there;
          passes = found.passes;
        }

not_found : (test : Bit → Bool) (start : ℕ) (bits : List Bit) → position_from test start bits ≡ None → list_any test bits ≡ false
not_found test start [] none = refl
not_found test start (bit ∷ bits) none = by (test bit) refl none (not_found test (start + 1) bits)
  where
    by : (b : Bool) → test bit ≡ b → cond b (Some start) (position_from test (start + 1) bits) ≡ None
        → (position_from test (start + 1) bits ≡ None → list_any test bits ≡ false) → list_any test (bit ∷ bits) ≡ false
    by true passes here rest = absurd (none-some start (sym here))
    by false fails here rest = ap (λ b. b || list_any test bits) fails ∙ rest here

none_found : (test : Bit → Bool) (start : ℕ) (bits : List Bit) → list_any test bits ≡ false → position_from test start bits ≡ None
none_found test start [] none = refl
none_found test start (bit ∷ bits) none =
    let parts : (test bit ≡ false) × (list_any test bits ≡ false) = or_false (test bit) (list_any test bits) none in
    ap (λ b. cond b (Some start) (position_from test (start + 1) bits)) parts.0 ∙ none_found test (start + 1) bits parts.1

-- The bit stands at its number.
pub at_number : (bits : List Bit) (bit : Bit) (number : ℕ) → number_in bits bit ≡ Some number → slice_get bits number ≡ Some bit
at_number bits bit number at =
    let found : IsFound (same_bit bit) 0 bits number =
    found_from (same_bit bit) 0 bits number (sym (from_start (same_bit bit) bits) ∙ at) in
    let here : number ≡ found.place = (let e : number ≡ 0 + found.place = found.is in omega arith) in
    ap (slice_get bits) here ∙ found.there ∙ ap Some (sym (same_is bit found.one found.passes))

pub without_number : (bits : List Bit) (bit : Bit) → number_in bits bit ≡ None → list_any (same_bit bit) bits ≡ false
without_number bits bit none = not_found (same_bit bit) 0 bits (sym (from_start (same_bit bit) bits) ∙ none)

pub no_number : (bits : List Bit) (bit : Bit) → list_any (same_bit bit) bits ≡ false → number_in bits bit ≡ None
no_number bits bit none = from_start (same_bit bit) bits ∙ none_found (same_bit bit) 0 bits none

-- ---- bits of registers among others

module _ (m : Module) (bits : List Bit) (bit : Bit) where
  in_ordered : list_any (same_bit bit) (ordered m bits) ≡ (list_any (same_bit bit) bits && list_any (same_bit bit) (register_bits m))
  in_ordered =
      any-filter_same (same_bit bit) (λ one. list_any (same_bit one) bits) (list_any (same_bit bit) bits)
      (λ one same. ap (λ other. list_any (same_bit other) bits) (sym (same_is bit one same))) (register_bits m)

  -- What is not among the bits is not among them in order.
  pub not_ordered : list_any (same_bit bit) bits ≡ false → number_in (ordered m bits) bit ≡ None
  not_ordered none =
      no_number (ordered m bits) bit (in_ordered ∙ ap (λ b. b && list_any (same_bit bit) (register_bits m)) none)

  -- A register's bit that is not among them in order is not among them.
  pub not_among : list_any (same_bit bit) (register_bits m) ≡ true → number_in (ordered m bits) bit ≡ None
      → list_any (same_bit bit) bits ≡ false
  not_among register none =
      by (list_any (same_bit bit) bits) (sym (in_ordered ∙ ap (λ b. list_any (same_bit bit) bits && b) register)
      ∙ without_number (ordered m bits) bit none)
    where
      by : (b : Bool) → (b && true) ≡ false → b ≡ false
      by true h = h
      by false h = h
