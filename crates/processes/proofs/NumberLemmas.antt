-- The numbers of bits among the register bits.
use Rattle.std.proofs.Common.{◌≡◌, ◌≤◌, ◌<◌, ◌+◌, ℕ, List, [], ◌∷◌, Bool, true, false, ◌||◌, ◌&&◌, cond, Option, None, Some, IfSome, is_some, not, unwrap_or, refl, ap, sym, ◌∙◌, arith, filter}
use Rattle.std.proofs.lemmas.Iterator.Adapters.{position_from-zero}
use Rattle.std.proofs.lemmas.List.Folds.{list_any-append}
use Rattle.std.proofs.lemmas.Slice.Eq.{bytes_eq-Decides}
use Rattle.std.specs.List.{list_any, position, position_from}
use Rattle.std.specs.Option.{option_map}
use Rattle.std.specs.Str.{bytes_eq}
use Rattle.bm_base.specs.declared.range.Range.{Range}
use Rattle.bm_base.specs.declared.size.Size.TheVariants.{Nodes}
use Rattle.bm_base.specs.Size.{limit_of}
use Rattle.numbering.specs.Bits.{bits_of, name_bits, register_bits}
use Rattle.numbering.proofs.BitLemmas.{name_differs, or_false}
use Rattle.numbering.specs.declared.place.Place.{Place}
use Rattle.numbering.specs.declared.place.Place.TheVariants as place
use Rattle.numbering.specs.Places.{IsPlace, IsWithinNodes, Placing}
use Rattle.targets.specs.Numbers.{number_at}
use Rattle.processes.specs.Numbers.{in_registers, number_among}
use Rattle.vlog_tree.specs.declared.design.Module.{Module}
use Rattle.vlog_tree.specs.Meaning.Keys.{bit_count}
use Rattle.vlog_tree.specs.Meaning.Lefts.{bit_of, same_bit}
use Rattle.vlog_tree.specs.Meaning.Names.{is_input, is_register, names}
use Rattle.vlog_tree.specs.Meaning.Ranges.{range_of, span}
use Rattle.vlog_tree.specs.Meaning.Uses.{Text}

-- ---- a bit that is no register

none_from : {X : Type 0} (p : X → Bool) (start : ℕ) (xs : List X) → list_any p xs ≡ false → position_from p start xs ≡ None
none_from p start [] none = refl
none_from {X = X} p start (x ∷ xs) none = by (p x) none (none_from p (start + 1) xs)
  where
    by : (b : Bool) → (b || list_any p xs) ≡ false → (list_any p xs ≡ false → position_from p (start + 1) xs ≡ None)
        → cond b (Some start) (position_from p (start + 1) xs) ≡ None
    by true none ih = absurd (cc)
    by false none ih = ih none

pub none_at : {X : Type 0} (p : X → Bool) (xs : List X) → list_any p xs ≡ false → position p xs ≡ None
none_at p xs none = position_from-zero p xs ∙ none_from p 0 xs none

some_from : {X : Type 0} (p : X → Bool) (start : ℕ) (xs : List X) → list_any p xs ≡ true → position_from p start xs ≡ None → ⊥
some_from p start [] some is = absurd (cc)
some_from {X = X} p start (x ∷ xs) some is = by (p x) some is (some_from p (start + 1) xs)
  where
    by : (b : Bool) → (b || list_any p xs) ≡ true → cond b (Some start) (position_from p (start + 1) xs) ≡ None
        → (list_any p xs ≡ true → position_from p (start + 1) xs ≡ None → ⊥) → ⊥
    by true some is ih = absurd (cc)
    by false some is ih = ih some is

-- Where some element passes, there is a first.
pub some_at : {X : Type 0} (p : X → Bool) (xs : List X) → list_any p xs ≡ true → position p xs ≡ None → ⊥
some_at p xs some is = some_from p 0 xs some (sym (position_from-zero p xs) ∙ is)

kept_differ : (m : Module) (kept : Text → Bool) (name : Text) (bit : ℕ) → kept name ≡ false → (others : List Text)
    → list_any (same_bit (bit_of name bit)) (bits_of m (filter kept others)) ≡ false
kept_differ m kept name bit not_kept [] = refl
kept_differ m kept name bit not_kept (other ∷ others) = by (kept other) refl (kept_differ m kept name bit not_kept others)
  where
    differs : (b : Bool) → bytes_eq name other ≡ b → kept other ≡ true → bytes_eq name other ≡ false
    differs true same is = let same_kept = ap kept ((bytes_eq-Decides name other).0 same) in absurd (cc)
    differs false same is = same

    by : (b : Bool) → kept other ≡ b → list_any (same_bit (bit_of name bit)) (bits_of m (filter kept others)) ≡ false
        → list_any (same_bit (bit_of name bit)) (bits_of m (cond b (other ∷ filter kept others) (filter kept others))) ≡ false
    by true is ih =
        list_any-append (same_bit (bit_of name bit)) (name_bits m other) (bits_of m (filter kept others))
        ∙ or_false (list_any (same_bit (bit_of name bit)) (name_bits m other)) (list_any (same_bit (bit_of name bit)) (bits_of m (filter kept others)))
        (name_differs name other bit 0 (bit_count m other) (differs (bytes_eq name other) refl is)) ih
    by false is ih = ih

pub no_register : (m : Module) (name : Text) (bit : ℕ) → is_register m name ≡ false → number_among m (bit_of name bit) ≡ None
no_register m name bit is = none_at (same_bit (bit_of name bit)) (register_bits m) (kept_differ m (is_register m) name bit is (names m))

-- What a place says of the numbers of a name's bits.
pub placed_numbers : (it : Placing) (name : Text) (found : Place) → IsPlace it name found → (bit : ℕ) → bit < bit_count it.definition name
    → number_among it.definition (bit_of name bit) ≡ number_at (in_registers found) bit
placed_numbers it name place.Clock is bit below = no_register it.definition name bit is.2
placed_numbers it name (place.Input first) is bit below = no_register it.definition name bit is.2
placed_numbers it name (place.Register first) is bit below = is.1.each bit below
placed_numbers it name (place.Driven first) is bit below = no_register it.definition name bit (by (is_register it.definition name) is.0)
  where
    by : (b : Bool) → not (b || (is_some it.clock && is_input it.definition name)) ≡ true → b ≡ false
    by true driven = absurd (cc)
    by false driven = refl

pub placed_within : (found : Place) (count : ℕ) → IsWithinNodes found count → IfSome (in_registers found) (λ first. first + count ≤ limit_of Nodes)
placed_within place.Clock count within = tt
placed_within (place.Input first) count within = tt
placed_within (place.Register first) count within = within
placed_within (place.Driven first) count within = tt

-- A name that has no place has no bits.
pub no_bits : (m : Module) (name : Text) → false ≡ is_some (range_of m name) → (bit : ℕ) → bit < bit_count m name → ⊥
no_bits m name none = by (range_of m name) none
  where
    by : (range : Option Range) → false ≡ is_some range → (bit : ℕ) → bit < unwrap_or (option_map span range) 0 → ⊥
    by None none bit below = omega (arith, below)
    by (Some range) none bit below = absurd (cc)
