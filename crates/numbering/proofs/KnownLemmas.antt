-- The names of which a module says something have all bits of its names.
use Rattle.std.proofs.Common.{◌≡◌, ◌+◌, ℕ, List, [], ◌∷◌, ◌++◌, Bool, true, false, ◌||◌, cond, Option, None, Some, refl, ap, sym, ◌∙◌, arith, filter, length, map}
use Rattle.std.proofs.lemmas.Iterator.Adapters.{position_from-zero}
use Rattle.std.proofs.lemmas.Slice.Eq.{bytes_eq-Decides}
use Rattle.std.specs.List.{cons_option, filter_map, list_any, position, position_from, range_with_len}
use Rattle.std.specs.Option.{option_map, unwrap_or}
use Rattle.std.specs.Str.{bytes_eq}
use Rattle.bm_base.specs.declared.range.Range.{Range}
use Rattle.nets.specs.Nets.{Net, net_of, net_with, nets}
use Rattle.nets.specs.Placed.{Entries}
use Rattle.vlog_tree.specs.declared.design.Module.{Module}
use Rattle.vlog_tree.specs.Meaning.Keys.{bit_count}
use Rattle.vlog_tree.specs.Meaning.Lefts.{bit_of}
use Rattle.vlog_tree.specs.Meaning.Names.{is_input, is_register, names}
use Rattle.vlog_tree.specs.Meaning.Ranges.{range_of, span}
use Rattle.vlog_tree.specs.Meaning.Uses.{Text}
use Rattle.numbering.specs.Bits.{bits_of, name_bits}
use Rattle.numbering.specs.Placed.{known}

-- what the table has of some names
abbrev told : Module → List Text → Entries
told m others = filter_map (λ name. option_map (λ net. (name, net)) (net_of m name)) others

abbrev names_in : Entries → List Text
names_in entries = map (λ entry. entry.0) entries

-- ---- no bit is left out

module _ (m : Module) (kept : Text → Bool) where
  told_bits : (others : List Text) → bits_of m (filter kept others) ≡ bits_of m (filter kept (names_in (told m others)))
  told_bits [] = refl
  told_bits (name ∷ others) = by (range_of m name) refl (told_bits others)
    where
      both : (b : Bool) → bits_of m (filter kept others) ≡ bits_of m (filter kept (names_in (told m others)))
          → bits_of m (cond b (name ∷ filter kept others) (filter kept others))
          ≡ bits_of m (cond b (name ∷ filter kept (names_in (told m others))) (filter kept (names_in (told m others))))
      both true ih = ap (λ rest. name_bits m name ++ rest) ih
      both false ih = ih

      none : (b : Bool) → bit_count m name ≡ 0 → bits_of m (cond b (name ∷ filter kept others) (filter kept others)) ≡ bits_of m (filter kept others)
      none true is = ap (λ n. map (bit_of name) (range_with_len 0 n) ++ bits_of m (filter kept others)) is
      none false is = refl

      by : (range : Option Range) → range_of m name ≡ range → bits_of m (filter kept others) ≡ bits_of m (filter kept (names_in (told m others)))
          → bits_of m (filter kept (name ∷ others))
          ≡ bits_of m (filter kept (names_in (cons_option (option_map (λ net. (name, net)) (option_map (net_with m name) range)) (told m others))))
      by (Some range) is ih = both (kept name) ih
      by None is ih = none (kept name) (ap (λ range. unwrap_or (option_map span range) 0) is) ∙ ih

  -- The names that are not known have no bits.
  pub known_bits : bits_of m (filter kept (names m)) ≡ bits_of m (filter kept (known m))
  known_bits = told_bits (names m)

-- ---- what is known of a name

module _ (m : Module) (name : Text) (net : Net) where
  said : net_of m name ≡ Some net → (range : Option Range) → range_of m name ≡ range → option_map (net_with m name) range ≡ Some net
  said is range ranged = ap (option_map (net_with m name)) (sym ranged) ∙ is

  pub said_width : net_of m name ≡ Some net → bit_count m name ≡ span net.range
  said_width is = by (range_of m name) refl (said is (range_of m name) refl)
    where
      by : (range : Option Range) → range_of m name ≡ range → option_map (net_with m name) range ≡ Some net → bit_count m name ≡ span net.range
      by None ranged told = absurd (cc)
      by (Some range) ranged told =
          ap (λ range. unwrap_or (option_map span range) 0) ranged ∙ ap (λ (known : Option Net). span (unwrap_or known net).range) told

  pub said_register : net_of m name ≡ Some net → is_register m name ≡ net.is_register
  said_register is = by (range_of m name) refl (said is (range_of m name) refl)
    where
      by : (range : Option Range) → range_of m name ≡ range → option_map (net_with m name) range ≡ Some net → is_register m name ≡ net.is_register
      by None ranged told = absurd (cc)
      by (Some range) ranged told = ap (λ (known : Option Net). (unwrap_or known net).is_register) told

  pub said_input : net_of m name ≡ Some net → is_input m name ≡ net.is_input
  said_input is = by (range_of m name) refl (said is (range_of m name) refl)
    where
      by : (range : Option Range) → range_of m name ≡ range → option_map (net_with m name) range ≡ Some net → is_input m name ≡ net.is_input
      by None ranged told = absurd (cc)
      by (Some range) ranged told = ap (λ (known : Option Net). (unwrap_or known net).is_input) told

-- ---- where a name stands

-- Names of which this one is the first of its kind, behind so many.
pub record Split (name : Text) (others : List Text) (place : ℕ) : Type 0 where
  pub before : List Text
  pub behind : List Text
  pub whole : others ≡ before ++ name ∷ behind
  pub index : place ≡ length before
  pub first : list_any (bytes_eq name) before ≡ false

record SplitFrom (name : Text) (others : List Text) (start place : ℕ) : Type 0 where
  before : List Text
  behind : List Text
  whole : others ≡ before ++ name ∷ behind
  index : place ≡ start + length before
  first : list_any (bytes_eq name) before ≡ false

some_is : (a b : ℕ) → ◌≡◌ {A = Option ℕ} (Some a) (Some b) → a ≡ b
some_is a b is = cc

split_from : (name : Text) (entries : Entries) (start place : ℕ) → position_from (λ entry. bytes_eq name entry.0) start entries ≡ Some place
    → SplitFrom name (names_in entries) start place
split_from name [] start place is = absurd (cc)
split_from name (entry ∷ entries) start place is = by (bytes_eq name entry.0) refl is (split_from name entries (start + 1) place)
  where
    by : (b : Bool) → bytes_eq name entry.0 ≡ b → cond b (Some start) (position_from (λ entry. bytes_eq name entry.0) (start + 1) entries) ≡ Some place
        → (position_from (λ entry. bytes_eq name entry.0) (start + 1) entries ≡ Some place → SplitFrom name (names_in entries) (start + 1) place)
        → SplitFrom name (entry.0 ∷ names_in entries) start place
    by true same found ih = record {
      before = [];
      behind = names_in entries;
      whole = ap (λ text. text ∷ names_in entries) (sym ((bytes_eq-Decides name entry.0).0 same));
      index = omega (arith, some_is start place found);
      first = refl;
    }
    by false differs found ih =
        let rest : SplitFrom name (names_in entries) (start + 1) place = ih found in
        record {
          before = entry.0 ∷ rest.before;
          behind = rest.behind;
          whole = ap (λ others. entry.0 ∷ others) rest.whole;
          index = omega (arith, rest.index);
          first = ap (λ b. b || list_any (bytes_eq name) rest.before) differs ∙ rest.first;
        }

pub split_at : (m : Module) (name : Text) (place : ℕ) → position (λ entry. bytes_eq name entry.0) (nets m) ≡ Some place → Split name (known m) place
split_at m name place is =
    let found : SplitFrom name (known m) 0 place =
    split_from name (nets m) 0 place (sym (position_from-zero (λ entry. bytes_eq name entry.0) (nets m)) ∙ is) in
    record { before = found.before; behind = found.behind; whole = found.whole; index = omega (arith, found.index); first = found.first }
