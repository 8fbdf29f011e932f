-- The bits of each kind are those of the names of this kind.
use Rattle.std.proofs.Common.{◌≡◌, ◌≤◌, ℕ, List, [], ◌∷◌, ◌++◌, Bool, true, false, not, ◌||◌, ◌&&◌, cond, Option, None, Some, is_some, refl, ap, sym, ◌∙◌, subst, arith, filter, length, length-append, take, drop}
use Rattle.std.proofs.lemmas.List.{take-append-drop}
use Rattle.std.proofs.lemmas.List.Elements.{filter_agree}
use Rattle.std.proofs.lemmas.Slice.Eq.{bytes_eq-Decides}
use Rattle.std.specs.List.{list_any}
use Rattle.std.specs.Str.{bytes_eq}
use Rattle.numbering.specs.declared.kind.Kind.{Kind}
use Rattle.numbering.specs.declared.kind.Kind.TheVariants as kind
use Rattle.vlog_tree.specs.Meaning.Lefts.{Bit}
use Rattle.vlog_tree.specs.Meaning.Names.{is_input, is_register, names}
use Rattle.vlog_tree.specs.Meaning.Uses.{Text}
use Rattle.numbering.specs.Bits.{bits_of, is_driven}
use Rattle.numbering.specs.Placed.{bits_in, counts_of, is_of, kind_by, known, place_after, place_by, same_kind, total}
use Rattle.numbering.specs.Places.{IsApart, IsPlace, Placing, StandFrom, count_of_bits, input_bits_by, placed_driven, placed_inputs, placed_registers}
use Rattle.numbering.proofs.BitLemmas.{kept_append, stands}
use Rattle.numbering.proofs.KnownLemmas.{known_bits}

-- ---- the kind of a name

register_test : (clock : Option Text) (r i : Bool) (name : Text) → r ≡ same_kind kind.Register (kind_by clock r i name)
register_test clock true i name = refl
register_test clock false false name = refl
register_test None false true name = refl
register_test (Some clock) false true name = by (bytes_eq name clock)
  where
    by : (b : Bool) → false ≡ same_kind kind.Register (cond b kind.Clock kind.Input)
    by true = refl
    by false = refl

driven_test : (clock : Option Text) (r i : Bool) (name : Text) → not (r || (is_some clock && i)) ≡ same_kind kind.Driven (kind_by clock r i name)
driven_test clock true i name = refl
driven_test None false false name = refl
driven_test (Some clock) false false name = refl
driven_test None false true name = refl
driven_test (Some clock) false true name = by (bytes_eq name clock)
  where
    by : (b : Bool) → false ≡ same_kind kind.Driven (cond b kind.Clock kind.Input)
    by true = refl
    by false = refl

no_input : (r i : Bool) (name : Text) → false ≡ same_kind kind.Input (kind_by None r i name)
no_input true i name = refl
no_input false true name = refl
no_input false false name = refl

input_test : (clock : Text) (r i : Bool) (name : Text) → (r ≡ true → i ≡ false)
    → (i && not (bytes_eq name clock)) ≡ same_kind kind.Input (kind_by (Some clock) r i name)
input_test clock true i name apart = ap (λ i. i && not (bytes_eq name clock)) (apart refl)
input_test clock false false name apart = refl
input_test clock false true name apart = by (bytes_eq name clock)
  where
    by : (b : Bool) → not b ≡ same_kind kind.Input (cond b kind.Clock kind.Input)
    by true = refl
    by false = refl

-- ---- the bits of a kind

filter_both : {X : Type 0} (p q : X → Bool) (xs : List X) → filter p (filter q xs) ≡ filter (λ x. q x && p x) xs
filter_both p q [] = refl
filter_both {X = X} p q (x ∷ xs) = by (q x) (filter_both p q xs)
  where
    rest : (c : Bool) → filter p (filter q xs) ≡ filter (λ x. q x && p x) xs
        → cond c (x ∷ filter p (filter q xs)) (filter p (filter q xs)) ≡ cond c (x ∷ filter (λ x. q x && p x) xs) (filter (λ x. q x && p x) xs)
    rest true ih = ap (λ xs. x ∷ xs) ih
    rest false ih = ih

    by : (b : Bool) → filter p (filter q xs) ≡ filter (λ x. q x && p x) xs
        → filter p (cond b (x ∷ filter q xs) (filter q xs)) ≡ cond (b && p x) (x ∷ filter (λ x. q x && p x) xs) (filter (λ x. q x && p x) xs)
    by true ih = rest (p x) ih
    by false ih = ih

filter_none : {X : Type 0} (xs : List X) → filter (λ x. false) xs ≡ []
filter_none [] = refl
filter_none (x ∷ xs) = filter_none xs

abbrev bits_by : Placing → Kind → List Bit
bits_by it one = bits_of it.definition (filter (is_of it one) (known it.definition))

pub registers_by : (it : Placing) → placed_registers it ≡ bits_by it kind.Register
registers_by it =
    ap (bits_of it.definition)
    (filter_agree (is_register it.definition) (is_of it kind.Register)
    (λ name. register_test it.clock (is_register it.definition name) (is_input it.definition name) name) (names it.definition))
    ∙ known_bits it.definition (is_of it kind.Register)

pub driven_by : (it : Placing) → placed_driven it ≡ bits_by it kind.Driven
driven_by it =
    ap (bits_of it.definition)
    (filter_agree (is_driven (is_some it.clock) it.definition) (is_of it kind.Driven)
    (λ name. driven_test it.clock (is_register it.definition name) (is_input it.definition name) name) (names it.definition))
    ∙ known_bits it.definition (is_of it kind.Driven)

pub inputs_by : (it : Placing) → IsApart it.definition → placed_inputs it ≡ bits_by it kind.Input
inputs_by it apart = by it.clock refl
  where
    by : (clock : Option Text) → it.clock ≡ clock → input_bits_by clock it.definition ≡ bits_by it kind.Input
    by None is =
        ap (bits_of it.definition)
        (sym (filter_none (names it.definition))
        ∙ filter_agree (λ name. false) (is_of it kind.Input)
        (λ name. no_input (is_register it.definition name) (is_input it.definition name) name
        ∙ ap (λ clock. same_kind kind.Input (kind_by clock (is_register it.definition name) (is_input it.definition name) name)) (sym is))
        (names it.definition))
        ∙ known_bits it.definition (is_of it kind.Input)
    by (Some clock) is =
        ap (bits_of it.definition)
        (filter_both (λ name. not (bytes_eq name clock)) (is_input it.definition) (names it.definition)
        ∙ filter_agree (λ name. is_input it.definition name && not (bytes_eq name clock)) (is_of it kind.Input)
        (λ name. input_test clock (is_register it.definition name) (is_input it.definition name) name (apart name)
        ∙ ap (λ clock. same_kind kind.Input (kind_by clock (is_register it.definition name) (is_input it.definition name) name)) (sym is))
        (names it.definition))
        ∙ known_bits it.definition (is_of it kind.Input)

-- ---- counts

pub all_counted : (it : Placing) → IsApart it.definition → total (counts_of it (known it.definition)) ≡ count_of_bits it
all_counted it apart =
    omega (arith, ap length (inputs_by it apart), ap length (registers_by it), ap length (driven_by it))

fewer : (it : Placing) (one : Kind) (n : ℕ) (others : List Text) → bits_in it one (take n others) ≤ bits_in it one others
fewer it one n others =
    omega (
      arith,
      ap (bits_in it one) (take-append-drop n others),
      ap length (kept_append it.definition (is_of it one) (take n others) (drop n others)),
      length-append (bits_of it.definition (filter (is_of it one) (take n others))) (bits_of it.definition (filter (is_of it one) (drop n others))),
    )

-- The first names have no more bits than all.
pub fewer_counted : (it : Placing) → IsApart it.definition → (n : ℕ) → total (counts_of it (take n (known it.definition))) ≤ count_of_bits it
fewer_counted it apart n =
    omega (
      arith,
      all_counted it apart,
      fewer it kind.Input n (known it.definition),
      fewer it kind.Register n (known it.definition),
      fewer it kind.Driven n (known it.definition),
    )

-- ---- the place of a name

module _ (it : Placing) (apart : IsApart it.definition) (name : Text) (before behind : List Text)
    (whole : known it.definition ≡ before ++ name ∷ behind) (first : list_any (bytes_eq name) before ≡ false) where
  stand_in : (one : Kind) (bits : List Bit) → bits ≡ bits_by it one → is_of it one name ≡ true → StandFrom bits it.definition name (bits_in it one before)
  stand_in one bits is kept =
      let P : List Bit → Type 0 = λ bits. StandFrom bits it.definition name (bits_in it one before) in
      subst P (sym (is ∙ ap (λ others. bits_of it.definition (filter (is_of it one) others)) whole))
      (stands it.definition (is_of it one) name before behind kept first)

  -- where its kind is known
  pub is_place : IsPlace it name (place_after it before name)
  is_place = by (is_register it.definition name) refl (is_input it.definition name) refl it.clock refl
    where
      same : (r : Bool) → is_register it.definition name ≡ r → (i : Bool) → is_input it.definition name ≡ i → (clock : Option Text) → it.clock ≡ clock
          → (one : Kind) → same_kind one (kind_by clock r i name) ≡ true → is_of it one name ≡ true
      same r r_is i i_is clock c_is one is = (λ j. same_kind one (kind_by (c_is j) (r_is j) (i_is j) name)) ∙ is

      input : (clock : Text) → it.clock ≡ Some clock → is_register it.definition name ≡ false → is_input it.definition name ≡ true
          → (b : Bool) → bytes_eq name clock ≡ b → IsPlace it name (place_by (counts_of it before) (cond b kind.Clock kind.Input))
      input clock c_is r_is i_is true b_is = (c_is ∙ ap (λ text. Some text) (sym ((bytes_eq-Decides name clock).0 b_is)), i_is, r_is)
      input clock c_is r_is i_is false b_is = (
        ap is_some c_is,
        i_is,
        r_is,
        stand_in kind.Input (placed_inputs it) (inputs_by it apart)
            (same false r_is true i_is (Some clock) c_is kind.Input (ap (λ b. same_kind kind.Input (cond b kind.Clock kind.Input)) b_is)),
      )

      driven : (r : Bool) → is_register it.definition name ≡ r → (i : Bool) → is_input it.definition name ≡ i → (clock : Option Text) → it.clock ≡ clock
          → same_kind kind.Driven (kind_by clock r i name) ≡ true → IsPlace it name (place_by (counts_of it before) kind.Driven)
      driven r r_is i i_is clock c_is is =
          let it_is : is_of it kind.Driven name ≡ true = same r r_is i i_is clock c_is kind.Driven is in (
            driven_test it.clock (is_register it.definition name) (is_input it.definition name) name ∙ it_is,
            stand_in kind.Driven (placed_driven it) (driven_by it) it_is,
          )

      by : (r : Bool) → is_register it.definition name ≡ r → (i : Bool) → is_input it.definition name ≡ i → (clock : Option Text) → it.clock ≡ clock
          → IsPlace it name (place_by (counts_of it before) (kind_by clock r i name))
      by true r_is i i_is clock c_is =
          (r_is, stand_in kind.Register (placed_registers it) (registers_by it) (same true r_is i i_is clock c_is kind.Register refl))
      by false r_is true i_is (Some clock) c_is = input clock c_is r_is i_is (bytes_eq name clock) refl
      by false r_is true i_is None c_is = driven false r_is true i_is None c_is refl
      by false r_is false i_is clock c_is = driven false r_is false i_is clock c_is refl
