-- The places that stand one after another are those of the module's names.
use Rattle.std.proofs.Common.{◌≡◌, ◌+◌, ◌≤◌, ℕ, zero, suc, List, [], ◌∷◌, ◌++◌, Bool, true, false, cond, Option, None, Some, is_some, Result, Ok, Err, refl, ap, sym, ◌∙◌, subst, arith, add-one, append_assoc, IfErr, IfSome, filter, length, length-append, map, take, drop}
use Rattle.std.proofs.lemmas.List.{append-nil}
use Rattle.std.proofs.lemmas.List.FromFn.{length-map-range_with_len}
use Rattle.std.proofs.lemmas.Option.{slice_get-map}
use Rattle.std.specs.List.{position, slice_get}
use Rattle.std.specs.Option.{option_map}
use Rattle.std.specs.Result.{IsErrAnd}
use Rattle.std.specs.Str.{bytes_eq}
use Rattle.bm_base.specs.declared.size.Size.TheVariants.{Nodes}
use Rattle.bm_base.specs.Size.{limit_of}
use Rattle.flat_net.specs.declared.fault.FlatFault.{FlatFault}
use Rattle.flat_net.specs.declared.fault.FlatFault.TheVariants.{Memory, TooLarge}
use Rattle.lowering.specs.Limits.{Excuses}
use Rattle.nets.specs.Nets.{Net, net_of, nets}
use Rattle.numbering.specs.declared.counts.Counts.{Counts}
use Rattle.numbering.specs.declared.kind.Kind.{Kind}
use Rattle.numbering.specs.declared.kind.Kind.TheVariants as kind
use Rattle.numbering.specs.declared.place.Place.{Place}
use Rattle.numbering.specs.declared.place.Place.TheVariants as place
use Rattle.vlog_tree.specs.Meaning.Keys.{bit_count}
use Rattle.vlog_tree.specs.Meaning.Lefts.{Bit, bit_of}
use Rattle.vlog_tree.specs.Meaning.Ranges.{span}
use Rattle.vlog_tree.specs.Meaning.Uses.{Text}
use Rattle.numbering.specs.Bits.{bits_of, name_bits}
use Rattle.numbering.specs.Placed.{ArePlaces, bits_in, counts_of, counts_with, is_of, kind_by, kind_of, known, place_after, place_by, places_after, same_kind, total, with_bits}
use Rattle.numbering.specs.Places.{IsApart, IsPlace, IsWithinNodes, Placing, StandFrom, count_of_bits, placed_driven, placed_inputs, placed_registers}
use Rattle.numbering.proofs.BitLemmas.{kept_append}
use Rattle.numbering.proofs.KindLemmas.{all_counted, driven_by, fewer_counted, inputs_by, is_place, registers_by}
use Rattle.numbering.proofs.KnownLemmas.{Split, said_input, said_register, said_width, split_at}

-- ---- one name more

cut : {X : Type 0} (xs : List X) (i : ℕ) (x : X) → slice_get xs i ≡ Some x → (take (suc i) xs ≡ take i xs ++ x ∷ []) × (drop i xs ≡ x ∷ drop (suc i) xs)
cut [] i x is = absurd (cc)
cut (y ∷ ys) zero x is =
    let same : y ≡ x = cc in (ap (λ x. x ∷ []) same, ap (λ x. x ∷ ys) same)
cut (y ∷ ys) (suc i) x is =
    let rest = cut ys i x is in (ap (λ xs. y ∷ xs) rest.0, rest.1)

bits_more : (it : Placing) (one : Kind) (before : List Text) (name : Text)
    → bits_in it one (before ++ name ∷ []) ≡ bits_in it one before + cond (same_kind one (kind_of it name)) (bit_count it.definition name) 0
bits_more it one before name =
    ap length (kept_append it.definition (is_of it one) before (name ∷ []))
    ∙ length-append (bits_of it.definition (filter (is_of it one) before)) (bits_of it.definition (filter (is_of it one) (name ∷ [])))
    ∙ ap (λ n. bits_in it one before + n) (by (same_kind one (kind_of it name)))
  where
    by : (b : Bool) → length (bits_of it.definition (cond b (name ∷ []) [])) ≡ cond b (bit_count it.definition name) 0
    by true = length-append (name_bits it.definition name) [] ∙ omega (arith, length-map-range_with_len (bit_of name) 0 (bit_count it.definition name))
    by false = refl

counts_more : (it : Placing) (before : List Text) (name : Text)
    → counts_of it (before ++ name ∷ []) ≡ with_bits (counts_of it before) (kind_of it name) (bit_count it.definition name)
counts_more it before name =
    (λ j. counts_with (bits_more it kind.Input before name j) (bits_more it kind.Register before name j) (bits_more it kind.Driven before name j))
    ∙ by (kind_of it name)
  where
    width : ℕ
    width = bit_count it.definition name

    none : (one : Kind) → bits_in it one before + 0 ≡ bits_in it one before
    none one = omega arith

    by : (one : Kind)
        → counts_with (bits_in it kind.Input before + cond (same_kind kind.Input one) (bit_count it.definition name) 0)
        (bits_in it kind.Register before + cond (same_kind kind.Register one) (bit_count it.definition name) 0)
        (bits_in it kind.Driven before + cond (same_kind kind.Driven one) (bit_count it.definition name) 0)
        ≡ with_bits (counts_of it before) one (bit_count it.definition name)
    by kind.Clock = λ j. counts_with (none kind.Input j) (none kind.Register j) (none kind.Driven j)
    by kind.Input = λ j. counts_with (bits_in it kind.Input before + bit_count it.definition name) (none kind.Register j) (none kind.Driven j)
    by kind.Register = λ j. counts_with (none kind.Input j) (bits_in it kind.Register before + bit_count it.definition name) (none kind.Driven j)
    by kind.Driven = λ j. counts_with (none kind.Input j) (none kind.Register j) (bits_in it kind.Driven before + bit_count it.definition name)

-- The names before this one have their places.
pub record SoFar (it : Placing) (i : ℕ) (places : List Place) (counts : Counts) : Type 0 where
  pub placed : places ++ places_after it (take i (known it.definition)) (drop i (known it.definition)) ≡ places_after it [] (known it.definition)
  pub counted : counts ≡ counts_of it (take i (known it.definition))
  pub within : total counts ≤ limit_of Nodes

pub so_far_none : (it : Placing) (places : List Place) (counts : Counts) → places ≡ [] → counts ≡ counts_with 0 0 0 → SoFar it 0 places counts
so_far_none it places counts none zero_is = record {
  placed = ap (λ places. places ++ places_after it [] (known it.definition)) none;
  counted = zero_is;
  within = omega (arith, ap total zero_is);
}

module _ (it : Placing) (i : ℕ) (name : Text) (net : Net) (width : ℕ) (one : Kind) (counts : Counts)
    (here : slice_get (nets it.definition) i ≡ Some (name, net)) (said : net_of it.definition name ≡ Some net)
    (wide : width ≡ span net.range) (kind_is : one ≡ kind_by it.clock net.is_register net.is_input name) where
  named : slice_get (known it.definition) i ≡ Some name
  named = slice_get-map (λ entry. entry.0) (nets it.definition) i ∙ ap (option_map (λ (entry : Text × Net). entry.0)) here

  of_kind : one ≡ kind_of it name
  of_kind = kind_is ∙ (λ j. kind_by it.clock (sym (said_register it.definition name net said) j) (sym (said_input it.definition name net said) j) name)

  of_width : width ≡ bit_count it.definition name
  of_width = wide ∙ sym (said_width it.definition name net said)

  more_taken : take (i + 1) (known it.definition) ≡ take i (known it.definition) ++ name ∷ []
  more_taken = ap (λ n. take n (known it.definition)) (add-one i) ∙ (cut (known it.definition) i name named).0

  less_left : drop i (known it.definition) ≡ name ∷ drop (i + 1) (known it.definition)
  less_left = (cut (known it.definition) i name named).1 ∙ ap (λ n. name ∷ drop n (known it.definition)) (sym (add-one i))

  more_counted : counts ≡ counts_of it (take i (known it.definition)) → with_bits counts one width ≡ counts_of it (take (i + 1) (known it.definition))
  more_counted is =
      (λ j. with_bits (is j) (of_kind j) (of_width j))
      ∙ sym (counts_more it (take i (known it.definition)) name)
      ∙ ap (counts_of it) (sym more_taken)

  pub so_far_more : (places : List Place) → SoFar it i places counts → (more_places : List Place) (more_counts : Counts)
      → more_places ≡ places ++ place_by counts one ∷ [] → more_counts ≡ with_bits counts one width → total more_counts ≤ limit_of Nodes
      → SoFar it (i + 1) more_places more_counts
  so_far_more places so_far more_places more_counts places_are counts_are within = record {
    placed =
        let K : List Text = known it.definition in
        let here_is : place_by counts one ≡ place_after it (take i K) name = (λ j. place_by (so_far.counted j) (of_kind j)) in
        ap (λ places. places ++ places_after it (take (i + 1) K) (drop (i + 1) K)) (places_are ∙ ap (λ place. places ++ place ∷ []) here_is)
        ∙ append_assoc places (place_after it (take i K) name ∷ []) (places_after it (take (i + 1) K) (drop (i + 1) K))
        ∙ ap (λ before. places ++ (place_after it (take i K) name ∷ places_after it before (drop (i + 1) K))) more_taken
        ∙ ap (λ rest. places ++ places_after it (take i K) rest) (sym less_left)
        ∙ so_far.placed;
    counted = counts_are ∙ more_counted so_far.counted;
    within = within;
  }

  more_excused : (fault : FlatFault) (few many : ℕ) → few ≤ many → Excuses few fault → Excuses many fault
  more_excused Memory few many le excused = excused
  more_excused (TooLarge what) few many le excused = (excused.0, omega (arith, le, excused.1))

  pub excused : IsApart it.definition → counts ≡ counts_of it (take i (known it.definition)) → (fault : FlatFault)
      → Excuses (total (with_bits counts one width)) fault → Excuses (count_of_bits it) fault
  excused apart counted fault is =
      let fewer = fewer_counted it apart (i + 1) in
      more_excused fault (total (with_bits counts one width)) (count_of_bits it) (omega (arith, ap total (more_counted counted), fewer)) is

-- ---- all names

drop_all : {X : Type 0} (xs : List X) (i : ℕ) → length xs ≤ i → drop i xs ≡ []
drop_all [] zero le = refl
drop_all [] (suc i) le = refl
drop_all (x ∷ xs) zero le = absurd (omega (arith, le))
drop_all (x ∷ xs) (suc i) le = drop_all xs i (omega (arith, le))

take_all : {X : Type 0} (xs : List X) (i : ℕ) → length xs ≤ i → take i xs ≡ xs
take_all [] zero le = refl
take_all [] (suc i) le = refl
take_all (x ∷ xs) zero le = absurd (omega (arith, le))
take_all (x ∷ xs) (suc i) le = ap (λ xs. x ∷ xs) (take_all xs i (omega (arith, le)))

as_many : {X Y : Type 0} (f : X → Y) (xs : List X) → length (map f xs) ≡ length xs
as_many f [] = refl
as_many f (x ∷ xs) = ap suc (as_many f xs)

pub are_places : (it : Placing) → IsApart it.definition → (i : ℕ) → length (nets it.definition) ≤ i → (places : List Place) (counts : Counts)
    → SoFar it i places counts → ArePlaces it places counts
are_places it apart i all places counts so_far =
    let enough : length (known it.definition) ≤ i = omega (arith, all, as_many (λ (entry : Text × Net). entry.0) (nets it.definition)) in
    record {
      apart = apart;
      placed =
          sym (append-nil places)
          ∙ ap (λ rest. places ++ places_after it (take i (known it.definition)) rest) (sym (drop_all (known it.definition) i enough))
          ∙ so_far.placed;
      counted = so_far.counted ∙ ap (counts_of it) (take_all (known it.definition) i enough);
      within = so_far.within;
    }

-- ---- the place of a name

place_there : (it : Placing) (earlier before : List Text) (name : Text) (behind : List Text)
    → slice_get (places_after it earlier (before ++ name ∷ behind)) (length before) ≡ Some (place_after it (earlier ++ before) name)
place_there it earlier [] name behind = ap (λ before. Some (place_after it before name)) (sym (append-nil earlier))
place_there it earlier (other ∷ before) name behind =
    place_there it (earlier ++ other ∷ []) before name behind
    ∙ ap (λ before. Some (place_after it before name)) (append_assoc earlier (other ∷ []) before)

module _ (it : Placing) (places : List Place) (counts : Counts) (are : ArePlaces it places counts) (name : Text) (index : ℕ)
    (found : position (λ entry. bytes_eq name entry.0) (nets it.definition) ≡ Some index) where
  pub split : Split name (known it.definition) index
  split = split_at it.definition name index found

  pub place_is : slice_get places index ≡ Some (place_after it split.before name)
  place_is =
      (λ j. slice_get (are.placed j) (split.index j))
      ∙ ap (λ others. slice_get (places_after it [] others) (length split.before)) split.whole
      ∙ place_there it [] split.before name split.behind

  pub is_found : (result : Option Place) → result ≡ slice_get places index → is_some result ≡ true
  is_found result is = ap is_some (is ∙ place_is)

  pub is_right : (result : Option Place) → result ≡ slice_get places index → IfSome result (IsPlace it name)
  is_right result is =
      let P : Option Place → Type 0 = λ result. IfSome result (IsPlace it name) in
      subst P (sym (is ∙ place_is)) (is_place it are.apart name split.before split.behind split.whole split.first)

  pub is_within : (result : Option Place) → result ≡ slice_get places index
      → IfSome result (λ place. IsWithinNodes place (bit_count it.definition name))
  is_within result is = by result (is_right result is)
    where
      few : (bits : List Bit) (first : ℕ) → length bits ≤ total counts → StandFrom bits it.definition name first
          → first + bit_count it.definition name ≤ limit_of Nodes
      few bits first le stand = omega (arith, le, stand.within, are.within)

      each_counted : counts.inputs + counts.registers + counts.driven ≡ count_of_bits it
      each_counted = ap total are.counted ∙ all_counted it are.apart

      by : (result : Option Place) → IfSome result (IsPlace it name) → IfSome result (λ place. IsWithinNodes place (bit_count it.definition name))
      by None right = tt
      by (Some place.Clock) right = tt
      by (Some (place.Input first)) right = few (placed_inputs it) first (omega (arith, each_counted)) right.3
      by (Some (place.Register first)) right = few (placed_registers it) first (omega (arith, each_counted)) right.1
      by (Some (place.Driven first)) right = few (placed_driven it) first (omega (arith, each_counted)) right.1

-- ---- a fault is passed on

pub passed_on : {X : Type 0} (P : FlatFault → Type 0) (result : Result X FlatFault) (fault : FlatFault)
    → IsErrAnd result (λ other. other ≡ fault) → P fault → IfErr result P
passed_on P (Ok x) fault is holds = tt
passed_on P (Err other) fault is holds = subst P (sym is) holds

-- ---- counts

module _ (it whole : Placing) (same : it ≡ whole) (places : List Place) (counts : Counts) (are : ArePlaces it places counts) where
  pub inputs_are : counts.inputs ≡ length (placed_inputs whole)
  inputs_are =
      ap (λ (counts : Counts). counts.inputs) are.counted ∙ sym (ap length (inputs_by it are.apart)) ∙ ap (λ it. length (placed_inputs it)) same

  pub registers_are : counts.registers ≡ length (placed_registers whole)
  registers_are =
      ap (λ (counts : Counts). counts.registers) are.counted ∙ sym (ap length (registers_by it)) ∙ ap (λ it. length (placed_registers it)) same

  pub driven_are : counts.driven ≡ length (placed_driven whole)
  driven_are = ap (λ (counts : Counts). counts.driven) are.counted ∙ sym (ap length (driven_by it)) ∙ ap (λ it. length (placed_driven it)) same
