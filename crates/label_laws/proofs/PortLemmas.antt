-- The label of an input of a module whose names are right, and whose declarations are by the grammar.
use Rattle.std.proofs.Common.{◌≡◌, ◌≤◌, ℕ, zero, suc, ◌+◌, ◌-◌, List, [], ◌∷◌, Bool, true, false, ◌&&◌, cond, Option, None, Some, max, min, refl, ap, sym, subst, ◌∙◌, arith, nat_le, option_map}
use Rattle.std.specs.List.{cons_option, filter_map, find, list_all}
use Rattle.std.specs.Option.{option_or, unwrap_or}
use Rattle.std.specs.Str.{bytes_eq}
use Rattle.std.proofs.lemmas.Bool.{false≢true, leb-true}
use Rattle.bm_base.specs.declared.range.Range.{Range}
use Rattle.design_laws.proofs.Members.{Has, any_member, found_has, has_kept, has_none, some_same}
use Rattle.design_laws.proofs.Reaching.{same_text}
use Rattle.elab.specs.Plans.{port_label, written_range}
use Rattle.name_rules.specs.Declarations.{bad_names}
use Rattle.nets.specs.Nets.{first_of, written_in}
use Rattle.trace_rows.specs.Writable.{HasWidth, IsPort}
use Rattle.vlog_tree.specs.declared.design.Module.{Module}
use Rattle.vlog_tree.specs.declared.item.Item.{Item}
use Rattle.vlog_tree.specs.declared.item.Item.TheVariants.{Always, Assign, Decl, Gate, Initial, Instance}
use Rattle.vlog_tree.specs.Meaning.Keys.{bit_count}
use Rattle.vlog_tree.specs.Meaning.Names.{declares, declares_input, declares_output, is_implicit, is_input, is_output}
use Rattle.vlog_tree.specs.Meaning.Ranges.{declared_range, scalar, span}
use Rattle.vlog_tree.specs.Meaning.Uses.{Text}
use Rattle.label_laws.proofs.DeclarationLemmas.{directs_declares, input_directs, is_narrow, one_range, output_directs}
use Rattle.label_laws.proofs.GrammarLemmas.{is_right, is_short}
use Rattle.label_laws.proofs.TokenLemmas.{first_is, is_printable, second_is}

-- ---- members

pub all_member : {X : Type 0} (test : X → Bool) (xs : List X) (x : X) → list_all test xs ≡ true → Has xs x → test x ≡ true
all_member test [] x all has = absurd (has_none x has)
all_member test (y ∷ xs) x all (zero, is) =
    ap test (sym (some_same y x is)) ∙ first_is (test y) (list_all test xs) all
all_member test (y ∷ xs) x all (suc i, is) = all_member test xs x (second_is (test y) (list_all test xs) all) (i, is)

find_there : {X : Type 0} (test : X → Bool) (xs : List X) (x : X) → Has xs x → test x ≡ true
    → (first : X) × (find test xs ≡ Some first)
find_there {X = X} test [] x has passes = absurd (has_none x has)
find_there {X = X} test (y ∷ xs) x (zero, is) passes =
    (y, ap (λ b. cond b (Some y) (find test xs)) (ap test (some_same y x is) ∙ passes))
find_there {X = X} test (y ∷ xs) x (suc i, is) passes = by (test y) (find_there test xs x (i, is) passes)
  where
    by : (b : Bool) → (first : X) × (find test xs ≡ Some first) → (first : X) × (cond b (Some y) (find test xs) ≡ Some first)
    by true rest = (y, refl)
    by false rest = rest

first_has : {X : Type 0} (xs : List X) (x : X) → first_of xs ≡ Some x → Has xs x
first_has [] x is = absurd cc
first_has (y ∷ xs) x is = (0, is)

kept_none : {X : Type 0} (found : Option X) (xs : List X) → first_of (cons_option found xs) ≡ None
    → (found ≡ None) × (first_of xs ≡ None)
kept_none None xs is = (refl, is)
kept_none (Some x) xs is = absurd cc

no_first : {X Y : Type 0} (f : X → Option Y) (xs : List X) (x : X) → first_of (filter_map f xs) ≡ None → Has xs x → f x ≡ None
no_first f [] x none has = absurd (has_none x has)
no_first f (y ∷ xs) x none (zero, is) = ap f (sym (some_same y x is)) ∙ (kept_none (f y) (filter_map f xs) none).0
no_first f (y ∷ xs) x none (suc i, is) = no_first f xs x (kept_none (f y) (filter_map f xs) none).1 (i, is)

-- ---- one declaration

printable_name : (name : Text) (one : Item) → declares name one ≡ true → is_right one ≡ true → is_printable name ≡ true
printable_name name (Decl at dir kind range other) is right =
    subst (λ text. is_printable text ≡ true) (same_text other name is) (first_is (is_printable other) (is_short range) right)
printable_name name (Assign at left right') is right = absurd (false≢true is)
printable_name name (Gate at kind gate outs ins) is right = absurd (false≢true is)
printable_name name (Instance at inner other links) is right = absurd (false≢true is)
printable_name name (Always at clock body) is right = absurd (false≢true is)
printable_name name (Initial at other value) is right = absurd (false≢true is)

-- A declaration of the name that writes no range is one of one bit.
unwritten : (name : Text) (one : Item) → declares name one ≡ true → written_in name one ≡ None → declared_range one ≡ scalar
unwritten name (Decl at dir kind range other) is none =
    ap (λ range. unwrap_or range scalar) (sym (ap (λ b. cond b range None) is) ∙ none)
unwritten name (Assign at left right) is none = refl
unwritten name (Gate at kind gate outs ins) is none = refl
unwritten name (Instance at inner other links) is none = refl
unwritten name (Always at clock body) is none = refl
unwritten name (Initial at other value) is none = refl

-- what an item that writes this range for the name is
record Writes (name : Text) (one : Item) (range : Range) : Type 0 where
  is_declared : declares name one ≡ true
  has_range : declared_range one ≡ range
  short : is_right one ≡ true → is_short (Some range) ≡ true

written : (name : Text) (one : Item) (range : Range) → written_in name one ≡ Some range → Writes name one range
written name (Decl at dir kind range' other) range is = by (bytes_eq other name) refl is
  where
    by : (b : Bool) → bytes_eq other name ≡ b → cond b range' None ≡ Some range → Writes name (Decl at dir kind range' other) range
    by true same is = record {
      is_declared = same;
      has_range = ap (λ written. unwrap_or written scalar) is;
      short = λ right. ap is_short (sym is) ∙ second_is (is_printable other) (is_short range') right;
    }
    by false same is = absurd cc
written name (Assign at left right) range is = absurd cc
written name (Gate at kind gate outs ins) range is = absurd cc
written name (Instance at inner other links) range is = absurd cc
written name (Always at clock body) range is = absurd cc
written name (Initial at other value) range is = absurd cc

span_is : (left right : ℕ) → (left - right) + (right - left) + 1 ≡ max left right - min left right + 1
span_is left right = omega arith

-- ---- the labels of a module

module _ (m : Module) (right : bad_names m ≡ []) (fit : list_all is_right m.items ≡ true) where
  pub input_printable : (name : Text) → is_input m name ≡ true → is_printable name ≡ true
  input_printable name is =
      let one = any_member (declares_input name) m.items is in
      printable_name name one.0 (directs_declares name one.0 (input_directs name one.0 one.2))
      (all_member is_right m.items one.0 fit one.1)

  pub output_printable : (name : Text) → is_output m name ≡ true → is_printable name ≡ true
  output_printable name is =
      let one = any_member (declares_output name) m.items is in
      printable_name name one.0 (directs_declares name one.0 (output_directs name one.0 one.2))
      (all_member is_right m.items one.0 fit one.1)

  module _ (name : Text) (first : Item) (found : find (declares name) m.items ≡ Some first) where
    count_is : bit_count m name ≡ span (declared_range first)
    count_is =
        ap (λ found. unwrap_or (option_map span (option_or (option_map declared_range found)
        (cond (is_implicit m name) (Some scalar) None))) 0) found

    width_by : (range : Option Range) → written_range m name ≡ range → HasWidth range (bit_count m name)
    width_by None none =
        let own = found_has (declares name) m.items first found in
        count_is ∙ ap span (unwritten name first own.1 (no_first (written_in name) m.items first none own.0))
    width_by (Some range) at =
        let one = has_kept (written_in name) m.items range (first_has (filter_map (written_in name) m.items) range at) in
        let writes : Writes name one.0 range = written name one.0 range one.2 in
        let same : declared_range first ≡ range =
        sym (one_range m right name first one.0 found one.1 writes.is_declared) ∙ writes.has_range in
        let short : (nat_le range.left 2147483647 && nat_le range.right 2147483647) ≡ true =
        writes.short (all_member is_right m.items one.0 fit one.1) in (
          count_is ∙ ap span same ∙ span_is range.left range.right,
          leb-true range.left 2147483647 (first_is (nat_le range.left 2147483647) (nat_le range.right 2147483647) short),
          leb-true range.right 2147483647 (second_is (nat_le range.left 2147483647) (nat_le range.right 2147483647) short),
        )

    count_small : bit_count m name ≤ 2147483647
    count_small =
        let narrow : span (declared_range first) ≤ 65536 =
        is_narrow m right first (found_has (declares name) m.items first found).0 in
        let count : bit_count m name ≡ span (declared_range first) = count_is in
        small (bit_count m name) (span (declared_range first)) count narrow
      where
        small : (count width : ℕ) → count ≡ width → width ≤ 65536 → count ≤ 2147483647
        small count width same narrow = omega arith

  pub is_port : (name : Text) → is_input m name ≡ true → IsPort (port_label m name)
  is_port name is =
      let one = any_member (declares_input name) m.items is in
      let first = find_there (declares name) m.items one.0 one.1
      (directs_declares name one.0 (input_directs name one.0 one.2)) in
      (input_printable name is, width_by name first.0 first.1 (written_range m name) refl, count_small name first.0 first.1)
