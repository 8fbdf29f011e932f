-- In a module whose names are right the declarations of a name agree.
use Rattle.std.proofs.Common.{◌≡◌, ◌≤◌, ◌⊎◌, inl, inr, ℕ, zero, suc, ◌==◌, List, [], ◌∷◌, ◌++◌, Bool, true, false, not, ◌&&◌, ◌||◌, cond, Option, None, Some, refl, ap, sym, subst, ◌∙◌, arith, is_some, nat_lt}
use Rattle.std.specs.List.{find, list_any}
use Rattle.std.specs.Option.{unwrap_or}
use Rattle.std.specs.Str.{bytes_eq}
use Rattle.std.proofs.lemmas.Bool.{eqb-true, false≢true, ltb-false}
use Rattle.bm_base.specs.declared.range.Range.{Range}
use Rattle.design_laws.proofs.Members.{Has, any_by, has_cases, has_left, has_none, has_right, left_none, not_noted, right_none, some_same}
use Rattle.design_laws.proofs.Reaching.{same_text}
use Rattle.hierarchy.specs.Failures.{failure}
use Rattle.name_rules.specs.Declarations.{bad_declaration, bad_declarations, bad_declarations_after, bad_names, bad_ports, declares_again, differs_in_range, directs, is_among, is_bad_declaration, is_input_register, same_range, shared_names}
use Rattle.vlog_tree.specs.declared.design.Module.{Module}
use Rattle.vlog_tree.specs.declared.item.Dir.{Dir}
use Rattle.vlog_tree.specs.declared.item.Dir.TheVariants.{Input, Output}
use Rattle.vlog_tree.specs.declared.item.Item.{Item}
use Rattle.vlog_tree.specs.declared.item.Item.TheVariants.{Always, Assign, Decl, Gate, Initial, Instance}
use Rattle.vlog_tree.specs.declared.item.NetKind.{NetKind}
use Rattle.vlog_tree.specs.Meaning.Names.{declares, declares_input, declares_output}
use Rattle.vlog_tree.specs.Meaning.Ranges.{declared_range, scalar, span}
use Rattle.vlog_tree.specs.Meaning.Uses.{Text}
use Rattle.vlog_tree.specs.Meaning.Widths.{greatest}

-- ---- tests

none_passes : {X : Type 0} (test : X → Bool) (xs : List X) (x : X) → list_any test xs ≡ false → Has xs x → test x ≡ true → ⊥
none_passes test xs x none has passes = false≢true (sym none ∙ any_by test xs x has passes)

-- the first, the third and the last of five tests none of which holds
record AreClear (first third last : Bool) : Type 0 where
  no_first : first ≡ false
  no_third : third ≡ false
  no_last : last ≡ false

clear_of : (a b c d e : Bool) → (a || (b || (c || (d || e)))) ≡ false → AreClear a c e
clear_of false false false false e is = record { no_first = refl; no_third = refl; no_last = is }
clear_of false false false true e is = absurd cc
clear_of false false true d e is = absurd cc
clear_of false true c d e is = absurd cc
clear_of true b c d e is = absurd cc

-- ---- ranges

abbrev range_with : ℕ → ℕ → Range
range_with left right = record { left = left; right = right }

same_ranges : (one other : Range) → same_range one other ≡ true → one ≡ other
same_ranges one other is =
    by (one.left == other.left) (one.right == other.right) (eqb-true one.left other.left) (eqb-true one.right other.right) is
  where
    by : (left right : Bool) → (left ≡ true → one.left ≡ other.left) → (right ≡ true → one.right ≡ other.right)
        → (left && right) ≡ true → one ≡ other
    by true true same_left same_right is =
        ap (λ left. range_with left one.right) (same_left refl) ∙ ap (λ right. range_with other.left right) (same_right refl)
    by true false same_left same_right is = absurd cc
    by false right same_left same_right is = absurd cc

module _ (m : Module) where
  own_clear : (before : List Item) (at : ℕ) (dir : Option Dir) (kind : NetKind) (range : Option Range) (name : Text)
      → bad_declaration m before (Decl at dir kind range name) ≡ []
      → AreClear (list_any (declares_again dir name) before) (list_any (differs_in_range (unwrap_or range scalar) name) before)
      (nat_lt greatest (span (unwrap_or range scalar)))
  own_clear before at dir kind range name none =
      clear_of (list_any (declares_again dir name) before) (is_some dir && not (is_among m.ports name))
      (list_any (differs_in_range (unwrap_or range scalar) name) before)
      (is_input_register name (before ++ Decl at dir kind range name ∷ [])) (nat_lt greatest (span (unwrap_or range scalar)))
      (not_noted (is_bad_declaration m before (Decl at dir kind range name) dir range name) (failure at m.name name) none)

  -- ---- a declaration and those before it

  module _ (name : Text) where
    -- A name has one declaration with a direction.
    no_second : (before : List Item) (later earlier : Item) → bad_declaration m before later ≡ [] → directs name later ≡ true
        → Has before earlier → directs name earlier ≡ true → ⊥
    no_second before (Decl at (Some dir) kind range other) earlier none is has earlier_is =
        none_passes (directs name) before earlier
        (subst (λ text. list_any (directs text) before ≡ false) (same_text other name is)
        (own_clear before at (Some dir) kind range other none).no_first) has earlier_is
    no_second before (Decl at None kind range other) earlier none is has earlier_is = false≢true is
    no_second before (Assign at left right) earlier none is has earlier_is = false≢true is
    no_second before (Gate at kind gate outs ins) earlier none is has earlier_is = false≢true is
    no_second before (Instance at inner other links) earlier none is has earlier_is = false≢true is
    no_second before (Always at clock body) earlier none is has earlier_is = false≢true is
    no_second before (Initial at other value) earlier none is has earlier_is = false≢true is

    agrees : (range : Range) (one : Item) → declares name one ≡ true → (differs_in_range range name one ≡ true → ⊥)
        → declared_range one ≡ range
    agrees range (Decl at dir kind written other) is same =
        same_ranges (unwrap_or written scalar) range
        (by (bytes_eq other name) (same_range (unwrap_or written scalar) range) is same)
      where
        by : (a b : Bool) → a ≡ true → ((a && not b) ≡ true → ⊥) → b ≡ true
        by true true is same = refl
        by true false is same = absurd (same refl)
        by false b is same = absurd (false≢true is)
    agrees range (Assign at left right) is same = absurd (false≢true is)
    agrees range (Gate at kind gate outs ins) is same = absurd (false≢true is)
    agrees range (Instance at inner other links) is same = absurd (false≢true is)
    agrees range (Always at clock body) is same = absurd (false≢true is)
    agrees range (Initial at other value) is same = absurd (false≢true is)

    -- One that comes later has the same range.
    later_agrees : (before : List Item) (later earlier : Item) → bad_declaration m before later ≡ [] → declares name later ≡ true
        → Has before earlier → declares name earlier ≡ true → declared_range earlier ≡ declared_range later
    later_agrees before (Decl at dir kind range other) earlier none is has earlier_is =
        agrees (unwrap_or range scalar) earlier earlier_is
        (none_passes (differs_in_range (unwrap_or range scalar) name) before earlier
        (subst (λ text. list_any (differs_in_range (unwrap_or range scalar) text) before ≡ false) (same_text other name is)
        (own_clear before at dir kind range other none).no_third) has)
    later_agrees before (Assign at left right) earlier none is has earlier_is = absurd (false≢true is)
    later_agrees before (Gate at kind gate outs ins) earlier none is has earlier_is = absurd (false≢true is)
    later_agrees before (Instance at inner other links) earlier none is has earlier_is = absurd (false≢true is)
    later_agrees before (Always at clock body) earlier none is has earlier_is = absurd (false≢true is)
    later_agrees before (Initial at other value) earlier none is has earlier_is = absurd (false≢true is)

  -- ---- all declarations

  abbrev later_failures : List Item → Item → List Item → Type 0
  later_failures before this rest = bad_declarations_after m (before ++ this ∷ []) rest ≡ []

  moved : (before : List Item) (this : Item) (rest : List Item) → bad_declarations_after m before (this ∷ rest) ≡ []
      → later_failures before this rest
  moved before this rest none = right_none (bad_declaration m before this) (bad_declarations_after m (before ++ this ∷ []) rest) none

  -- A member has nothing wrong by the items before it, among which is each of those before all.
  member_clear : (before rest : List Item) (later : Item) → bad_declarations_after m before rest ≡ [] → Has rest later
      → (known : List Item) × (bad_declaration m known later ≡ []) × ((earlier : Item) → Has before earlier → Has known earlier)
  member_clear before [] later none has = absurd (has_none later has)
  member_clear before (this ∷ rest) later none (zero, is) = (
    before,
    subst (λ one. bad_declaration m before one ≡ []) (some_same this later is)
        (left_none (bad_declaration m before this) (bad_declarations_after m (before ++ this ∷ []) rest) none),
    λ earlier has. has,
  )
  member_clear before (this ∷ rest) later none (suc i, is) =
      let found = member_clear (before ++ this ∷ []) rest later (moved before this rest none) (i, is) in
      (found.0, found.1, λ earlier has. found.2 earlier (has_left before (this ∷ []) earlier has))

  module _ (name : Text) where
    -- All declarations of the name have the range of the first.
    first_range : (before rest : List Item) (first one : Item) → bad_declarations_after m before rest ≡ []
        → find (declares name) rest ≡ Some first → Has rest one → declares name one ≡ true
        → declared_range one ≡ declared_range first
    first_range before [] first one none is has one_is = absurd (has_none one has)
    first_range before (this ∷ rest) first one none is has one_is =
        by (declares name this) refl is (has_cases this rest one has)
        (λ is later. first_range (before ++ this ∷ []) rest first one (moved before this rest none) is later one_is)
      where
        after : declares name this ≡ true → Has rest one → declared_range this ≡ declared_range one
        after this_is later =
            let found = member_clear (before ++ this ∷ []) rest one (moved before this rest none) later in
            later_agrees name found.0 one this found.1 one_is
            (found.2 this (has_right before (this ∷ []) this (0, refl))) this_is

        by : (b : Bool) → declares name this ≡ b → cond b (Some this) (find (declares name) rest) ≡ Some first
            → (this ≡ one) ⊎ Has rest one
            → (find (declares name) rest ≡ Some first → Has rest one → declared_range one ≡ declared_range first)
            → declared_range one ≡ declared_range first
        by true at is (inl same) more = ap declared_range (sym same ∙ some_same this first is)
        by true at is (inr later) more = sym (after at later) ∙ ap declared_range (some_same this first is)
        by false at is (inl same) more = absurd (false≢true (sym at ∙ ap (declares name) same ∙ one_is))
        by false at is (inr later) more = more is later

    -- Declarations of the name with a direction are one.
    directed_once : (before rest : List Item) (one other : Item) → bad_declarations_after m before rest ≡ [] → Has rest one
        → Has rest other → directs name one ≡ true → directs name other ≡ true → one ≡ other
    directed_once before [] one other none has other_has is other_is = absurd (has_none one has)
    directed_once before (this ∷ rest) one other none has other_has is other_is =
        by (has_cases this rest one has) (has_cases this rest other other_has)
        (λ has other_has. directed_once (before ++ this ∷ []) rest one other (moved before this rest none) has other_has is other_is)
      where
        apart : (later : Item) → Has rest later → directs name later ≡ true → directs name this ≡ true → ⊥
        apart later has later_is this_is =
            let found = member_clear (before ++ this ∷ []) rest later (moved before this rest none) has in
            no_second name found.0 later this found.1 later_is (found.2 this (has_right before (this ∷ []) this (0, refl))) this_is

        by : (this ≡ one) ⊎ Has rest one → (this ≡ other) ⊎ Has rest other → (Has rest one → Has rest other → one ≡ other)
            → one ≡ other
        by (inl same) (inl same_other) more = sym same ∙ same_other
        by (inl same) (inr later) more = absurd (apart other later other_is (ap (directs name) same ∙ is))
        by (inr later) (inl same_other) more = absurd (apart one later is (ap (directs name) same_other ∙ other_is))
        by (inr later) (inr later_other) more = more later later_other

  -- No declared range has more bits than a name may have.
  own_narrow : (before : List Item) (one : Item) → bad_declaration m before one ≡ [] → span (declared_range one) ≤ 65536
  own_narrow before (Decl at dir kind range name) none =
      ltb-false greatest (span (unwrap_or range scalar)) (own_clear before at dir kind range name none).no_last
  own_narrow before (Assign at left right) none = omega arith
  own_narrow before (Gate at kind gate outs ins) none = omega arith
  own_narrow before (Instance at inner other links) none = omega arith
  own_narrow before (Always at clock body) none = omega arith
  own_narrow before (Initial at other value) none = omega arith

-- ---- directions

pub input_directs : (name : Text) (one : Item) → declares_input name one ≡ true → directs name one ≡ true
input_directs name (Decl at (Some Input) kind range other) is = is
input_directs name (Decl at (Some Output) kind range other) is = absurd (false≢true is)
input_directs name (Decl at None kind range other) is = absurd (false≢true is)
input_directs name (Assign at left right) is = is
input_directs name (Gate at kind gate outs ins) is = is
input_directs name (Instance at inner other links) is = is
input_directs name (Always at clock body) is = is
input_directs name (Initial at other value) is = is

pub output_directs : (name : Text) (one : Item) → declares_output name one ≡ true → directs name one ≡ true
output_directs name (Decl at (Some Output) kind range other) is = is
output_directs name (Decl at (Some Input) kind range other) is = absurd (false≢true is)
output_directs name (Decl at None kind range other) is = absurd (false≢true is)
output_directs name (Assign at left right) is = is
output_directs name (Gate at kind gate outs ins) is = is
output_directs name (Instance at inner other links) is = is
output_directs name (Always at clock body) is = is
output_directs name (Initial at other value) is = is

pub directs_declares : (name : Text) (one : Item) → directs name one ≡ true → declares name one ≡ true
directs_declares name (Decl at (Some dir) kind range other) is = is
directs_declares name (Decl at None kind range other) is = absurd (false≢true is)
directs_declares name (Assign at left right) is = is
directs_declares name (Gate at kind gate outs ins) is = is
directs_declares name (Instance at inner other links) is = is
directs_declares name (Always at clock body) is = is
directs_declares name (Initial at other value) is = is

not_both : (name : Text) (one : Item) → declares_input name one ≡ true → declares_output name one ≡ true → ⊥
not_both name (Decl at (Some Input) kind range other) is other_is = false≢true other_is
not_both name (Decl at (Some Output) kind range other) is other_is = false≢true is
not_both name (Decl at None kind range other) is other_is = false≢true is
not_both name (Assign at left right) is other_is = false≢true is
not_both name (Gate at kind gate outs ins) is other_is = false≢true is
not_both name (Instance at inner other links) is other_is = false≢true is
not_both name (Always at clock body) is other_is = false≢true is
not_both name (Initial at other value) is other_is = false≢true is

-- ---- a module whose names are right

module _ (m : Module) (right : bad_names m ≡ []) where
  no_bad : bad_declarations m ≡ []
  no_bad = right_none (bad_ports m) (bad_declarations m) (left_none (bad_ports m ++ bad_declarations m) (shared_names m) right)

  pub one_range : (name : Text) (first one : Item) → find (declares name) m.items ≡ Some first → Has m.items one
      → declares name one ≡ true → declared_range one ≡ declared_range first
  one_range name first one is has one_is = first_range m name [] m.items first one no_bad is has one_is

  pub is_narrow : (one : Item) → Has m.items one → span (declared_range one) ≤ 65536
  is_narrow one has =
      let found = member_clear m [] m.items one no_bad has in
      own_narrow m found.0 one found.1

  -- What is declared an input is not declared an output.
  pub input_no_output : (name : Text) (input output : Item) → Has m.items input → Has m.items output
      → declares_input name input ≡ true → declares_output name output ≡ true → ⊥
  input_no_output name input output has other_has is other_is =
      let same : input ≡ output =
      directed_once m name [] m.items input output no_bad has other_has (input_directs name input is)
      (output_directs name output other_is) in
      not_both name output (ap (declares_input name) (sym same) ∙ is) other_is
