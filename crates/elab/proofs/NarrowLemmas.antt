-- Where the names of a module are kept in order, none is wider than may be.
use Rattle.std.proofs.Common.{◌≡◌, ◌≤◌, ◌+◌, ℕ, suc, List, [], ◌∷◌, ◌++◌, Bool, true, false, not, ◌||◌, ◌&&◌, cond, nat_lt, Option, None, Some, refl, ap, sym, subst, ◌∙◌, arith, add-one, filter, flat_map, fold, length}
use Rattle.std.proofs.lemmas.Bool.{ltb-false}
use Rattle.std.proofs.lemmas.Slice.Eq.{bytes_eq-Decides}
use Rattle.std.specs.List.{find, list_any, range_with_len}
use Rattle.std.specs.Option.{is_some, option_map, option_or, unwrap_or}
use Rattle.std.specs.Str.{bytes_eq}
use Rattle.hierarchy.specs.Failures.{Failure, earlier, earliest, failure, first_refusal}
use Rattle.hierarchy.specs.Reach.{leads, reaches}
use Rattle.name_rules.specs.Declarations.{bad_declaration, bad_declarations, bad_declarations_after, bad_names, bad_ports, declares_again, differs_in_range, is_among, is_bad_declaration, is_input_register, shared_names}
use Rattle.vlog_tree.specs.declared.design.Design.{Design}
use Rattle.vlog_tree.specs.declared.design.Module.{Module}
use Rattle.vlog_tree.specs.declared.item.Item.{Item}
use Rattle.vlog_tree.specs.declared.item.Item.TheVariants.{Always, Assign, Decl, Gate, Initial, Instance}
use Rattle.vlog_tree.specs.Meaning.Instances.{module_named}
use Rattle.vlog_tree.specs.Meaning.Keys.{bit_count}
use Rattle.vlog_tree.specs.Meaning.Names.{declares, is_implicit}
use Rattle.vlog_tree.specs.Meaning.Ranges.{declared_range, scalar, span}
use Rattle.vlog_tree.specs.Meaning.Uses.{Text}
use Rattle.vlog_tree.specs.Meaning.Widths.{greatest}
use Rattle.elab.specs.Refusals.{in_reached, inner_rules}

-- ---- lists without failures

stays : (found : Failure) (failures : List Failure) → fold earlier (Some found) failures ≡ None → ⊥
stays found [] is = cc
stays found (next ∷ failures) is = stays (cond (nat_lt next.at found.at) next found) failures is

none_found : (failures : List Failure) → earliest failures ≡ None → failures ≡ []
none_found [] is = refl
none_found (found ∷ failures) is = absurd (stays found failures is)

first_kept : (rule : ℕ) (failures : List Failure) (rules : List (ℕ × List Failure)) → first_refusal ((rule, failures) ∷ rules) ≡ None → failures ≡ []
first_kept rule failures rules is = none_found failures (by (earliest failures) is)
  where
    by : (found : Option Failure) → option_or (option_map (λ failure. (rule, failure)) found) (first_refusal rules) ≡ None → found ≡ None
    by None is = refl
    by (Some failure) is = absurd cc

left_nil : {X : Type 0} (xs ys : List X) → xs ++ ys ≡ [] → xs ≡ []
left_nil [] ys is = refl
left_nil (x ∷ xs) ys is = absurd cc

right_nil : {X : Type 0} (xs ys : List X) → xs ++ ys ≡ [] → ys ≡ []
right_nil [] ys is = is
right_nil (x ∷ xs) ys is = absurd cc

-- What is found of a list passes what nothing of it fails.
found_kept : {X Y : Type 0} (f : X → List Y) (p q : X → Bool) (xs : List X) (x : X) → flat_map f (filter p xs) ≡ [] → find q xs ≡ Some x → p x ≡ true → f x ≡ []
found_kept f p q [] x none found passes = absurd cc
found_kept f p q (y ∷ ys) x none found passes = by (q y) (p y) refl found none (found_kept f p q ys x)
  where
    here : y ≡ x → p y ≡ true → f y ++ flat_map f (filter p ys) ≡ [] → f x ≡ []
    here same passes none = ap f (sym same) ∙ left_nil (f y) (flat_map f (filter p ys)) none

    by : (a b : Bool) → p y ≡ b → cond a (Some y) (find q ys) ≡ Some x → flat_map f (cond b (y ∷ filter p ys) (filter p ys)) ≡ []
        → (flat_map f (filter p ys) ≡ [] → find q ys ≡ Some x → p x ≡ true → f x ≡ []) → f x ≡ []
    by true true at found none rest = here (ap (λ found. unwrap_or found x) found) at none
    by true false at found none rest = absurd (cc (at, ap p (ap (λ found. unwrap_or found x) found), passes))
    by false true at found none rest = rest (right_nil (f y) (flat_map f (filter p ys)) none) found passes
    by false false at found none rest = rest none found passes

-- ---- the top is reached

same_names : (name other : Text) → bytes_eq name other ≡ true → name ≡ other
same_names name other is = (bytes_eq-Decides name other).0 is

found_named : (modules : List Module) (name : Text) (m : Module) → find (λ m. bytes_eq m.name name) modules ≡ Some m → bytes_eq m.name name ≡ true
found_named [] name m is = absurd cc
found_named (first ∷ modules) name m is = by (bytes_eq first.name name) refl is (found_named modules name m)
  where
    by : (b : Bool) → bytes_eq first.name name ≡ b → cond b (Some first) (find (λ m. bytes_eq m.name name) modules) ≡ Some m
        → (find (λ m. bytes_eq m.name name) modules ≡ Some m → bytes_eq m.name name ≡ true) → bytes_eq m.name name ≡ true
    by true at is rest = ap (λ m. bytes_eq m.name name) (sym (ap (λ found. unwrap_or found m) is)) ∙ at
    by false at is rest = rest is

-- ---- declarations

last_false : (a b c d e : Bool) → (a || (b || (c || (d || e)))) ≡ false → e ≡ false
last_false false false false false e is = is
last_false true b c d e is = absurd cc
last_false false true c d e is = absurd cc
last_false false false true d e is = absurd cc
last_false false false false true e is = absurd cc

not_noted : (b : Bool) (x : Failure) → cond b (x ∷ []) [] ≡ [] → b ≡ false
not_noted false x is = refl
not_noted true x is = absurd cc

not_above : (n : ℕ) → nat_lt greatest n ≡ false → n ≤ 65536
not_above n is = ltb-false greatest n is

narrow_item : (m : Module) (before : List Item) (name : Text) (item : Item) → declares name item ≡ true → bad_declaration m before item ≡ [] → span (declared_range item) ≤ 65536
narrow_item m before name (Decl at dir kind range other) is none =
    not_above (span (unwrap_or range scalar))
    (last_false (list_any (declares_again dir other) before) (is_some dir && not (is_among m.ports other)) (list_any (differs_in_range (unwrap_or range scalar) other) before)
    (is_input_register other (before ++ Decl at dir kind range other ∷ [])) (nat_lt greatest (span (unwrap_or range scalar)))
    (not_noted (is_bad_declaration m before (Decl at dir kind range other) dir range other) (failure at m.name other) none))
narrow_item m before name (Assign at left right) is none = absurd cc
narrow_item m before name (Gate at kind other outs ins) is none = absurd cc
narrow_item m before name (Instance at inner other links) is none = absurd cc
narrow_item m before name (Always at clock body) is none = absurd cc
narrow_item m before name (Initial at other value) is none = absurd cc

narrow_found : (m : Module) (name : Text) (before items : List Item) (item : Item) → bad_declarations_after m before items ≡ [] → find (declares name) items ≡ Some item → span (declared_range item) ≤ 65536
narrow_found m name before [] item none found = absurd cc
narrow_found m name before (this ∷ items) item none found = by (declares name this) refl found (narrow_found m name (before ++ this ∷ []) items item (right_nil (bad_declaration m before this) (bad_declarations_after m (before ++ this ∷ []) items) none))
  where
    by : (b : Bool) → declares name this ≡ b → cond b (Some this) (find (declares name) items) ≡ Some item
        → (find (declares name) items ≡ Some item → span (declared_range item) ≤ 65536) → span (declared_range item) ≤ 65536
    by true at found rest =
        subst (λ item. span (declared_range item) ≤ 65536) (ap (λ found. unwrap_or found item) found)
        (narrow_item m before name this at (left_nil (bad_declaration m before this) (bad_declarations_after m (before ++ this ∷ []) items) none))
    by false at found rest = rest found

-- No name of the module is wider than may be.
narrow_names : (m : Module) → bad_names m ≡ [] → (name : Text) → bit_count m name ≤ 65536
narrow_names m none name = by (find (declares name) m.items) refl (is_implicit m name)
  where
    declared : bad_declarations m ≡ []
    declared = right_nil (bad_ports m) (bad_declarations m) (left_nil (bad_ports m ++ bad_declarations m) (shared_names m) none)

    by : (found : Option Item) → find (declares name) m.items ≡ found → (implicit : Bool)
        → unwrap_or (option_map span (option_or (option_map declared_range found) (cond implicit (Some scalar) None))) 0 ≤ 65536
    by (Some item) at implicit = narrow_found m name [] m.items item declared at
    by None at true = omega arith
    by None at false = omega arith

-- Nor one of the top, where no name of a module that is reached is wrong.
pub narrow_top : (design : Design) (top : Text) (m : Module) → module_named design top ≡ Some m → in_reached design top bad_names ≡ [] → (name : Text) → bit_count m name ≤ 65536
narrow_top design top m is none =
    narrow_names m
    (found_kept bad_names (λ m. reaches design top m.name) (λ m. bytes_eq m.name top) design.modules m none is
    (ap (reaches design top) (same_names m.name top (found_named design.modules top m is)) ∙ here (length design.modules)))
  where
    here : (n : ℕ) → list_any (λ count. leads design count top top) (range_with_len 0 (n + 1)) ≡ true
    here n = subst (λ n. list_any (λ count. leads design count top top) (range_with_len 0 n) ≡ true) (sym (add-one n)) (first n)
      where
        first : (n : ℕ) → list_any (λ count. leads design count top top) (range_with_len 0 (suc n)) ≡ true
        first n = rw ((bytes_eq-Decides top top).1 refl) refl

-- Where the rules on single modules are kept, no name of a module that is reached is wrong.
pub names_kept : (design : Design) (top : Text) → first_refusal (inner_rules design top) ≡ None → in_reached design top bad_names ≡ []
names_kept design top kept = first_kept 4 (in_reached design top bad_names) (others (inner_rules design top)) kept
  where
    others : List (ℕ × List Failure) → List (ℕ × List Failure)
    others [] = []
    others (rule ∷ rules) = rules
