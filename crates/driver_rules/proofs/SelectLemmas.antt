-- Selects, and the numbers of their names.
use Rattle.std.proofs.Common.{ℕ, ◌+◌, ◌<◌, ◌≡◌, ◌++◌, List, [], ◌∷◌, true, Option, Some, None, IfSome, append_assoc, drop, flat_map, Result, Ok, Err, OnOk, get_or, length, map, slice_get, refl, ap, sym, subst, ◌∙◌}
use Rattle.std.proofs.lemmas.Option.{get_or_from_slice_get}
use Rattle.std.proofs.lemmas.List.Elements.{All-nil}
use Rattle.std.proofs.lemmas.List.{drop_more}
use Rattle.std.proofs.lemmas.List.Quantifiers.{position-Some}
use Rattle.std.specs.Option.{option_map}
use Rattle.std.specs.Str.{bytes_eq}
use Rattle.std.proofs.lemmas.Slice.Eq.{bytes_eq-Decides}
use Rattle.bm_base.specs.declared.range.Range.{Range}
use Rattle.nets.specs.Nets.{Net, net_of, net_with, nets}
use Rattle.vlog_tree.specs.declared.design.Module.{Module}
use Rattle.vlog_tree.specs.Meaning.Ranges.{range_of}
use Rattle.vlog_tree.specs.Meaning.Uses.{Text}
use Rattle.driver_rules.specs.declared.run.Run.{Run}
use Rattle.driver_rules.specs.declared.select.Select.{Select}
use Rattle.driver_rules.specs.Groups.{GroupsAreNumbered}
use Rattle.driver_rules.specs.Selects.{AreNumbered, IsRunOf, number_of}

pub same_bytes : (xs ys : Text) → bytes_eq xs ys ≡ true → xs ≡ ys
same_bytes xs ys is = (bytes_eq-Decides xs ys).0 is

-- the name that has a number
pub named_at : (m : Module) (name other : Text) (net : Net) (number : ℕ) → number_of m name ≡ Some number → slice_get (nets m) number ≡ Some (other, net) → name ≡ other
named_at m name other net number is here =
    same_bytes name other
    (ap (λ (entry : Text × Net). bytes_eq name entry.0) (sym (get_or_from_slice_get (nets m) number (other, net) (other, net) here))
    ∙ (position-Some (λ (entry : Text × Net). bytes_eq name entry.0) (nets m) number (other, net) is).1)

range_in : (m : Module) (name : Text) (range : Option Range) → option_map (λ (net : Net). net.range) (option_map (net_with m name) range) ≡ range
range_in m name None = refl
range_in m name (Some range) = refl

pub range_found : (m : Module) (name other : Text) (net : Net) (number : ℕ) → number_of m name ≡ Some number → slice_get (nets m) number ≡ Some (other, net)
    → net_of m other ≡ Some net → Some net.range ≡ range_of m name
range_found m name other net number is here known =
    sym (ap (option_map (λ (net : Net). net.range)) (ap (net_of m) (named_at m name other net number is here) ∙ known))
    ∙ range_in m name (range_of m name)

-- the number of a name, by its bytes
pub numbered_by : (m : Module) (name other : Text) (number : ℕ) → other ≡ name → Some number ≡ number_of m other → number_of m name ≡ Some number
numbered_by m name other number same is = ap (number_of m) (sym same) ∙ sym is

pub run_of : (m : Module) (name other : Text) (run : Option Run) (bits : Run) → IfSome run (IsRunOf m name) → run ≡ Some bits → other ≡ name → IsRunOf m other bits
run_of m name other run bits holds is same =
    subst (λ text. IsRunOf m text bits) (sym same) (subst (λ (one : Option Run). IfSome one (IsRunOf m name)) is holds)

-- ---- steps

pub then_on_ok : {T E : Type 0} (A B C : Type 0) (outcome : Result T E) → (A → B) → OnOk outcome (B → C) → OnOk outcome (A → C)
then_on_ok A B C (Ok value) first second = λ a. second (first a)
then_on_ok A B C (Err error) first second = tt

-- one item more of a walk that adds to a list what each item has
pub walk_step : {X Y : Type 0} (f : X → List Y) (items : List X) (i : ℕ) (x : X) → i < length items → x ≡ get_or items i x
    → (before between all : List Y) → between ≡ before ++ f x → before ++ flat_map (λ list. list) (map f (drop i items)) ≡ all
    → between ++ flat_map (λ list. list) (map f (drop (i + 1) items)) ≡ all
walk_step f items i x within is before between all added same =
    ap (λ list. list ++ flat_map (λ list. list) (map f (drop (i + 1) items))) added
    ∙ append_assoc before (f x) (flat_map (λ list. list) (map f (drop (i + 1) items)))
    ∙ ap (λ rest. before ++ flat_map (λ list. list) (map f rest)) (sym (drop_more items i x within ∙ ap (λ y. y ∷ drop (i + 1) items) (sym is)))
    ∙ same

pub none_numbered : (m : Module) (groups : List (List Select)) → groups ≡ [] → GroupsAreNumbered m groups
none_numbered m groups is = subst (GroupsAreNumbered m) (sym is) (All-nil (AreNumbered m))
