-- Sets that keep what is driven so far.
use Rattle.std.proofs.Common.{ℕ, ◌+◌, ◌-◌, ◌<◌, ◌≤◌, ◌≡◌, ◌++◌, ◌==◌, ◌&&◌, ◌||◌, List, [], ◌∷◌, Bool, true, false, Option, Some, Result, Ok, Err, OnOk, append_assoc, append-nil, get_or, length, nat_le, nat_lt, take, refl, ap, ap₂, sym, subst, ◌∙◌, arith}
use Rattle.std.proofs.lemmas.Bool.Decides.{nat_tests}
use Rattle.std.proofs.lemmas.Grind.{flat_map-append}
use Rattle.std.proofs.lemmas.List.{map-append, take_more}
use Rattle.std.proofs.lemmas.List.Elements.{All-get_or, All-head, All-nil, All-push, All-tail}
use Rattle.std.proofs.lemmas.List.Quantifiers.{position-Some}
use Rattle.std.proofs.lemmas.Slice.Eq.{bytes_eq-Decides}
use Rattle.std.specs.List.{list_any}
use Rattle.std.specs.Str.{bytes_eq}
use Rattle.vlog_tree.specs.declared.design.Module.{Module}
use Rattle.vlog_tree.specs.Meaning.Uses.{Text}
use Rattle.nets.specs.Declaring.{implicit_net}
use Rattle.nets.specs.Nets.{Net, nets}
use Rattle.driver_rules.specs.declared.run.Run.{Run}
use Rattle.driver_rules.specs.declared.select.Select.{Select}
use Rattle.driver_rules.specs.Doubles.{Assigned, overlap}
use Rattle.driver_rules.specs.Driven.{Has, overlaps_any, runs_of}
use Rattle.driver_rules.specs.Groups.{GroupsAreNumbered, groups_shown, joined}
use Rattle.driver_rules.specs.Runs.{Keeps, meets}
use Rattle.driver_rules.specs.Selects.{AreNumbered, IsRunOf, assigned, bits_of, number_of, shown}
use Rattle.driver_rules.proofs.SelectLemmas.{same_bytes}

abbrev nothing : Text × Net
nothing = ([], implicit_net 0)

-- the name at a number
numbered_name : (m : Module) (name : Text) (number : ℕ) → number_of m name ≡ Some number → name ≡ (get_or (nets m) number nothing).0
numbered_name m name number is =
    same_bytes name (get_or (nets m) number nothing).0 ((position-Some (λ (entry : Text × Net). bytes_eq name entry.0) (nets m) number nothing is).1)

-- names are one exactly where their numbers are
same_number : (m : Module) (name other : Text) (number next : ℕ) → number_of m name ≡ Some number → number_of m other ≡ Some next → (number == next) ≡ bytes_eq name other
same_number m name other number next is there = by (bytes_eq name other) refl (number == next) refl
  where
    by : (b : Bool) → bytes_eq name other ≡ b → (e : Bool) → (number == next) ≡ e → e ≡ b
    by true same true h = refl
    by false same false h = refl
    by true same false h =
        let both : Some number ≡ Some next = sym is ∙ ap (number_of m) (same_bytes name other same) ∙ there in
        let equal : number ≡ next = cc in
        absurd (let k : ⊥ = grind (arith, nat_tests) in k)
    by false same true h =
        let equal : number ≡ next = grind (arith, nat_tests) in
        let one : name ≡ other = numbered_name m name number is ∙ ap (λ n. (get_or (nets m) n nothing).0) equal ∙ sym (numbered_name m other next there) in
        sym ((bytes_eq-Decides name other).1 one) ∙ same

up_to : (a first last : ℕ) → first ≤ last → nat_le a last ≡ nat_lt a (first + (last - first + 1))
up_to a first last h = grind (arith, nat_tests)

-- bits by numbers and by names
meets_told : (m : Module) (name other : Text) (run next : Run) → IsRunOf m name run → IsRunOf m other next
    → meets run next ≡ overlap (bits_of name run) (bits_of other next)
meets_told m name other run next this that =
    ap (λ b. b && (nat_le run.first next.last && nat_le next.first run.last)) (same_number m name other run.net next.net this.numbered that.numbered)
    ∙ ap (λ b. bytes_eq name other && (b && nat_le next.first run.last)) (up_to run.first next.first next.last that.forward)
    ∙ ap (λ b. bytes_eq name other && (nat_lt run.first (next.first + (next.last - next.first + 1)) && b)) (up_to next.first run.first run.last this.forward)

any_told : (m : Module) (select : Select) → IsRunOf m select.name.now select.bits → (selects : List Select) → AreNumbered m selects
    → list_any (meets select.bits) (runs_of selects) ≡ overlaps_any (shown selects) (assigned select)
any_told m select this [] all = refl
any_told m select this (other ∷ selects) all =
    ap₂ ◌||◌
    (meets_told m select.name.now other.name.now select.bits other.bits this (All-head (λ (one : Select). IsRunOf m one.name.now one.bits) other selects all))
    (any_told m select this selects (All-tail (λ (one : Select). IsRunOf m one.name.now one.bits) other selects all))

pub has_told : (kept : ℕ → ℕ → Option ℕ) (select : Select) (result : Bool) → ((all : List Run) → Keeps kept all → result ≡ list_any (meets select.bits) all)
    → (m : Module) (before : List Assigned) → IsRunOf m select.name.now select.bits → Has m kept before → result ≡ overlaps_any before (assigned select)
has_told kept select result told m before this has =
    told (runs_of has.selects) has.keeps ∙ any_told m select this has.selects has.numbered ∙ ap (λ list. overlaps_any list (assigned select)) has.is

has_more : (kept after : ℕ → ℕ → Option ℕ) (select : Select) → ((all : List Run) → Keeps kept all → Keeps after (all ++ select.bits ∷ []))
    → (m : Module) (before : List Assigned) → IsRunOf m select.name.now select.bits → Has m kept before → Has m after (before ++ assigned select ∷ [])
has_more kept after select adds m before this has = record {
  selects = has.selects ++ select ∷ [];
  numbered = All-push (λ (one : Select). IsRunOf m one.name.now one.bits) has.selects select has.numbered this;
  is = map-append assigned has.selects (select ∷ []) ∙ ap (λ list. list ++ assigned select ∷ []) has.is;
  keeps = subst (Keeps after) (sym (map-append (λ (one : Select). one.bits) has.selects (select ∷ []))) (adds (runs_of has.selects) has.keeps);
}

pub has_more_if : {T E : Type 0} (outcome : Result T E) (kept after : ℕ → ℕ → Option ℕ) (select : Select)
    → OnOk outcome ((all : List Run) → Keeps kept all → Keeps after (all ++ select.bits ∷ []))
    → OnOk outcome ((m : Module) (before : List Assigned) → IsRunOf m select.name.now select.bits → Has m kept before → Has m after (before ++ assigned select ∷ []))
has_more_if (Ok value) kept after select adds = has_more kept after select adds
has_more_if (Err error) kept after select adds = tt

pub has_none : (m : Module) (kept : ℕ → ℕ → Option ℕ) → Keeps kept [] → Has m kept []
has_none m kept keeps = record {
  selects = [];
  numbered = All-nil (λ (one : Select). IsRunOf m one.name.now one.bits);
  is = refl;
  keeps = keeps;
}

-- ---- walks over lists of selects and of groups

pub shown_more : (selects : List Select) (i : ℕ) (select : Select) → i < length selects → select ≡ get_or selects i select
    → (before : List Assigned) → (before ++ shown (take i selects)) ++ assigned select ∷ [] ≡ before ++ shown (take (i + 1) selects)
shown_more selects i select within is before =
    append_assoc before (shown (take i selects)) (assigned select ∷ [])
    ∙ ap (λ list. before ++ list) (sym (map-append assigned (take i selects) (select ∷ [])))
    ∙ ap (λ list. before ++ shown list) (sym (take_more selects i select within ∙ ap (λ one. take i selects ++ one ∷ []) (sym is)))

pub groups_more : (groups : List (List Select)) (i : ℕ) (group : List Select) → i < length groups → group ≡ get_or groups i group
    → (before : List Assigned) → (before ++ joined (groups_shown (take i groups))) ++ shown group ≡ before ++ joined (groups_shown (take (i + 1) groups))
groups_more groups i group within is before =
    append_assoc before (joined (groups_shown (take i groups))) (shown group)
    ∙ ap (λ list. before ++ (joined (groups_shown (take i groups)) ++ list)) (sym (append-nil (shown group)))
    ∙ ap (λ list. before ++ list) (sym (flat_map-append (λ (list : List Assigned). list) (groups_shown (take i groups)) (shown group ∷ [])))
    ∙ ap (λ lists. before ++ joined lists) (sym (map-append shown (take i groups) (group ∷ [])))
    ∙ ap (λ list. before ++ joined (groups_shown list)) (sym (take_more groups i group within ∙ ap (λ one. take i groups ++ one ∷ []) (sym is)))

-- the item of a walk has what all have
pub numbered_at : (m : Module) (selects : List Select) (i : ℕ) (select : Select) → i < length selects → select ≡ get_or selects i select
    → AreNumbered m selects → IsRunOf m select.name.now select.bits
numbered_at m selects i select within is all =
    subst (λ (one : Select). IsRunOf m one.name.now one.bits) (sym is) (All-get_or (λ (one : Select). IsRunOf m one.name.now one.bits) selects i select within all)

pub group_at : (m : Module) (groups : List (List Select)) (i : ℕ) (group : List Select) → i < length groups → group ≡ get_or groups i group
    → GroupsAreNumbered m groups → AreNumbered m group
group_at m groups i group within is all = subst (AreNumbered m) (sym is) (All-get_or (AreNumbered m) groups i group within all)

-- ---- two sets

pub by_first : (first one other : Bool) → first ≡ one → first ≡ true → first ≡ (one || other)
by_first first one other is true_first = is ∙ by one (sym is ∙ true_first)
  where
    by : (one : Bool) → one ≡ true → one ≡ (one || other)
    by true one_is = refl
    by false one_is = absurd (cc)

pub by_second : (first second one other : Bool) → first ≡ one → first ≡ false → second ≡ other → second ≡ (one || other)
by_second first second one other is false_first same = same ∙ ap (λ b. b || other) (sym false_first ∙ is)
