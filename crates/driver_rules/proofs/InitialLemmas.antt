-- The walk over the initial values of registers.
use Rattle.std.proofs.Common.{ℕ, ◌+◌, ◌<◌, ◌≡◌, ◌++◌, ◌||◌, List, [], ◌∷◌, Bool, true, false, cond, Option, drop, fold, get_or, length, take, refl, ap, sym, ◌∙◌}
use Rattle.std.proofs.lemmas.List.{take_more}
use Rattle.std.proofs.lemmas.List.Folds.{list_any-append}
use Rattle.std.specs.List.{list_any}
use Rattle.hierarchy.specs.Failures.{Failure, earlier, failure}
use Rattle.vlog_tree.specs.declared.design.Module.{Module}
use Rattle.vlog_tree.specs.declared.item.Item.{Item}
use Rattle.vlog_tree.specs.declared.item.Item.TheVariants as item
use Rattle.vlog_tree.specs.Meaning.Uses.{Text}
use Rattle.driver_rules.specs.Begun.{second_by}
use Rattle.driver_rules.specs.Doubles.{begins, second_initial, second_initials_after}
use Rattle.driver_rules.proofs.ListLemmas.{after_step}

second_told : (m : Module) (before : List Item) (has : Text → Bool) → ((name : Text) → has name ≡ list_any (begins name) before) → (i : Item)
    → second_by m has i ≡ second_initial m before i
second_told m before has known (item.Decl at dir kind range name) = refl
second_told m before has known (item.Assign at left right) = refl
second_told m before has known (item.Gate at kind name outs ins) = refl
second_told m before has known (item.Instance at inner name links) = refl
second_told m before has known (item.Always at clock body) = refl
second_told m before has known (item.Initial at name value) = ap (λ b. cond b (failure at m.name name ∷ []) []) (known name)

pub initials_step : (m : Module) (items : List Item) (i : ℕ) (one : Item) → i < length items → one ≡ get_or items i one
    → (has : Text → Bool) → ((name : Text) → has name ≡ list_any (begins name) (take i items))
    → (found next : Option Failure) → next ≡ fold earlier found (second_by m has one)
    → fold earlier next (second_initials_after m (take (i + 1) items) (drop (i + 1) items)) ≡ fold earlier found (second_initials_after m (take i items) (drop i items))
initials_step m items i one within is has known found next noted =
    after_step (second_initial m) (second_initials_after m) (λ before x rest. refl) items i one within is found next
    (noted ∙ ap (fold earlier found) (second_told m (take i items) has known one))

pub begun_step : (items : List Item) (i : ℕ) (one : Item) → i < length items → one ≡ get_or items i one
    → (has now : Text → Bool) → ((name : Text) → has name ≡ list_any (begins name) (take i items)) → ((name : Text) → now name ≡ (has name || begins name one))
    → (name : Text) → now name ≡ list_any (begins name) (take (i + 1) items)
begun_step items i one within is has now known added name =
    added name
    ∙ ap (λ b. b || begins name one) (known name)
    ∙ ap (λ b. list_any (begins name) (take i items) || b) (or_false (begins name one))
    ∙ sym (list_any-append (begins name) (take i items) (one ∷ []))
    ∙ ap (list_any (begins name)) (sym (take_more items i one within ∙ ap (λ x. take i items ++ x ∷ []) (sym is)))
  where
    or_false : (b : Bool) → b ≡ (b || false)
    or_false true = refl
    or_false false = refl

pub or_other : (is had : Bool) → cond is true had ≡ (had || is)
or_other true true = refl
or_other true false = refl
or_other false true = refl
or_other false false = refl
