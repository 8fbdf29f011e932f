-- A walk over the things of a module that have names.
use Rattle.std.proofs.Common.{◌≡◌, ◌++◌, List, [], ◌∷◌, Bool, true, false, not, ◌||◌, ◌&&◌, cond, Option, Some, None, fold, refl, sym, ap, ◌∙◌}
use Rattle.std.specs.List.{list_any}
use Rattle.std.specs.Str.{bytes_eq}
use Rattle.std.proofs.lemmas.List.Folds.{list_any-append}
use Rattle.std.proofs.lemmas.List.Sums.{fold-append}
use Rattle.hierarchy.specs.Failures.{Failure, earlier, failure}
use Rattle.vlog_tree.specs.declared.design.Module.{Module}
use Rattle.vlog_tree.specs.Meaning.Uses.{Text}
use Rattle.name_rules.specs.Declarations.{Thing, clash, shared_after}
use Rattle.name_rules.specs.Owners.{after_thing, clashes, owned, take_thing, walk}
use Rattle.name_rules.proofs.NameLemmas.{bytes_eq_sym, or_false, same_bytes}

-- walks that are the same, part by part
pub same_walk : (found other : Option Failure) (known kept : Text → Option Bool) → found ≡ other → ((name : Text) → known name ≡ kept name)
    → walk found known ≡ walk other kept
same_walk found other known kept is same = λ j. record { found = is j; known = λ name. same name j }

owned_clashes : (known : Option Bool) (is_net this_net : Bool)
    → clashes (Some (owned known is_net)) this_net ≡ (clashes known this_net || not (this_net && is_net))
owned_clashes None true true = refl
owned_clashes None true false = refl
owned_clashes None false true = refl
owned_clashes None false false = refl
owned_clashes (Some true) true true = refl
owned_clashes (Some true) true false = refl
owned_clashes (Some true) false true = refl
owned_clashes (Some true) false false = refl
owned_clashes (Some false) true true = refl
owned_clashes (Some false) true false = refl
owned_clashes (Some false) false true = refl
owned_clashes (Some false) false false = refl

-- whether a thing clashes with those before it and one more
clash_more : (known : Text → Option Bool) (this other : Thing)
    → clashes (after_thing known other this.name) this.is_net ≡ (clashes (known this.name) this.is_net || clash this other)
clash_more known this other =
    by (bytes_eq other.name this.name) refl
    ∙ ap (λ b. clashes (known this.name) this.is_net || (b && not (this.is_net && other.is_net))) (bytes_eq_sym other.name this.name)
  where
    by : (b : Bool) → bytes_eq other.name this.name ≡ b
        → clashes (cond b (Some (owned (known other.name) other.is_net)) (known this.name)) this.is_net
        ≡ (clashes (known this.name) this.is_net || (b && not (this.is_net && other.is_net)))
    by true is =
        ap (λ name. clashes (Some (owned (known name) other.is_net)) this.is_net) (same_bytes other.name this.name is)
        ∙ owned_clashes (known this.name) other.is_net this.is_net
    by false is = sym (or_false (clashes (known this.name) this.is_net))

shared_told_after : (m : Module) (before rest : List Thing) (found : Option Failure) (known : Text → Option Bool)
    → ((this : Thing) → clashes (known this.name) this.is_net ≡ list_any (clash this) before)
    → (fold (take_thing m) (walk found known) rest).found ≡ fold earlier found (shared_after m before rest)
shared_told_after m before [] found known told = refl
shared_told_after m before (this ∷ rest) found known told =
    shared_told_after m (before ++ this ∷ []) rest
    (fold earlier found (cond (clashes (known this.name) this.is_net) (failure this.at m.name this.name ∷ []) []))
    (after_thing known this)
    (λ next.
    clash_more known next this
    ∙ ap (λ b. b || clash next this) (told next)
    ∙ ap (λ b. list_any (clash next) before || b) (sym (or_false (clash next this)))
    ∙ sym (list_any-append (clash next) before (this ∷ [])))
    ∙ ap (λ b. fold earlier (fold earlier found (cond b (failure this.at m.name this.name ∷ []) [])) (shared_after m (before ++ this ∷ []) rest)) (told this)
    ∙ sym (fold-append earlier found (cond (list_any (clash this) before) (failure this.at m.name this.name ∷ []) []) (shared_after m (before ++ this ∷ []) rest))

pub shared_told : (m : Module) (things : List Thing) (found : Option Failure) (known : Text → Option Bool) → ((name : Text) → known name ≡ None)
    → (fold (take_thing m) (walk found known) things).found ≡ fold earlier found (shared_after m [] things)
shared_told m things found known none = shared_told_after m [] things found known (λ this. ap (λ kept. clashes kept this.is_net) (none this.name))
