-- The module of a name has that name.
use Rattle.std.proofs.Common.{◌≡◌, ℕ, ◌<◌, List, [], ◌∷◌, Bool, true, false, cond, find, Some, get_or, length, slice_get, refl, sym, ap, ◌∙◌}
use Rattle.std.specs.Str.{bytes_eq}
use Rattle.std.proofs.lemmas.Option.{slice_get_read}
use Rattle.vlog_tree.specs.declared.design.Module.{Module}
use Rattle.vlog_tree.specs.Meaning.Uses.{Text}
use Rattle.clock_rules.proofs.KeptLemmas.{same_bytes}

some_is : {X : Type 0} (x y : X) → Some x ≡ Some y → x ≡ y
some_is x y is = cc

named : (modules : List Module) (name : Text) (m : Module) → find (λ (m : Module). bytes_eq m.name name) modules ≡ Some m → m.name ≡ name
named [] name m found = absurd cc
named (first ∷ modules) name m found = by (bytes_eq first.name name) refl found (named modules name m)
  where
    by : (b : Bool) → bytes_eq first.name name ≡ b → cond b (Some first) (find (λ (m : Module). bytes_eq m.name name) modules) ≡ Some m
        → (find (λ (m : Module). bytes_eq m.name name) modules ≡ Some m → m.name ≡ name) → m.name ≡ name
    by true is this later = sym (ap (λ (m : Module). m.name) (some_is first m this)) ∙ same_bytes first.name name is
    by false is this later = later this

pub name_there : (modules items : List Module) (name : Text) (place : ℕ) (m : Module) → items ≡ modules → place < length modules → m ≡ get_or items place m
    → slice_get modules place ≡ find (λ (m : Module). bytes_eq m.name name) modules → m.name ≡ name
name_there modules items name place m same within is found =
    named modules name m (sym found ∙ slice_get_read modules (length modules) place m refl within (is ∙ ap (λ list. get_or list place m) same))
