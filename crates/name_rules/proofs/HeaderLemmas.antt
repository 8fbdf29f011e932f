-- A walk over the names of a header.
use Rattle.std.proofs.Common.{ℕ, ◌+◌, ◌<◌, ◌≡◌, ◌++◌, List, [], ◌∷◌, Bool, ◌||◌, not, cond, Option, drop, fold, get_or, length, take, refl, ap, sym, ◌∙◌}
use Rattle.std.specs.List.{list_any}
use Rattle.std.specs.Str.{bytes_eq}
use Rattle.std.proofs.lemmas.List.{take_more}
use Rattle.std.proofs.lemmas.List.Folds.{list_any-append}
use Rattle.hierarchy.specs.Failures.{Failure, earlier, failure}
use Rattle.vlog_tree.specs.declared.design.Module.{Module}
use Rattle.vlog_tree.specs.Meaning.Uses.{Text}
use Rattle.name_rules.specs.Declarations.{bad_ports_after, directs, is_among}
use Rattle.name_rules.specs.Headers.{bad_port_by}
use Rattle.name_rules.proofs.ListLemmas.{after_step}
use Rattle.name_rules.proofs.NameLemmas.{or_false}

-- one name more
pub ports_step : (m : Module) (names : List Text) (i : ℕ) (name : Text) → i < length names → name ≡ get_or names i name
    → (has : Text → Bool) → ((other : Text) → has other ≡ is_among (take i names) other)
    → (found next : Option Failure) → next ≡ fold earlier found (bad_port_by m has name)
    → fold earlier next (bad_ports_after m (take (i + 1) names) (drop (i + 1) names)) ≡ fold earlier found (bad_ports_after m (take i names) (drop i names))
ports_step m names i name within is has kept found next noted =
    after_step (λ before name. bad_port_by m (is_among before) name) (bad_ports_after m) (λ before name rest. refl)
    names i name within is found next
    (noted ∙ ap (λ b. fold earlier found (cond (b || not (list_any (directs name) m.items)) (failure m.at m.name name ∷ []) [])) (kept name))

pub among_step : (names : List Text) (i : ℕ) (name : Text) → i < length names → name ≡ get_or names i name
    → (has next : Text → Bool) → ((other : Text) → has other ≡ is_among (take i names) other)
    → ((other : Text) → next other ≡ (has other || bytes_eq name other))
    → (other : Text) → next other ≡ is_among (take (i + 1) names) other
among_step names i name within is has next kept added other =
    added other
    ∙ ap (λ b. b || bytes_eq name other) (kept other)
    ∙ ap (λ b. is_among (take i names) other || b) (sym (or_false (bytes_eq name other)))
    ∙ sym (list_any-append (λ one. bytes_eq one other) (take i names) (name ∷ []))
    ∙ ap (λ before. is_among before other) (sym (take_more names i name within ∙ ap (λ one. take i names ++ one ∷ []) (sym is)))
