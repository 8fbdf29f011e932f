-- The names that things have, as they are kept, and what is found wrong so far.
use Rattle.std.specs.Prelude.{List, [], ◌∷◌, Bool, true, false, ◌||◌, Option, None, Some, bytes_eq, cond, filter, fold, map, not}
use Rattle.std.specs.HashMap.{get_by}
use Rattle.hierarchy.specs.Failures.{Failure, earlier, failure}
use Rattle.vlog_tree.specs.declared.design.Module.{Module}
use Rattle.vlog_tree.specs.Meaning.Names.{is_implicit}
use Rattle.vlog_tree.specs.Meaning.Uses.{Text, Use}
use Rattle.name_rules.specs.Declarations.{Thing, thing}
use Rattle.name_rules.specs.declared.owners.Owners.{Owners}

-- what is kept of a name: whether an instance or a gate has it, where something has it
abbrev pub kept_in : Owners → Text → Option Bool
kept_in owners name = get_by (λ key. bytes_eq name key.now) owners.names

-- whether one more thing may not have the name
abbrev pub clashes : Option Bool → Bool → Bool
clashes None is_net = false
clashes (Some has_other) is_net = not is_net || has_other

-- what is kept once one more thing has the name
abbrev pub owned : Option Bool → Bool → Bool
owned None is_net = not is_net
owned (Some has_other) is_net = has_other || not is_net

abbrev pub after_thing : (Text → Option Bool) → Thing → Text → Option Bool
after_thing known this name = cond (bytes_eq this.name name) (Some (owned (known this.name) this.is_net)) (known name)

-- what is found wrong so far, and what is kept of each name
pub record Walk : Type 0 where
  pub found : Option Failure
  pub known : Text → Option Bool

abbrev pub walk : Option Failure → (Text → Option Bool) → Walk
walk found known = record { found = found; known = known }

-- one thing more
abbrev pub take_thing : Module → Walk → Thing → Walk
take_thing m before this =
    walk
    (fold earlier before.found (cond (clashes (before.known this.name) this.is_net) (failure this.at m.name this.name ∷ []) []))
    (after_thing before.known this)

-- the implicit wires among uses
abbrev pub implicit_among : Module → List Use → List Thing
implicit_among m uses = map (λ one. thing one.at one.name true) (filter (λ one. is_implicit m one.name) uses)
