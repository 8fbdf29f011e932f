-- The places at which rules of elaboration fail.
use Rattle.std.specs.Prelude.{ℕ, List, [], ◌∷◌, Option, None, Some, cond, fold, nat_lt, option_map}
use Rattle.std.specs.Option.{option_or}
use Rattle.vlog_tree.specs.Meaning.Uses.{Text}

-- a place of the source, with what is printed: the module, which is empty where the name is printed alone, and the name
-- within it
pub record Failure : Type 0 where
  pub at : ℕ
  pub module_name : Text
  pub name : Text

abbrev pub failure : ℕ → Text → Text → Failure
failure at module_name name = record { at = at; module_name = module_name; name = name }

-- the one that stands first, and the one before where both stand at one place
abbrev pub earlier : Option Failure → Failure → Option Failure
earlier None next = Some next
earlier (Some found) next = Some (cond (nat_lt next.at found.at) next found)

-- the first in source order
abbrev pub earliest : List Failure → Option Failure
earliest failures = fold earlier None failures

-- Rules by their numbers, each with the places at which it fails: the first rule that fails, with its first place.
abbrev pub first_refusal : List (ℕ × List Failure) → Option (ℕ × Failure)
first_refusal [] = None
first_refusal (rule ∷ rules) =
    option_or (option_map (λ failure. (rule.0, failure)) (earliest rule.1)) (first_refusal rules)
