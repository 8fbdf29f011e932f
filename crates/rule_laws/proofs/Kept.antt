-- Rules none of which fails.
use Rattle.std.proofs.Common.{◌≡◌, ℕ, zero, suc, List, [], ◌∷◌, Option, None, Some, refl, ap, sym, ◌∙◌, cond, fold, nat_lt, slice_get}
use Rattle.std.specs.Option.{option_map, option_or}
use Rattle.hierarchy.specs.Failures.{Failure, earlier, earliest, first_refusal}
use Rattle.design_laws.specs.Kept.{Keeps}
use Rattle.design_laws.proofs.Members.{some_same}
use Rattle.hierarchy.specs.Rules.{bad_instances, missing_top, repeated_modules}
use Rattle.name_rules.specs.Declarations.{bad_names}
use Rattle.name_rules.specs.Uses.{bad_connections, unknown_names}
use Rattle.vlog_tree.specs.Meaning.Setting.{Setting}
use Rattle.width_rules.specs.Widths.{bad_terminals, bad_widths}
use Rattle.elab.specs.Ports.{bad_setting}
use Rattle.elab.specs.Refusals.{KeepsRules, in_reached, rules}

-- What was found stays found.
stays : (found : Failure) (failures : List Failure) → fold earlier (Some found) failures ≡ None → ⊥
stays found [] is = absurd cc
stays found (next ∷ failures) is = stays (cond (nat_lt next.at found.at) next found) failures is

none_noted : (failures : List Failure) → earliest failures ≡ None → failures ≡ []
none_noted [] is = refl
none_noted (failure ∷ failures) is = absurd (stays failure failures is)

first_none : {X : Type 0} (first second : Option X) → option_or first second ≡ None → first ≡ None
first_none None second is = refl
first_none (Some x) second is = absurd cc

second_none : {X : Type 0} (first second : Option X) → option_or first second ≡ None → second ≡ None
second_none None second is = is
second_none (Some x) second is = absurd cc

map_none : {X Y : Type 0} (f : X → Y) (found : Option X) → option_map f found ≡ None → found ≡ None
map_none f None is = refl
map_none f (Some x) is = absurd cc

-- Where nothing refuses, no rule fails.
pub none_fails : (list : List (ℕ × List Failure)) (place : ℕ) (rule : ℕ × List Failure) → first_refusal list ≡ None
    → slice_get list place ≡ Some rule → rule.1 ≡ []
none_fails [] place rule none at = absurd cc
none_fails (first ∷ list) zero rule none at =
    let here = first_none (option_map (λ failure. (first.0, failure)) (earliest first.1)) (first_refusal list) none in
    ap (λ (one : ℕ × List Failure). one.1) (sym (some_same first rule at))
    ∙ none_noted first.1 (map_none (λ failure. (first.0, failure)) (earliest first.1) here)
none_fails (first ∷ list) (suc place) rule none at =
    none_fails list place rule
    (second_none (option_map (λ failure. (first.0, failure)) (earliest first.1)) (first_refusal list) none) at

module _ (setting : Setting) (kept : KeepsRules setting) where
  -- The rules on modules, names, connections and widths are kept.
  pub keeps_first : Keeps setting
  unfolding rules
  keeps_first =
      let design = setting.design in
      let top = setting.top in
      record {
        modules = none_fails (rules setting) 0 (1, repeated_modules design) kept refl;
        top = none_fails (rules setting) 1 (2, missing_top design top) kept refl;
        instances = none_fails (rules setting) 2 (3, bad_instances design top) kept refl;
        names = none_fails (rules setting) 3 (4, in_reached design top bad_names) kept refl;
        uses = none_fails (rules setting) 4 (5, in_reached design top unknown_names) kept refl;
        connections = none_fails (rules setting) 5 (6, in_reached design top (bad_connections design)) kept refl;
        widths = none_fails (rules setting) 6 (7, in_reached design top bad_widths) kept refl;
        terminals = none_fails (rules setting) 7 (8, in_reached design top bad_terminals) kept refl;
      }

  -- So is that on the clock and the checker.
  pub keeps_ports : bad_setting setting ≡ []
  unfolding rules
  keeps_ports = none_fails (rules setting) 10 (11, bad_setting setting) kept refl
