-- The rules on a design in their order, and the one that refuses it.
use Rattle.std.specs.Prelude.{◌≡◌, ◌⊎◌, ℕ, Bool, List, [], ◌∷◌, ◌++◌, Option, None, Some, flat_map}
use Rattle.hierarchy.specs.Failures.{Failure, first_refusal}
use Rattle.hierarchy.specs.Reach.{reached, reaches}
use Rattle.hierarchy.specs.Rules.{module_rules}
use Rattle.vlog_tree.specs.declared.design.Design.{Design}
use Rattle.vlog_tree.specs.declared.design.Module.{Module}
use Rattle.vlog_tree.specs.Meaning.Setting.{Setting}
use Rattle.vlog_tree.specs.Meaning.Uses.{Text}
use Rattle.name_rules.specs.Declarations.{bad_names}
use Rattle.name_rules.specs.Uses.{bad_connections, unknown_names}
use Rattle.width_rules.specs.Widths.{bad_terminals, bad_widths}
use Rattle.target_rules.specs.Targets.{bad_targets}
use Rattle.driver_rules.specs.Doubles.{double_drivers}
use Rattle.clock_rules.specs.Clocks.{bad_clocks, clock_as_data}
use Rattle.elab.specs.Ports.{bad_setting}
use Rattle.elab.specs.Settings.{clocked_of}
use Rattle.elab.specs.declared.fault.ElabFault.{ElabFault}
use Rattle.elab.specs.declared.fault.ElabFault.TheVariants.{Memory, Rule}

-- whether a module is reached from the top
abbrev pub is_reached : Design → Text → Module → Bool
is_reached design top m = reaches design top m.name

-- where a rule on modules fails, in those that are reached
abbrev pub in_reached : Design → Text → (Module → List Failure) → List Failure
in_reached design top failures = flat_map failures (reached design top)

-- the rules on single modules: E4 to E10
abbrev pub inner_rules : Design → Text → List (ℕ × List Failure)
inner_rules design top =
    (4, in_reached design top bad_names) ∷ (5, in_reached design top unknown_names)
    ∷ (6, in_reached design top (bad_connections design)) ∷ (7, in_reached design top bad_widths)
    ∷ (8, in_reached design top bad_terminals) ∷ (9, in_reached design top (bad_targets design))
    ∷ (10, in_reached design top (double_drivers design)) ∷ []

-- the rules on the top's ports and on clocks: E11 to E13
abbrev pub port_rules : Setting → List (ℕ × List Failure)
port_rules setting =
    (11, bad_setting setting) ∷ (12, bad_clocks (clocked_of setting)) ∷ (13, clock_as_data (clocked_of setting)) ∷ []

-- all rules
unfoldable pub rules : Setting → List (ℕ × List Failure)
rules setting =
    module_rules setting.design setting.top ++ (inner_rules setting.design setting.top ++ port_rules setting)

abbrev pub KeepsRules : Setting → Type 0
KeepsRules setting = first_refusal (rules setting) ≡ None

-- The fault says this rule, and what is printed of this place.
abbrev pub Says : ElabFault → ℕ × Failure → Type 0
Says (Rule rule name_of_module name) refused =
    (rule ≡ refused.0) × (name_of_module ≡ refused.1.module_name) × (name ≡ refused.1.name)
Says Memory refused = ⊥

-- This was found of the rule, and the fault is want of memory or says it.
abbrev pub refuses_at : ℕ → Option Failure → ElabFault → Type 0
refuses_at rule found fault = (fault ≡ Memory) ⊎ ((failure : Failure) × (found ≡ Some failure) × Says fault (rule, failure))

-- The fault says what refuses by these rules: the least that fails, at its first place.
abbrev pub RefusesBy : List (ℕ × List Failure) → ElabFault → Type 0
RefusesBy rules fault = (refused : ℕ × Failure) × (first_refusal rules ≡ Some refused) × Says fault refused

-- The fault is want of memory, or says what refuses by these rules.
abbrev pub Refuses : List (ℕ × List Failure) → ElabFault → Type 0
Refuses rules fault = (fault ≡ Memory) ⊎ RefusesBy rules fault
