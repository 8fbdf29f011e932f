-- The reset of a design that keeps the rules is an input of one bit, and not the clock.
use Rattle.std.proofs.Common.{◌≡◌, List, [], ◌++◌, Bool, true, false, not, ◌&&◌, Some, refl, ap, sym, ◌∙◌, flat_map}
use Rattle.std.specs.Option.{option_to_list}
use Rattle.std.specs.Str.{bytes_eq}
use Rattle.std.proofs.lemmas.Bool.{eqb-true}
use Rattle.hierarchy.specs.Failures.{Failure, failure}
use Rattle.nets.specs.Nets.{is_one_bit}
use Rattle.vlog_tree.specs.declared.design.Module.{Module}
use Rattle.vlog_tree.specs.Meaning.Instances.{top_module}
use Rattle.vlog_tree.specs.Meaning.Keys.{bit_count}
use Rattle.vlog_tree.specs.Meaning.Names.{is_input, is_output}
use Rattle.vlog_tree.specs.Meaning.Setting.{Setting}
use Rattle.vlog_tree.specs.Meaning.Uses.{Text}
use Rattle.design_laws.proofs.Members.{is_noted, left_none, right_none}
use Rattle.elab.specs.Ports.{bad_ports_of, bad_reset, unless_fit}
use Rattle.elab.specs.Refusals.{KeepsRules}
use Rattle.rule_laws.specs.Reset.{IsResetOf, RulesGiveReset}
use Rattle.rule_laws.proofs.Kept.{keeps_ports}

both_are : (a b : Bool) → (a && b) ≡ true → (a ≡ true) × (b ≡ true)
both_are true true is = (refl, refl)
both_are true false is = absurd cc
both_are false b is = absurd cc

is_not : (a : Bool) → not a ≡ true → a ≡ false
is_not false is = refl
is_not true is = absurd cc

-- What E11 says of one reset, where none of its failures is found.
module _ (m : Module) (clock name : Text) (active : Bool) (none : bad_reset m clock (Some (name, active)) ≡ []) where
  fits : (is_input m name ≡ true) × ((is_one_bit m name && not (bytes_eq name clock)) ≡ true)
  fits =
      both_are (is_input m name) (is_one_bit m name && not (bytes_eq name clock))
      (is_noted (is_input m name && (is_one_bit m name && not (bytes_eq name clock))) (failure 0 [] name) none)

  one_and_apart : (is_one_bit m name ≡ true) × (not (bytes_eq name clock) ≡ true)
  one_and_apart = both_are (is_one_bit m name) (not (bytes_eq name clock)) fits.1

  one_bit : bit_count m name ≡ 1
  one_bit = eqb-true (bit_count m name) 1 one_and_apart.0

  apart : bytes_eq name clock ≡ false
  apart = is_not (bytes_eq name clock) one_and_apart.1

module _ (setting : Setting) (m : Module) (kept : KeepsRules setting) (found : top_module setting ≡ Some m) where
  no_bad_port : bad_ports_of setting m ≡ []
  no_bad_port =
      left_none (bad_ports_of setting m) []
      (sym (ap (λ o. flat_map (bad_ports_of setting) (option_to_list o)) found) ∙ keeps_ports setting kept)

  abbrev others : List Failure
  others =
      unless_fit (is_input m setting.clock && is_one_bit m setting.clock) setting.clock
      ++ unless_fit (is_output m setting.check && is_one_bit m setting.check) setting.check

  no_bad_reset : (name : Text) (active : Bool) → setting.reset ≡ Some (name, active)
      → bad_reset m setting.clock (Some (name, active)) ≡ []
  no_bad_reset name active is =
      sym (ap (bad_reset m setting.clock) is) ∙ right_none others (bad_reset m setting.clock setting.reset) no_bad_port

  reset_is : IsResetOf setting m
  reset_is = record {
    input = λ name active is. (fits m setting.clock name active (no_bad_reset name active is)).0;
    apart = λ name active is. apart m setting.clock name active (no_bad_reset name active is);
    one_bit = λ name active is. one_bit m setting.clock name active (no_bad_reset name active is);
  }

pub rules_give_reset : RulesGiveReset
rules_give_reset setting m kept found = reset_is setting m kept found
