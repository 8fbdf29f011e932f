-- A design that keeps the rules is ready to be flattened.
use Rattle.std.proofs.Common.{◌≡◌, ℕ, List, [], ◌++◌, Bool, true, false, ◌&&◌, Some, refl, ap, sym, subst, ◌∙◌, flat_map, slice_get}
use Rattle.std.specs.Option.{option_to_list}
use Rattle.std.proofs.lemmas.Bool.{eqb-true}
use Rattle.std.proofs.lemmas.List.{append-nil}
use Rattle.hierarchy.specs.Failures.{Failure, failure}
use Rattle.hierarchy.specs.Reach.{reached, reaches}
use Rattle.name_rules.specs.Declarations.{bad_names}
use Rattle.nets.specs.Nets.{is_one_bit}
use Rattle.vlog_tree.specs.declared.design.Module.{Module}
use Rattle.vlog_tree.specs.Meaning.Instances.{Instance, down_from, greatest_depth, instances, top_module}
use Rattle.vlog_tree.specs.Meaning.Keys.{bit_count}
use Rattle.vlog_tree.specs.Meaning.Names.{is_input, is_output}
use Rattle.vlog_tree.specs.Meaning.Setting.{Setting}
use Rattle.vlog_tree.specs.Meaning.Uses.{Text}
use Rattle.design_laws.specs.Kept.{Keeps}
use Rattle.design_laws.specs.Sound.{IsSound}
use Rattle.design_laws.proofs.Instances.{IsPlaced, all_placed, as_top, names_right, top_placed}
use Rattle.design_laws.proofs.Law.{kept_is_sound, top_there}
use Rattle.design_laws.proofs.Members.{Has, each_none, has_passing, is_noted, left_none, right_none}
use Rattle.design_laws.proofs.Registers.{registers_apart}
use Rattle.elab.specs.Ports.{bad_ports_of, bad_reset, bad_setting, unless_fit}
use Rattle.frames.specs.Numbered.{IsReady}
use Rattle.numbering.specs.Places.{IsApart}
use Rattle.rule_laws.specs.Names.{RulesGiveNames}
use Rattle.rule_laws.specs.Ready.{IsReadyDesign, RulesGiveReady}
use Rattle.rule_laws.proofs.Kept.{keeps_first, keeps_ports}

both_are : (a b : Bool) → (a && b) ≡ true → (a ≡ true) × (b ≡ true)
both_are true true is = (refl, refl)
both_are true false is = absurd cc
both_are false b is = absurd cc

module _ (setting : Setting) (keeps : Keeps setting) (first : Module) (found : top_module setting ≡ Some first) where
  -- ---- instances

  all_are : instances setting ≡ down_from setting.design greatest_depth (as_top first)
  all_are =
      ap (λ o. flat_map (λ m. down_from setting.design greatest_depth (as_top m)) (option_to_list o)) found
      ∙ append-nil (down_from setting.design greatest_depth (as_top first))

  placed : (i : ℕ) (x : Instance) → slice_get (instances setting) i ≡ Some x → IsPlaced setting x
  placed i x at =
      all_placed setting first found keeps.names greatest_depth (as_top first) x (top_placed setting first found keeps.names)
      (subst (λ xs. Has xs x) all_are (i, at))

  -- In no module that is reached an input is a register.
  reached_apart : (m : Module) (place : ℕ) → slice_get setting.design.modules place ≡ Some m
      → reaches setting.design setting.top m.name ≡ true → IsApart m
  reached_apart m place at is name =
      registers_apart m name
      (each_none bad_names (reached setting.design setting.top) m keeps.names
      (has_passing (λ (m : Module). reaches setting.design setting.top m.name) setting.design.modules m (place, at) is))

  sound : IsSound setting
  sound = kept_is_sound setting keeps

  is_ready : IsReady setting
  is_ready = record {
    top = (first, found);
    distinct = sound.distinct;
    reached = λ i x at. (placed i x at).reached.reaches;
    named = sound.named;
    only_top = sound.only_top;
    apart = reached_apart;
  }

  top_apart : IsApart first
  top_apart name =
      registers_apart first name
      (names_right setting first found keeps.names first (top_placed setting first found keeps.names).reached)

  -- ---- the clock and the checker

  module _ (ports : bad_setting setting ≡ []) where
    fits : (fit : Bool) (name : Text) → unless_fit fit name ≡ [] → fit ≡ true
    fits fit name is = is_noted fit (failure 0 [] name) is

    of_top : bad_ports_of setting first ≡ []
    of_top =
        left_none (bad_ports_of setting first) []
        (sym (ap (λ o. flat_map (bad_ports_of setting) (option_to_list o)) found) ∙ ports)

    abbrev clock_failures : List Failure
    clock_failures = unless_fit (is_input first setting.clock && is_one_bit first setting.clock) setting.clock

    abbrev check_failures : List Failure
    check_failures = unless_fit (is_output first setting.check && is_one_bit first setting.check) setting.check

    before_reset : clock_failures ++ check_failures ≡ []
    before_reset = left_none (clock_failures ++ check_failures) (bad_reset first setting.clock setting.reset) of_top

    clock_fits : (is_input first setting.clock ≡ true) × (is_one_bit first setting.clock ≡ true)
    clock_fits =
        both_are (is_input first setting.clock) (is_one_bit first setting.clock)
        (fits (is_input first setting.clock && is_one_bit first setting.clock) setting.clock
        (left_none clock_failures check_failures before_reset))

    check_fits : (is_output first setting.check ≡ true) × (is_one_bit first setting.check ≡ true)
    check_fits =
        both_are (is_output first setting.check) (is_one_bit first setting.check)
        (fits (is_output first setting.check && is_one_bit first setting.check) setting.check
        (right_none clock_failures check_failures before_reset))

    ready_design : IsReadyDesign setting
    ready_design = record {
      sound = sound;
      ready = is_ready;
      top = first;
      is_top = found;
      apart = top_apart;
      clock = clock_fits.0;
      clock_bit = eqb-true (bit_count first setting.clock) 1 clock_fits.1;
      check = check_fits.0;
      check_bit = eqb-true (bit_count first setting.check) 1 check_fits.1;
    }

pub rules_give_ready : RulesGiveReady
rules_give_ready setting kept =
    let keeps : Keeps setting = keeps_first setting kept in
    let first = top_there setting.design setting.top keeps.top in
    ready_design setting keeps first.0 first.1 (keeps_ports setting kept)

pub rules_give_names : RulesGiveNames
rules_give_names setting m kept found =
    let keeps : Keeps setting = keeps_first setting kept in
    names_right setting m found keeps.names m (top_placed setting m found keeps.names).reached
