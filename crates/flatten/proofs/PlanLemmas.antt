-- A design with its plan can be flattened, and the netlist by its names is that of its setting.
use Rattle.std.proofs.Common.{◌≡◌, ◌⊎◌, inl, inr, ℕ, List, [], ◌∷◌, ◌++◌, true, Option, None, Some, ap, refl, subst, sym, ◌∙◌}
use Rattle.std.specs.Option.{option_map, option_or}
use Rattle.std.proofs.lemmas.Option.{same_Some}
use Rattle.design_laws.specs.Grammar.{design_is_by_grammar}
use Rattle.design_laws.specs.Sound.{IsInside, IsSound}
use Rattle.elab.specs.Refusals.{KeepsRules, inner_rules, port_rules, rules}
use Rattle.elab.specs.declared.plan.Plan.{Plan}
use Rattle.flat_design.specs.Flat.{flat}
use Rattle.flat_design.specs.Next.{FlatHasNext, HasNext}
use Rattle.flat_design.specs.Sizes.{too_large}
use Rattle.flat_design.specs.Values.{FlatHasValues, HasValues}
use Rattle.flat_net.specs.declared.fault.FlatFault.{FlatFault}
use Rattle.flat_net.specs.declared.fault.FlatFault.TheVariants as fault
use Rattle.flat_net.specs.Nets.{Net}
use Rattle.frames.specs.Numbered.{IsReady, Numbered, numbered, setting_with}
use Rattle.hierarchy.specs.Failures.{Failure, earliest, first_refusal}
use Rattle.hierarchy.specs.Faults.{refusal_of}
use Rattle.hierarchy.specs.declared.fault.HierarchyFault.{HierarchyFault}
use Rattle.hierarchy.specs.declared.fault.HierarchyFault.TheVariants.{Memory}
use Rattle.hierarchy.specs.Indexed.{Topped}
use Rattle.hierarchy.specs.Rules.{module_rules}
use Rattle.rule_laws.specs.Ready.{IsReadyDesign, RulesGiveReady}
use Rattle.trace_rows.specs.declared.labels.Labels.{Labels}
use Rattle.vlog_tree.specs.declared.design.Design.{Design}
use Rattle.vlog_tree.specs.declared.design.Module.{Module}
use Rattle.vlog_tree.specs.Meaning.Instances.{Instance}
use Rattle.vlog_tree.specs.Meaning.Keys.{bit_count}
use Rattle.vlog_tree.specs.Meaning.Setting.{Setting}
use Rattle.flatten.specs.Planned.{IsPlanned, Refuses}
use Rattle.flatten.specs.Ready.{IsReadyBy, setting_by}
use Rattle.flatten.proofs.SettingLemmas.{flat_by, names_of, sizes_by}

module _ (setting : Setting) (ready : IsReadyDesign setting) where
  abbrev plain : Setting
  plain = setting_with (names_of setting)

  inside_same : (instance : Instance) → IsInside setting instance → IsInside plain instance
  inside_same instance is = record {
    place = is.place;
    outer = is.outer;
    child = is.child;
    stands = is.stands;
    named = is.named;
    is = is.is;
  }

  sound_same : IsSound plain
  sound_same = record {
    top = ready.sound.top;
    leads = ready.sound.leads;
    distinct = ready.sound.distinct;
    inside = ready.sound.inside;
    children = ready.sound.children;
    parent = λ i instance at.
        elim (ready.sound.parent i instance at) [ inl top ↦ inl top | inr is ↦ inr (inside_same instance is) ];
    items = ready.sound.items;
    ports = ready.sound.ports;
    apart = ready.sound.apart;
    named = ready.sound.named;
    only_top = ready.sound.only_top;
  }

  ready_same : IsReady plain
  ready_same = record {
    top = ready.ready.top;
    distinct = ready.ready.distinct;
    reached = ready.ready.reached;
    named = ready.ready.named;
    only_top = ready.ready.only_top;
    apart = ready.ready.apart;
  }

  pub ready_by : design_is_by_grammar setting.design ≡ true → IsReadyBy (names_of setting) setting.check
  ready_by all = record {
    sound = sound_same;
    ready = ready_same;
    by_grammar = all;
    check_bit = λ m found.
        ap (λ (m : Module). bit_count m setting.check) (same_Some m ready.top (sym found ∙ ready.is_top)) ∙ ready.check_bit;
  }

-- ---- the rules on modules

kept_first : {X : Type 0} (found first both : Option X) → (both ≡ None → first ≡ None) → option_or found both ≡ None
    → option_or found first ≡ None
kept_first None first both less none = less none
kept_first (Some x) first both less none = none

first_kept : (some others : List (ℕ × List Failure)) → first_refusal (some ++ others) ≡ None → first_refusal some ≡ None
first_kept [] others none = refl
first_kept (rule ∷ some) others none =
    kept_first (option_map (λ failure. (rule.0, failure)) (earliest rule.1)) (first_refusal some) (first_refusal (some ++ others))
    (first_kept some others) none

modules_kept : (setting : Setting) → KeepsRules setting → first_refusal (module_rules setting.design setting.top) ≡ None
unfolding rules
modules_kept setting kept =
    first_kept (module_rules setting.design setting.top) (inner_rules setting.design setting.top ++ port_rules setting) kept

-- A fault that says no rule.
pub unrefused : (found : Option (ℕ × Failure)) (why : HierarchyFault) → (why ≡ Memory) ⊎ (found ≡ refusal_of why) → found ≡ None
    → refusal_of why ≡ None
unrefused found why (inl is) none = ap refusal_of is
unrefused found why (inr is) none = sym is ∙ none

-- ---- plans

abbrev pub names_by : Design → Labels → Numbered
names_by design labels = record { design = design; top = labels.top; clock = labels.clock }

module _ (setting : Setting) (design : Design) (plan : Plan) (planned : IsPlanned setting design plan) where
  pub top_is : setting.top ≡ plan.labels.top
  top_is = sym (ap (λ (labels : Labels). labels.top) planned.plan.labels)

  clock_is : setting.clock ≡ plan.labels.clock
  clock_is = sym (ap (λ (labels : Labels). labels.clock) planned.plan.labels)

  check_is : setting.check ≡ plan.labels.check
  check_is = sym (ap (λ (labels : Labels). labels.check) planned.plan.labels)

  names_are : names_of setting ≡ names_by design plan.labels
  names_are = λ j. record { design = planned.design j; top = top_is j; clock = clock_is j }

  setting_is : setting_by (names_of setting) setting.check ≡ setting_by (names_by design plan.labels) plan.labels.check
  setting_is = λ j. setting_by (names_are j) (check_is j)

  pub flat_is : flat (setting_by (names_by design plan.labels) plan.labels.check) ≡ flat setting
  flat_is = ap flat (sym setting_is) ∙ flat_by setting

  pub sizes_are : too_large (setting_by (names_by design plan.labels) plan.labels.check) ≡ too_large setting
  sizes_are = ap too_large (sym setting_is) ∙ sizes_by setting

  pub refused_same : (why : FlatFault) → Refuses (setting_by (names_by design plan.labels) plan.labels.check) why → Refuses setting why
  refused_same fault.Memory refused = tt
  refused_same (fault.TooLarge what) refused = sym sizes_are ∙ refused

  pub no_refusal : first_refusal (module_rules design plan.labels.top) ≡ None
  no_refusal = (λ j. first_refusal (module_rules (sym planned.design j) (sym top_is j))) ∙ modules_kept setting planned.kept

  pub has_values : RulesGiveReady → FlatHasValues → design_is_by_grammar design ≡ true → (net : Net) → net ≡ flat setting
      → HasValues setting net
  has_values law values all net is =
      let ready : IsReadyDesign setting = law setting planned.kept in
      subst (HasValues setting) (sym is)
      (values setting ready.sound (ap design_is_by_grammar planned.design ∙ all) ready.top ready.is_top ready.apart ready.clock)

  pub has_next : RulesGiveReady → FlatHasNext → design_is_by_grammar design ≡ true → (net : Net) → net ≡ flat setting
      → HasNext setting net
  has_next law next all net is =
      let ready : IsReadyDesign setting = law setting planned.kept in
      subst (HasNext setting) (sym is)
      (next setting ready.sound (ap design_is_by_grammar planned.design ∙ all) ready.top ready.is_top ready.apart ready.clock)

  pub can_be_flat : RulesGiveReady → design_is_by_grammar design ≡ true → IsReadyBy (names_by design plan.labels) plan.labels.check
  can_be_flat law all =
      let before : design_is_by_grammar setting.design ≡ true = ap design_is_by_grammar planned.design ∙ all in
      let by : IsReadyBy (names_of setting) setting.check = ready_by setting (law setting planned.kept) before in
      subst (λ (one : Setting). IsReadyBy (names_of one) one.check) setting_is by

-- ---- netlists by the names of a plan

module _ (design : Design) (plan : Plan) (topped : Topped) (is : topped ≡ record { design = design; top = plan.labels.top }) where
  abbrev own : Setting
  own = setting_by (numbered topped plan.labels.clock) plan.labels.check

  own_is : own ≡ setting_by (names_by design plan.labels) plan.labels.check
  own_is = ap (λ topped. setting_by (numbered topped plan.labels.clock) plan.labels.check) is

  pub planned_flat : (net : Net) → net ≡ flat own → (setting : Setting) → IsPlanned setting design plan → net ≡ flat setting
  planned_flat net same setting planned = same ∙ ap flat own_is ∙ flat_is setting design plan planned

  pub planned_within : too_large own ≡ None → (setting : Setting) → IsPlanned setting design plan → too_large setting ≡ None
  planned_within within setting planned = sym (sizes_are setting design plan planned) ∙ ap too_large (sym own_is) ∙ within

  pub planned_values : RulesGiveReady → FlatHasValues → design_is_by_grammar design ≡ true → (net : Net) → net ≡ flat own
      → (setting : Setting) → IsPlanned setting design plan → HasValues setting net
  planned_values law values all net same setting planned =
      has_values setting design plan planned law values all net (planned_flat net same setting planned)

  pub planned_next : RulesGiveReady → FlatHasNext → design_is_by_grammar design ≡ true → (net : Net) → net ≡ flat own
      → (setting : Setting) → IsPlanned setting design plan → HasNext setting net
  planned_next law next all net same setting planned =
      has_next setting design plan planned law next all net (planned_flat net same setting planned)

  pub planned_refused : (why : FlatFault) → Refuses own why → (setting : Setting) → IsPlanned setting design plan → Refuses setting why
  planned_refused why refused setting planned =
      refused_same setting design plan planned why (subst (λ (one : Setting). Refuses one why) own_is refused)

  pub planned_ready : RulesGiveReady → design_is_by_grammar design ≡ true → (setting : Setting) → IsPlanned setting design plan
      → IsReadyBy (numbered topped plan.labels.clock) plan.labels.check
  planned_ready law all setting planned =
      subst (λ topped. IsReadyBy (numbered topped plan.labels.clock) plan.labels.check) (sym is)
      (can_be_flat setting design plan planned law all)
