-- The machine of a design that keeps the rules, by its plan.
use Rattle.std.proofs.Common.{◌≡◌, ◌<◌, ◌≤◌, ℕ, List, [], Bool, Option, None, Some, ap, arith, inl, inr, length, ltb, refl, subst, sym, ◌∙◌}
use Rattle.std.proofs.lemmas.Bool.{cases_Bool, ltb-false, ltb-true}
use Rattle.std.specs.Option.{IfSome, option_and_then, option_map}
use Rattle.std.proofs.lemmas.List.Quantifiers.{position-Some}
use Rattle.std.proofs.lemmas.Option.{none-some, same_Some}
use Rattle.elab.specs.Plans.{input_place, reset_at, reset_of}
use Rattle.elab.specs.declared.plan.Plan.{Plan}
use Rattle.flat_design.specs.Flat.{flat}
use Rattle.flat_design.specs.Sizes.{too_large}
use Rattle.flat_net.specs.declared.fault.FlatFault.{FlatFault}
use Rattle.flat_net.specs.declared.fault.FlatFault.TheVariants.{Memory, TooLarge}
use Rattle.flat_net.specs.declared.setup.Reset.{Reset}
use Rattle.flat_net.specs.Nets.{Net}
use Rattle.flatten.specs.Planned.{IsPlanned, Refuses}
use Rattle.keys.specs.Printed.{key_text}
use Rattle.levelise.specs.Machine.{HasReset, Level}
use Rattle.loop_laws.specs.Loops.{LoopsAreOfNodes}
use Rattle.net_loops.specs.Loops.{ReadsItself}
use Rattle.net_order.specs.Faults.{IsLeastLoop}
use Rattle.numbering.specs.Numbering.{key_at}
use Rattle.vlog_tree.specs.declared.design.Design.{Design}
use Rattle.vlog_tree.specs.declared.key.Key.{Key}
use Rattle.vlog_tree.specs.Meaning.Keys.{input_keys, key_of, same_key}
use Rattle.vlog_tree.specs.Meaning.Setting.{Setting}
use Rattle.vlog_tree.specs.Meaning.Uses.{Text}
use Rattle.netlists.specs.Faults.{IsLoopKey}
use Rattle.netlists.specs.Stops.{IsMade, StopsMaking, fault_of_flat}

-- ---- the reset

reset_placed : (setting : Setting) (name : Text) (active : Bool) (place : Option ℕ) → input_place setting name ≡ place
    → IfSome (option_map (reset_at active) place) (λ (reset : Reset). reset.bit < length (input_keys setting))
reset_placed setting name active None is = tt
reset_placed setting name active (Some place) is =
    (position-Some (same_key (key_of [] name 0)) (input_keys setting) place (key_of [] name 0) is).0

reset_within : (setting : Setting) (found : Option (Text × Bool))
    → IfSome (option_and_then (reset_of setting) found) (λ (reset : Reset). reset.bit < length (input_keys setting))
reset_within setting None = tt
reset_within setting (Some (name, active)) = reset_placed setting name active (input_place setting name) refl

module _ (design : Design) (plan : Plan) (setting : Setting) (planned : IsPlanned setting design plan) where
  -- The reset of the plan is an input of the flat netlist.
  pub has_reset : (net : Net) → net ≡ flat setting → HasReset net plan.setup
  has_reset net is =
      subst (λ net. HasReset net plan.setup) (sym is)
      (subst (HasReset (flat setting)) (sym planned.plan.setup) (reset_within setting setting.reset))

  -- ---- the end of the making

  pub is_made : (net : Net) (level : Level) → net ≡ flat setting → too_large setting ≡ None
      → level ≡ record { net = net; setup = plan.setup } → ((node : ℕ) → ReadsItself net.nodes node → ⊥)
      → IsMade setting (record { level = level; labels = plan.labels })
  is_made net level is sizes level_is free = record {
    sizes = sizes;
    free = subst (λ (net : Net). (node : ℕ) → ReadsItself net.nodes node → ⊥) is free;
    level = level_is ∙ (λ j. record { net = is j; setup = planned.plan.setup j });
    labels = planned.plan.labels;
  }

  pub least_in : (net : Net) (node : ℕ) → net ≡ flat setting → IsLeastLoop net.nodes node → IsLeastLoop (flat setting).nodes node
  least_in net node is least = subst (λ (net : Net). IsLeastLoop net.nodes node) is least

pub flat_stopped : (setting : Setting) (why : FlatFault) → Refuses setting why → StopsMaking setting (fault_of_flat why)
flat_stopped setting Memory refused = tt
flat_stopped setting (TooLarge what) refused = refused

-- ---- the name of a loop

module _ (loops : LoopsAreOfNodes) (setting : Setting) (node : ℕ) (least : IsLeastLoop (flat setting).nodes node) where
  -- no lower node reads itself
  lowest : (other : ℕ) → ReadsItself (flat setting).nodes other → node ≤ other
  lowest other loop = elim (cases_Bool (ltb other node)) [
    | inl lower ↦ absurd (least.least other (ltb-true other node lower) loop)
    | inr not_lower ↦ omega (arith, ltb-false other node not_lower)
  ]

  stands : (key : Key) × (key_at setting node ≡ Some key)
  stands = loops.least setting node least.loop lowest

  -- The node stands for a bit, so its text is that bit's name.
  pub key_named : (text : List ℕ) → Some text ≡ option_map (key_text setting) (key_at setting node) → IsLoopKey setting text
  key_named text is = (
    node,
    least,
    (
      stands.0,
      stands.1,
      same_Some text (key_text setting stands.0) (is ∙ ap (option_map (key_text setting)) stands.1),
    ),
  )

  pub key_there : None ≡ option_map (key_text setting) (key_at setting node) → ⊥
  key_there is = none-some (key_text setting stands.0) (is ∙ ap (option_map (key_text setting)) stands.1)
