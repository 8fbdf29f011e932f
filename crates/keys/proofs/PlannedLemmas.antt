-- A node's bit by a plan is that by each setting of the plan.
use Rattle.std.proofs.Common.{◌≡◌, ℕ, Option, None, Some, ap, refl, sym, ◌∙◌}
use Rattle.elab.specs.declared.plan.Plan.{Plan}
use Rattle.flat_design.specs.Sizes.{too_large}
use Rattle.flat_net.specs.declared.fault.FlatFault.{FlatFault}
use Rattle.flat_net.specs.declared.fault.FlatFault.TheVariants as fault
use Rattle.flatten.specs.Planned.{IsPlanned, Refuses}
use Rattle.flatten.specs.Ready.{setting_by}
use Rattle.flatten.proofs.PlanLemmas.{names_by, sizes_are}
use Rattle.flatten.proofs.SettingLemmas.{names_of}
use Rattle.frames.specs.Numbered.{Numbered, numbered, setting_with}
use Rattle.hierarchy.specs.Indexed.{Topped}
use Rattle.numbering.specs.Numbering.{key_at}
use Rattle.trace_rows.specs.declared.labels.Labels.{Labels}
use Rattle.vlog_tree.specs.declared.design.Design.{Design}
use Rattle.vlog_tree.specs.declared.key.Key.{Key}
use Rattle.vlog_tree.specs.Meaning.Setting.{Setting}

-- A fault where no size passes its limit.
pub only_memory : (setting : Setting) (why : FlatFault) → Refuses setting why → too_large setting ≡ None → why ≡ fault.Memory
only_memory setting fault.Memory refused few = refl
only_memory setting (fault.TooLarge what) refused few = absurd (let both : None ≡ Some what = sym few ∙ refused in cc)

module _ (design : Design) (plan : Plan) (topped : Topped) (is : topped ≡ record { design = design; top = plan.labels.top }) where
  names_are : (setting : Setting) → IsPlanned setting design plan → names_of setting ≡ names_by design plan.labels
  names_are setting planned = λ j. record {
    design = planned.design j;
    top = sym (ap (λ (labels : Labels). labels.top) planned.plan.labels) j;
    clock = sym (ap (λ (labels : Labels). labels.clock) planned.plan.labels) j;
  }

  pub planned_key : (node : ℕ) (key : Option Key) → key ≡ key_at (setting_with (numbered topped plan.labels.clock)) node
      → (setting : Setting) → IsPlanned setting design plan → key ≡ key_at setting node
  planned_key node key same setting planned =
      same
      ∙ ap (λ topped. key_at (setting_with (numbered topped plan.labels.clock)) node) is
      ∙ ap (λ (names : Numbered). key_at (setting_with names) node) (sym (names_are setting planned))

  pub planned_few : ((setting : Setting) → IsPlanned setting design plan → too_large setting ≡ None)
      → (setting : Setting) → IsPlanned setting design plan → too_large (setting_by (numbered topped plan.labels.clock) plan.labels.check) ≡ None
  planned_few few setting planned =
      ap (λ topped. too_large (setting_by (numbered topped plan.labels.clock) plan.labels.check)) is
      ∙ sizes_are setting design plan planned ∙ few setting planned
