-- A design with its plan, and why it has no flat netlist.
use Rattle.std.specs.Prelude.{⊤, ◌≡◌, Some}
use Rattle.elab.specs.Plans.{IsPlan}
use Rattle.elab.specs.Refusals.{KeepsRules}
use Rattle.elab.specs.declared.plan.Plan.{Plan}
use Rattle.flat_design.specs.Sizes.{too_large}
use Rattle.flat_net.specs.declared.fault.FlatFault.{FlatFault}
use Rattle.flat_net.specs.declared.fault.FlatFault.TheVariants.{Memory, TooLarge}
use Rattle.vlog_tree.specs.declared.design.Design.{Design}
use Rattle.vlog_tree.specs.Meaning.Setting.{Setting}

-- a design that keeps the rules, with what was planned of it
pub record IsPlanned (setting : Setting) (tree : Design) (found : Plan) : Type 0 where
  pub design : setting.design ≡ tree
  pub kept : KeepsRules setting
  pub plan : IsPlan setting found

-- There is no memory, or this is the first size that passes its limit.
abbrev pub Refuses : Setting → FlatFault → Type 0
Refuses setting Memory = ⊤
Refuses setting (TooLarge what) = too_large setting ≡ Some what
