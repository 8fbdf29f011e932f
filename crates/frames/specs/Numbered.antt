-- A design whose bits are numbered, and where its sizes pass their limits.
use Rattle.std.specs.Prelude.{⊤, ℕ, ◌<◌, ◌≤◌, ◌≡◌, ◌⊎◌, [], true, None, Some, bytes_eq, length, slice_get}
use Rattle.bm_base.specs.Size.{limit_of}
use Rattle.bm_base.specs.declared.size.Size.TheVariants as size
use Rattle.flat_net.specs.declared.fault.FlatFault.{FlatFault}
use Rattle.flat_net.specs.declared.fault.FlatFault.TheVariants.{Memory, TooLarge}
use Rattle.hierarchy.specs.Indexed.{Topped}
use Rattle.hierarchy.specs.Reach.{reaches}
use Rattle.vlog_tree.specs.declared.design.Design.{Design}
use Rattle.vlog_tree.specs.declared.design.Module.{Module}
use Rattle.vlog_tree.specs.Meaning.Instances.{Instance, instances, module_named, top_module}
use Rattle.vlog_tree.specs.Meaning.Setting.{Setting}
use Rattle.vlog_tree.specs.Meaning.Uses.{Text}
use Rattle.numbering.specs.Numbering.{first_of_expressions}
use Rattle.numbering.specs.Numbers.{AreDistinct}
use Rattle.numbering.specs.Places.{IsApart}

-- a design, and the names of its top and of that module's clock
pub record Numbered : Type 0 where
  pub design : Design
  pub top : Text
  pub clock : Text

abbrev pub numbered : Topped → Text → Numbered
numbered topped clock = record { design = topped.design; top = topped.top; clock = clock }

abbrev pub setting_with : Numbered → Setting
setting_with it = record {
  design = it.design;
  top = it.top;
  clock = it.clock;
  check = [];
  reset = None;
  reset_cycles = 0;
}

-- what the rules say of a design whose bits can be numbered
pub record IsReady (setting : Setting) : Type 0 where
  pub top : (m : Module) × (top_module setting ≡ Some m)
  pub distinct : AreDistinct (instances setting)
  pub reached : (i : ℕ) (instance : Instance) → slice_get (instances setting) i ≡ Some instance
      → reaches setting.design setting.top instance.definition.name ≡ true
  pub named : (i : ℕ) (instance : Instance) → slice_get (instances setting) i ≡ Some instance
      → module_named setting.design instance.definition.name ≡ Some instance.definition
  pub only_top : (i : ℕ) (instance : Instance) → slice_get (instances setting) i ≡ Some instance
      → bytes_eq instance.definition.name setting.top ≡ true → instance.path ≡ []
  pub apart : (m : Module) (place : ℕ) → slice_get setting.design.modules place ≡ Some m
      → reaches setting.design setting.top m.name ≡ true → IsApart m

-- There is no memory, or this is the first size that passes its limit.
abbrev pub Refuses : Setting → FlatFault → Type 0
Refuses setting Memory = ⊤
Refuses setting (TooLarge what) =
    ((what ≡ size.Instances) × (limit_of size.Instances < length (instances setting)))
    ⊎ ((what ≡ size.Nodes)
    × (length (instances setting) ≤ limit_of size.Instances)
    × (limit_of size.Nodes < first_of_expressions setting))
