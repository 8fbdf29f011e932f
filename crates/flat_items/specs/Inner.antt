-- Where the instances stand that the items of an instance are.
use Rattle.std.specs.Prelude.{ℕ, ◌+◌, ◌≡◌, true, Option, None, Some, slice_get}
use Rattle.design_laws.specs.Sound.{item_is_sound}
use Rattle.instances.specs.Shapes.{Shape, shapes_from, size_at}
use Rattle.std.specs.Prelude.{List}
use Rattle.vlog_tree.specs.declared.design.Module.{Module}
use Rattle.vlog_tree.specs.declared.item.Item.{Item}
use Rattle.vlog_tree.specs.Meaning.Instances.{Child, Instance, child_of, greatest_depth, inside, instances, top_module}
use Rattle.vlog_tree.specs.Meaning.Setting.{Setting}

-- An item of the instance at a place is sound, and if it is an instance, this one stands at the place `inner`.
pub record StandsAt (setting : Setting) (place inner : ℕ) (item : Item) : Type 0 where
  pub sound : (instance : Instance) → slice_get (instances setting) place ≡ Some instance
      → item_is_sound setting.design instance.definition item ≡ true
  pub stands : (instance : Instance) → slice_get (instances setting) place ≡ Some instance
      → (child : Child) → child_of setting.design item ≡ Some child
      → slice_get (instances setting) inner ≡ Some (inside instance.path child)

-- how many instances stand in a child, with itself; none where there is no child
abbrev pub inner_count : List Shape → ℕ → Option Child → ℕ
inner_count shapes inner (Some child) = size_at shapes inner
inner_count shapes inner None = 0

-- The next child stands behind all that stand in the item.
abbrev pub IsNextInner : Setting → ℕ → Item → ℕ → Type 0
IsNextInner setting inner item next =
    (m : Module) → top_module setting ≡ Some m
    → next ≡ inner + inner_count (shapes_from setting.design greatest_depth m) inner (child_of setting.design item)
