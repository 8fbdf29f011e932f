-- Where the instances of a design stand, where they are listed in pre-order.
use Rattle.std.specs.Prelude.{ℕ, ◌+◌, ◌≡◌, List, [], ◌∷◌, Some, map, slice_get}
use Rattle.vlog_tree.specs.declared.design.Module.{Module}
use Rattle.vlog_tree.specs.Meaning.Instances.{Child, Instance, Path, children, greatest_depth, inside, instances, top_module}
use Rattle.vlog_tree.specs.Meaning.Setting.{Setting}
use Rattle.instances.specs.Shapes.{Shape, shapes_from, size_at}

-- The shapes have the modules of the instances, one by one.
abbrev pub SameDefinitions : Type 0
SameDefinitions = (setting : Setting) (m : Module) → top_module setting ≡ Some m →
    map (λ shape. shape.definition) (shapes_from setting.design greatest_depth m)
    ≡ map (λ instance. instance.definition) (instances setting)

-- Each child of an instance is an instance too: none stands too deep.
abbrev pub IsWhole : Setting → Type 0
IsWhole setting = (i k : ℕ) (outer : Instance) (child : Child) →
    slice_get (instances setting) i ≡ Some outer → slice_get (children setting.design outer.definition) k ≡ Some child →
    (j : ℕ) × (slice_get (instances setting) j ≡ Some (inside outer.path child))

-- From a place on, these children of an instance with this path stand in the list, each behind all that the one before holds.
abbrev pub ChildrenStand : List Instance → List Shape → ℕ → Path → List Child → Type 0
ChildrenStand list shapes place path [] = Unit {0}
ChildrenStand list shapes place path (child ∷ others) =
    (slice_get list place ≡ Some (inside path child)) × ChildrenStand list shapes (place + size_at shapes place) path others

-- The children of each instance stand right behind it.
abbrev pub StandByChildren : Type 0
StandByChildren = (setting : Setting) (m : Module) → top_module setting ≡ Some m → IsWhole setting →
    (i : ℕ) (outer : Instance) → slice_get (instances setting) i ≡ Some outer →
    ChildrenStand (instances setting) (shapes_from setting.design greatest_depth m) (i + 1) outer.path
    (children setting.design outer.definition)
