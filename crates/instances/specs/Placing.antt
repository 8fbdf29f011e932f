-- Instances by the places of their modules.
use Rattle.std.specs.Prelude.{ℕ, ◌<◌, ◌≡◌, ◌⊎◌, List, Option, Some, map, slice_get}
use Rattle.std.specs.Option.{option_map}
use Rattle.bm_base.specs.Size.{limit_of}
use Rattle.bm_base.specs.declared.size.Size.TheVariants as size
use Rattle.flat_net.specs.declared.fault.FlatFault.{FlatFault}
use Rattle.flat_net.specs.declared.fault.FlatFault.TheVariants.{Memory, TooLarge}
use Rattle.vlog_tree.specs.declared.design.Module.{Module}
use Rattle.instances.specs.declared.placed.Placed.{Placed}
use Rattle.instances.specs.Shapes.{Shape}

-- what an instance in the list stands for, where these are the modules
abbrev pub shape_at : List Module → Placed → Option Shape
shape_at modules placed = option_map (λ m. record { definition = m; size = placed.size }) (slice_get modules placed.module)

-- the instances in the list are these
abbrev pub HasShapes : List Module → List Placed → List Shape → Type 0
HasShapes modules list shapes = map (shape_at modules) list ≡ map Some shapes

-- The module of each instance in the list stands among so many.
abbrev pub IsWithin : ℕ → List Placed → Type 0
IsWithin count list = (place : ℕ) (placed : Placed) → slice_get list place ≡ Some placed → placed.module < count

-- There is no memory, or so many instances are too many.
abbrev pub IsRefused : ℕ → FlatFault → Type 0
IsRefused count fault = (fault ≡ Memory) ⊎ ((fault ≡ TooLarge size.Instances) × (limit_of size.Instances < count))
