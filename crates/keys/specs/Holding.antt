-- That an instance holds another, where the instances of a design are listed in pre-order.
use Rattle.std.specs.Prelude.{ℕ, ◌+◌, ◌<◌, ◌≤◌, ◌≡◌, List, ◌++◌, true, Some, drop, filter_map, flat_map, length}
use Rattle.std.specs.List.{list_all}
use Rattle.design_laws.specs.Sound.{item_is_sound}
use Rattle.frames.specs.Numbered.{Numbered, setting_with}
use Rattle.instances.specs.Shapes.{Shape, shapes_from}
use Rattle.vlog_tree.specs.declared.design.Design.{Design}
use Rattle.vlog_tree.specs.declared.design.Module.{Module}
use Rattle.vlog_tree.specs.declared.item.Item.{Item}
use Rattle.vlog_tree.specs.Meaning.Instances.{Instance, Path, child_of, down_from, greatest_depth, inside, instances, top_module}

-- an instance of a module
abbrev pub use_of : Path → Module → Instance
use_of path m = record { path = path; definition = m }

-- An instance with this path stands at one place and holds that of the other: from its place on stands all that is in it
-- down to a depth, and the other is among these.
pub record Holds (design : Design) (list : List Instance) (shapes : List Shape) (at place : ℕ) (path : Path) : Type 0 where
  pub definition : Module
  pub depth : ℕ
  pub later : List Instance
  pub later_shapes : List Shape
  pub listed : drop at list ≡ down_from design depth (use_of path definition) ++ later
  pub shaped : drop at shapes ≡ shapes_from design depth definition ++ later_shapes
  pub begins : at ≤ place
  pub ends : place < at + length (down_from design depth (use_of path definition))

-- all that is in the children of an instance which these items give, down to a depth
abbrev pub inner_of : Design → ℕ → Path → List Item → List Instance
inner_of design depth path items =
    flat_map (λ child. down_from design depth (inside path child)) (filter_map (child_of design) items)

abbrev pub inner_shapes : Design → ℕ → List Item → List Shape
inner_shapes design depth items =
    flat_map (λ child. shapes_from design depth child.definition) (filter_map (child_of design) items)

-- From a place on stand the children that these items of a module give, each with all that is in it down to a depth, and
-- the other place is among these.
pub record AreAmong (design : Design) (list : List Instance) (shapes : List Shape) (at place : ℕ) (path : Path)
    (items : List Item) : Type 0 where
  pub definition : Module
  pub sound : list_all (item_is_sound design definition) items ≡ true
  pub depth : ℕ
  pub later : List Instance
  pub later_shapes : List Shape
  pub listed : drop at list ≡ inner_of design depth path items ++ later
  pub shaped : drop at shapes ≡ inner_shapes design depth items ++ later_shapes
  pub begins : at ≤ place
  pub ends : place < at + length (inner_of design depth path items)

-- ---- in a design

abbrev pub all_in : Numbered → List Instance
all_in it = instances (setting_with it)

-- the shapes of all instances, where this is the top
abbrev pub shapes_in : Numbered → Module → List Shape
shapes_in it m = shapes_from it.design greatest_depth m

abbrev pub HoldsIn : Numbered → ℕ → ℕ → Path → Type 0
HoldsIn it at place path =
    (m : Module) × (top_module (setting_with it) ≡ Some m) × Holds it.design (all_in it) (shapes_in it m) at place path

abbrev pub AreAmongIn : Numbered → ℕ → ℕ → Path → List Item → Type 0
AreAmongIn it at place path items =
    (m : Module) × (top_module (setting_with it) ≡ Some m) × AreAmong it.design (all_in it) (shapes_in it m) at place path items
