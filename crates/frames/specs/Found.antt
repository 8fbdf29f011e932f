-- The places of the modules of a design.
use Rattle.std.specs.Prelude.{ℕ, ◌<◌, ◌≤◌, ◌≡◌, List, true, Option, None, Some, bytes_eq, cond, length, slice_get}
use Rattle.bm_base.specs.Size.{limit_of}
use Rattle.bm_base.specs.declared.size.Size.TheVariants.{Instances, Nodes}
use Rattle.hierarchy.specs.Reach.{reaches}
use Rattle.vlog_tree.specs.declared.design.Module.{Module}
use Rattle.vlog_tree.specs.Meaning.Instances.{Instance, greatest_depth}
use Rattle.instances.specs.Placing.{HasShapes, IsWithin}
use Rattle.instances.specs.Shapes.{shapes_from}
use Rattle.instances.specs.declared.placed.Placed.{Placed}
use Rattle.vlog_tree.specs.Meaning.Uses.{Text}
use Rattle.numbering.specs.Numbering.{is_top}
use Rattle.numbering.specs.Places.{Placing, count_of_bits, placing}
use Rattle.frames.specs.Numbered.{IsReady, Numbered, setting_with}

-- the clock of a module, where it is the top
abbrev pub clock_by : Numbered → Text → Option Text
clock_by it name = cond (bytes_eq name it.top) (Some it.clock) None

abbrev pub placing_of : Numbered → Module → Placing
placing_of it m = placing m (clock_by it m.name)

-- The places are those of the module. There are none where it is not reached, or where its bits are too many.
abbrev pub IsFound : Numbered → Module → Option Placing → Type 0
IsFound it m None = reaches it.design it.top m.name ≡ true → limit_of Nodes < count_of_bits (placing_of it m)
IsFound it m (Some found) = found ≡ placing_of it m

-- The places are those of so many modules, the first ones.
pub record HavePlaces (it : Numbered) (count : ℕ) (places : List (Option Placing)) : Type 0 where
  pub counted : length places ≡ count
  pub each : (place : ℕ) (m : Module) (found : Option Placing) → slice_get it.design.modules place ≡ Some m
      → slice_get places place ≡ Some found → IsFound it m found

-- where the bits of an instance stand among those of its module
abbrev pub placing_for : Numbered → Instance → Placing
placing_for it instance = placing instance.definition (cond (is_top instance) (Some it.clock) None)

-- The instances are those of the design, and the places those of its modules.
pub record IsGround (it : Numbered) (list : List Placed) (found : List (Option Placing)) : Type 0 where
  pub ready : IsReady (setting_with it)
  pub shapes : HasShapes it.design.modules list (shapes_from it.design greatest_depth ready.top.0)
  pub within : IsWithin (length it.design.modules) list
  pub limited : length list ≤ limit_of Instances
  pub places : HavePlaces it (length it.design.modules) found
