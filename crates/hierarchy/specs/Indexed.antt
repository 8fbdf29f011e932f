-- A design whose modules are known by name and by reach.
use Rattle.std.specs.Prelude.{ℕ, ◌≡◌, ◌<◌, List, Option, length}
use Rattle.vlog_tree.specs.declared.design.Design.{Design}
use Rattle.vlog_tree.specs.declared.design.Module.{Module}
use Rattle.vlog_tree.specs.Meaning.Uses.{Text}
use Rattle.hierarchy.specs.Graph.{AreDistinct, Rooted, place_among, rooted_at}

-- a design and the name of its top module
pub record Topped : Type 0 where
  pub design : Design
  pub top : Text

-- what is kept of the modules, where the top stands at this place
pub record IsIndexed (modules : List Module) (top : ℕ) (place_of : Text → Option ℕ) (rooted : Rooted) : Type 0 where
  pub distinct : AreDistinct modules
  pub places : place_of ≡ place_among modules
  pub is_rooted : rooted ≡ rooted_at modules top
  pub within : top < length modules
