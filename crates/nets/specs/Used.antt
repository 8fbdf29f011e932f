-- The uses of names, as they are kept.
use Rattle.std.specs.Prelude.{ℕ, List, [], ◌∷◌, true, Option, find, map}
use Rattle.std.specs.Option.{option_map}
use Rattle.nets.specs.declared.uses.Use.{Use}
use Rattle.vlog_tree.specs.declared.left.Left.{Left}
use Rattle.vlog_tree.specs.declared.left.Left.TheVariants.{Whole}
use Rattle.vlog_tree.specs.Meaning.Names.{is_named}
use Rattle.vlog_tree.specs.Meaning.Uses.{Text, use_of}
use Rattle.vlog_tree.specs.Meaning.Uses as meaning

abbrev pub use_shown : Use → meaning.Use
use_shown one = use_of one.at one.name.now one.is_whole

abbrev pub shown : List Use → List meaning.Use
shown uses = map use_shown uses

-- the place where a name stands first among these uses
abbrev pub first_place : Text → List meaning.Use → Option ℕ
first_place name uses = option_map (λ one. one.at) (find (is_named name) uses)

-- the left side of an assignment, where it is a whole name
abbrev pub whole_left : Left → List meaning.Use
whole_left (Whole at name) = use_of at name true ∷ []
whole_left other = []
