-- What the tables keep of a name.
use Rattle.std.specs.Prelude.{ℕ, Bool, Option, bytes_eq}
use Rattle.std.specs.HashMap.{get_by}
use Rattle.std.specs.HashSet.{contains_by}
use Rattle.vlog_tree.specs.Meaning.Uses.{Text}
use Rattle.nets.specs.Nets.{Net}
use Rattle.nets.specs.declared.declarations.Declarations.{Declarations}
use Rattle.nets.specs.declared.places.Places.{Places}
use Rattle.nets.specs.declared.standing.Standing.{Standing}

abbrev pub net_in : Declarations → Text → Option Net
net_in declarations name = get_by (λ key. bytes_eq name key.now) declarations.nets

abbrev pub place_in_map : Places → Text → Option ℕ
place_in_map places name = get_by (λ key. bytes_eq name key.now) places.places

abbrev pub stands : Standing → Text → Bool
stands standing name = contains_by (λ key. bytes_eq name key.now) standing.names
