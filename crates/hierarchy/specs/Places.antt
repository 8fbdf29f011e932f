-- The place of a module, where places are kept by names.
use Rattle.std.specs.Prelude.{ℕ, Option, bytes_eq}
use Rattle.indexmap.specs.IndexMap.{get_by}
use Rattle.vlog_tree.specs.Meaning.Uses.{Text}
use Rattle.hierarchy.specs.declared.places.Places.{Places}

abbrev pub place_in : Places → Text → Option ℕ
place_in places name = get_by (λ key. bytes_eq name key.now) places.places
