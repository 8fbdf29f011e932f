-- The names of a header, as they are kept.
use Rattle.std.specs.Prelude.{List, [], ◌∷◌, Bool, ◌||◌, bytes_eq, cond, is_some, not}
use Rattle.std.specs.HashMap.{get_by}
use Rattle.std.specs.List.{list_any}
use Rattle.hierarchy.specs.Failures.{Failure, failure}
use Rattle.vlog_tree.specs.declared.design.Module.{Module}
use Rattle.vlog_tree.specs.Meaning.Uses.{Text}
use Rattle.name_rules.specs.Declarations.{directs}
use Rattle.name_rules.specs.declared.header.Header.{Header}

abbrev pub has_in : Header → Text → Bool
has_in header name = is_some (get_by (λ key. bytes_eq name key.now) header.names)

-- what is wrong with a name of the header, where it is told which names stand before it
abbrev pub bad_port_by : Module → (Text → Bool) → Text → List Failure
bad_port_by m has name = cond (has name || not (list_any (directs name) m.items)) (failure m.at m.name name ∷ []) []
