-- The registers that have an initial value, as they are kept.
use Rattle.std.specs.Prelude.{List, [], ◌∷◌, Bool, bytes_eq, cond}
use Rattle.std.specs.HashSet.{contains_by}
use Rattle.hierarchy.specs.Failures.{Failure, failure}
use Rattle.vlog_tree.specs.declared.design.Module.{Module}
use Rattle.vlog_tree.specs.declared.item.Item.{Item}
use Rattle.vlog_tree.specs.declared.item.Item.TheVariants as item
use Rattle.vlog_tree.specs.Meaning.Uses.{Text}
use Rattle.driver_rules.specs.declared.initials.Begun.{Begun}

abbrev pub begun_in : Begun → Text → Bool
begun_in begun name = contains_by (λ key. bytes_eq name key.now) begun.names

-- what is wrong with an item, where it is told which registers begin before it
abbrev pub second_by : Module → (Text → Bool) → Item → List Failure
second_by m has (item.Initial at name value) = cond (has name) (failure at m.name name ∷ []) []
second_by m has other = []
