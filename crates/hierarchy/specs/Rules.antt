-- The rules on modules and their instances: E1 to E3.
use Rattle.std.specs.Prelude.{ℕ, List, [], ◌∷◌, ◌++◌, Bool, ◌||◌, bytes_eq, cond, flat_map, is_none}
use Rattle.std.specs.List.{list_any}
use Rattle.vlog_tree.specs.declared.design.Design.{Design}
use Rattle.vlog_tree.specs.declared.design.Module.{Module}
use Rattle.vlog_tree.specs.declared.item.Item.{Item}
use Rattle.vlog_tree.specs.declared.item.Item.TheVariants as item
use Rattle.vlog_tree.specs.Meaning.Instances.{module_named}
use Rattle.vlog_tree.specs.Meaning.Uses.{Text}
use Rattle.hierarchy.specs.Failures.{Failure, failure}
use Rattle.hierarchy.specs.Reach.{leads, reached, reaches}

-- whether a module of the name is among these
abbrev pub has_module : List Module → Text → Bool
has_module modules name = list_any (λ m. bytes_eq m.name name) modules

-- E1: a module has the name of an earlier module
abbrev pub repeated_after : List Module → List Module → List Failure
repeated_after before [] = []
repeated_after before (m ∷ modules) =
    cond (has_module before m.name) (failure m.at [] m.name ∷ []) [] ++ repeated_after (before ++ m ∷ []) modules

abbrev pub repeated_modules : Design → List Failure
repeated_modules design = repeated_after [] design.modules

-- E2: no module has the top's name
abbrev pub missing_top : Design → Text → List Failure
missing_top design top = cond (has_module design.modules top) [] (failure 0 [] top ∷ [])

-- how many instances may stand one inside of the other, below the top
abbrev pub greatest_path : ℕ
greatest_path = 64

-- An instance in the module with the first name, of the module with the second, has no module, leads back to where it
-- stands, or ends too long a path.
abbrev pub is_bad_instance : Design → Text → Text → Text → Bool
is_bad_instance design top outer inner =
    is_none (module_named design inner) || (reaches design inner outer || leads design greatest_path top outer)

abbrev pub bad_instance : Design → Text → Module → Item → List Failure
bad_instance design top m (item.Instance at inner name links) =
    cond (is_bad_instance design top m.name inner) (failure at m.name name ∷ []) []
bad_instance design top m other = []

-- E3: an instance has no module, or its module reaches the one in which the instance stands, or the instance ends a path
-- of 65 instances below the top
abbrev pub bad_instances : Design → Text → List Failure
bad_instances design top = flat_map (λ m. flat_map (bad_instance design top m) m.items) (reached design top)

-- the rules of this crate, by their numbers
abbrev pub module_rules : Design → Text → List (ℕ × List Failure)
module_rules design top =
    (1, repeated_modules design) ∷ (2, missing_top design top) ∷ (3, bad_instances design top) ∷ []
