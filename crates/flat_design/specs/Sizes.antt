-- The sizes of a flat netlist, and the first that passes its limit.
use Rattle.std.specs.Prelude.{ℕ, List, [], ◌∷◌, Option, None, Some, cond, length, nat_lt}
use Rattle.bm_base.specs.declared.size.Size.{Size}
use Rattle.bm_base.specs.declared.size.Size.TheVariants as size
use Rattle.bm_base.specs.Size.{limit_of}
use Rattle.vlog_tree.specs.Meaning.Instances.{instances}
use Rattle.vlog_tree.specs.Meaning.Keys.{input_keys, register_keys}
use Rattle.vlog_tree.specs.Meaning.Setting.{Setting}
use Rattle.flat_design.specs.Flat.{flat}

-- in the order in which they are tested; the top is an instance
abbrev pub sizes : Setting → List (Size × ℕ)
sizes setting =
    (size.Instances, length (instances setting)) ∷ (size.Nodes, length (flat setting).nodes)
    ∷ (size.Registers, length (register_keys setting)) ∷ (size.Inputs, length (input_keys setting)) ∷ []

abbrev pub first_too_large : List (Size × ℕ) → Option Size
first_too_large [] = None
first_too_large (one ∷ others) = cond (nat_lt (limit_of one.0) one.1) (Some one.0) (first_too_large others)

abbrev pub too_large : Setting → Option Size
too_large setting = first_too_large (sizes setting)
