-- The instances of a design in pre-order, each with its size.
use Rattle.std.specs.Prelude.{ℕ, zero, suc, ◌+◌, List, [], ◌∷◌, flat_map, length, map, slice_index_or}
use Rattle.vlog_tree.specs.declared.design.Design.{Design}
use Rattle.vlog_tree.specs.declared.design.Module.{Module}
use Rattle.vlog_tree.specs.Meaning.Instances.{children}

-- an instance: the module that it is of, and how many instances stand in it, with itself
pub record Shape : Type 0 where
  pub definition : Module
  pub size : ℕ

-- an instance of a module, and those that stand in it
abbrev pub shape_with : Module → List Shape → List Shape
shape_with m inner = record { definition = m; size = 1 + length inner } ∷ inner

-- those from a module down to a depth, in pre-order
unfoldable pub shapes_from : Design → ℕ → Module → List Shape
shapes_from design zero m = []
shapes_from design (suc depth) m =
    shape_with m (flat_map (λ child. shapes_from design depth child.definition) (children design m))

-- the size of the instance at a place
abbrev pub size_at : List Shape → ℕ → ℕ
size_at shapes place = slice_index_or (map (λ shape. shape.size) shapes) place 0
