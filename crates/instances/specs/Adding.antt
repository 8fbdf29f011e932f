-- Instances by the places of their modules, in pre-order.
use Rattle.std.specs.Prelude.{ℕ, zero, suc, ◌+◌, List, [], ◌∷◌, flat_map, length}
use Rattle.hierarchy.specs.Graph.{Graph, ahead}
use Rattle.instances.specs.declared.placed.Placed.{Placed}

-- an instance of the module at a place, and those that stand in it
abbrev pub placed_with : ℕ → List Placed → List Placed
placed_with place inner = record { «module» = place; size = 1 + length inner } ∷ inner

-- those from the module at a place down to a depth, in pre-order
unfoldable pub placed_from : Graph → ℕ → ℕ → List Placed
placed_from graph zero place = []
placed_from graph (suc depth) place = placed_with place (flat_map (placed_from graph depth) (ahead graph place))
