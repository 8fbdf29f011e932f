-- The sizes that are tested when all nodes are there.
use Rattle.std.specs.Prelude.{⊤, ℕ, ◌≡◌, List, [], ◌∷◌, Some}
use Rattle.bm_base.specs.declared.size.Size.{Size}
use Rattle.bm_base.specs.declared.size.Size.TheVariants as size
use Rattle.flat_design.specs.Sizes.{first_too_large}
use Rattle.flat_net.specs.declared.fault.FlatFault.{FlatFault}
use Rattle.flat_net.specs.declared.fault.FlatFault.TheVariants.{Memory, TooLarge}

-- the last sizes of a flat netlist, in the order in which they are tested
abbrev pub last_sizes : ℕ → ℕ → List (Size × ℕ)
last_sizes registers inputs = (size.Registers, registers) ∷ (size.Inputs, inputs) ∷ []

-- There is no memory, or this is the first of some sizes that passes its limit.
abbrev pub RefusesBy : List (Size × ℕ) → FlatFault → Type 0
RefusesBy sizes Memory = ⊤
RefusesBy sizes (TooLarge what) = first_too_large sizes ≡ Some what
