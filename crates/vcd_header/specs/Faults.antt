-- The first fault of a list, from the left.
use Rattle.std.specs.Prelude.{List, [], ◌∷◌, ◌++◌, Option, None, Some, if◌then◌else◌, Bool}
use Rattle.std.specs.Option.{option_or}
use Rattle.vcd_header.specs.declared.fault.VcdFault.{VcdFault}

-- the fault of the first item that has one, where what is a fault of an item is told by the items before it: these,
-- and those of the list that it stands behind
abbrev pub first_fault : {X : Type 0} → (List X → X → Option VcdFault) → List X → List X → Option VcdFault
first_fault fault before [] = None
first_fault fault before (item ∷ items) = option_or (fault before item) (first_fault fault (before ++ item ∷ []) items)

-- the fault, where the test is met
abbrev pub fault_if : Bool → VcdFault → Option VcdFault
fault_if test fault = if test then Some fault else None
