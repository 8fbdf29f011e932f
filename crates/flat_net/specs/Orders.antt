-- When values that may be missing are below others.
use Rattle.std.specs.Prelude.{◌≡◌, Bool, Option, Some}

-- where the first is a value, the second is the same one
abbrev pub IsBelow : Option Bool → Option Bool → Type 0
IsBelow first second = (value : Bool) → first ≡ Some value → second ≡ Some value
